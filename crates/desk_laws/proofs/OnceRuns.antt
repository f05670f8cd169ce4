-- What every item and every step of a firm keeps, every run keeps.
use Rattle.desk_laws.proofs.Names.{ℕ, List, [], ◌∷◌, Option, Some, None, sym, subst, Refusal, Line, Edit, last_after, BankLine, LineEffect, Asked, line_on, refusal, edit_on, BalanceKind, Firm, of, acted, after_edit, FirmChange, Dismissed, Repeated, Unmatched, after, FitsFirm, by_balance, by_firm_line, balance-fits, firm_line-fits, Item, Reply, after_told, after_item, after_items, after_balance, balance_on, firm_line_on, Heard, Kind, OfMatter, OfItems, Dismisses, kind_of, asked_on, dismiss_refusal, dismissed_unless, is_fault_reply, after_asked, firm_step, kind_step, KindStopped, Steps, Runs, DayRun, RunsOn, arith, ints, nat_tests}
use Rattle.matter_rows.specs.declared.act.Act.{Act}
use Rattle.trust_matter.specs.Step.{act_on}
use Rattle.trust_matter.specs.declared.line_verdict.LineEffect.TheVariants as told
use Rattle.firm_rows.specs.declared.ledger.BalanceKind.TheVariants as kind
use Rattle.statement_csv.specs.declared.item.Item.TheVariants as item
use Rattle.trust_desk.specs.ItemStep.{told_act}

-- By items.

module _ (P : Firm → Type 0) (item-keeps : (day : ℕ) (firm : Firm) (it : Item) → P firm → P (after_item day firm it)) where
  pub items-keep : (day : ℕ) (firm : Firm) (items : List Item) → P firm → P (after_items day firm items)
  items-keep day firm [] is = is
  items-keep day firm (it ∷ items) is = items-keep day (after_item day firm it) items (item-keeps day firm it is)

-- By runs.

module _ (P : Firm → Type 0) (item-keeps : (day : ℕ) (firm : Firm) (it : Item) → P firm → P (after_item day firm it)) (step-keeps : (day : ℕ) (firm : Firm) (h : Heard) → P firm → P (firm_step day firm h).firm) where
  stopped-keeps : (day : ℕ) (firm new : Firm) (k : Kind) → KindStopped day firm k new → P firm → P new
  stopped-keeps day firm new (OfItems refused items) stop is = subst P (sym stop.1.leaves) (items-keep P item-keeps day firm stop.1.front is)
  stopped-keeps day firm new _ stop is = subst P (sym stop) is

  one-keeps : (day : ℕ) (firm new : Firm) (h : Heard) (reply : Reply) → Steps day firm h reply new → P firm → P new
  one-keeps day firm new h reply step is =
      grind (arith, ints, nat_tests, is_fault_reply, firm_step, stopped-keeps, kind_of)

  run-keeps : (day : ℕ) (firm new : Firm) (hs : List Heard) (replies : List Reply) → Runs day firm hs replies new → P firm → P new
  run-keeps day firm new [] [] run is = subst P (sym run) is
  run-keeps day firm new (h ∷ hs) (reply ∷ replies) run is = run-keeps day run.0 new hs replies run.2 (one-keeps day firm run.0 h reply run.1 is)
  run-keeps day firm new _ _ run is = absurd run

  pub runs-keep : (firm new : Firm) (runs : List DayRun) → RunsOn firm runs new → P firm → P new
  runs-keep firm new [] run is = subst P (sym run) is
  runs-keep firm new (r ∷ runs) run is = runs-keep run.0 new runs run.2 (run-keeps r.day firm run.0 r.heard r.replies run.1 is)

  -- by the rest of a file, by runs and by the front of another file
  pub all-keep : (day later : ℕ) (firm mid : Firm) (it : Item) (rest front : List Item) (between : List DayRun)
      → RunsOn (after_items day firm (it ∷ rest)) between mid → P (after_item day firm it) → P (after_items later mid front)
  all-keep day later firm mid it rest front between runs is =
      items-keep P item-keeps later mid front (runs-keep (after_items day (after_item day firm it) rest) mid between runs (items-keep P item-keeps day (after_item day firm it) rest is))

-- What the changes of a firm that fit keep, and the edits of its matters.

module _ (P : Firm → Type 0) (change-keeps : (change : FirmChange) (firm : Firm) → FitsFirm firm change → P firm → P (after change firm)) (edit-keeps : (m : ℕ) (e : Edit) (last : ℕ) (act : Option Act) (firm : Firm) → P firm → P (acted m e act (after_edit m e last firm))) where
  told-keeps : (l : BankLine) (day : ℕ) (e : LineEffect) (firm : Firm) → P firm → P (after_told l day e firm)
  told-keeps l day (told.Applied e) firm is =
      let act : Option Act = Some (told_act l day firm) in
      change-keeps (Repeated l.line) (acted l.matter e.edit act (after_edit l.matter e.edit e.last firm)) tt
      (edit-keeps l.matter e.edit e.last act firm is)
  told-keeps l day told.Repeat firm is = change-keeps (Repeated l.line) firm tt is
  told-keeps l day (told.Unmatched r) firm is = change-keeps (Unmatched l.line) firm tt is

  balance-keeps : (day : ℕ) (firm : Firm) (k : BalanceKind) (line : Line) → P firm → P (after_balance k line day firm)
  balance-keeps day firm k line is = grind (arith, ints, nat_tests, balance_on, by_balance, balance-fits)

  each-item : (day : ℕ) (firm : Firm) (it : Item) → P firm → P (after_item day firm it)
  each-item day firm (item.Opening line) is = balance-keeps day firm kind.Opening line is
  each-item day firm (item.Closing line) is = balance-keeps day firm kind.Closing line is
  each-item day firm (item.OfMatter l) is = told-keeps l day (line_on (of l.matter firm) l day) firm is
  each-item day firm (item.OfFirm line) is = grind (arith, ints, nat_tests, firm_line_on, by_firm_line, firm_line-fits)
  each-item day firm (item.Stray line) is = change-keeps (Unmatched line) firm tt is
  each-item day firm (item.Unreadable number) is = is

  asked-keeps : (o : Option Refusal) (m : ℕ) (a : Asked) (firm : Firm) → P firm → P (after_asked o m a firm)
  asked-keeps None m a firm is =
      let e = edit_on (of m firm) a in
      edit-keeps m e (last_after (of m firm).head e a.day) (act_on (of m firm) a) firm is
  asked-keeps (Some r) m a firm is = is

  dismissed-keeps : (day : ℕ) (o : Option Refusal) (line : Line) (firm : Firm) → P firm → P (dismissed_unless day o line firm)
  dismissed-keeps day None line firm is = change-keeps (Dismissed day line) firm tt is
  dismissed-keeps day (Some r) line firm is = is

  each-kind : (day : ℕ) (firm : Firm) (k : Kind) → P firm → P (kind_step day firm k).firm
  each-kind day firm (OfMatter m caller ask) is = asked-keeps (refusal (of m firm) (asked_on day caller ask)) m (asked_on day caller ask) firm is
  each-kind day firm (OfItems refused items) is = items-keep P each-item day firm items is
  each-kind day firm (Dismisses caller line) is = dismissed-keeps day (dismiss_refusal caller line firm) line firm is
  each-kind day firm _ is = is

  each-step : (day : ℕ) (firm : Firm) (h : Heard) → P firm → P (firm_step day firm h).firm
  each-step day firm h is = each-kind day firm (kind_of h) is

  pub changes-keep : (day later : ℕ) (firm mid : Firm) (it : Item) (rest front : List Item) (between : List DayRun)
      → RunsOn (after_items day firm (it ∷ rest)) between mid → P (after_item day firm it) → P (after_items later mid front)
  changes-keep = all-keep P each-item each-step

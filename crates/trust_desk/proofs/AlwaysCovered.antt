-- No step leaves a firm unsound.
use Rattle.trust_desk.proofs.Names.{◌≡◌, ℕ, List, [], ◌∷◌, Option, Some, None, refl, Refusal, BankLine, LineEffect, Asked, line_on, last_after, HasAmount, refusal, edit_on, sound-covered, step, Line, BalanceKind, Firm, of, acted, after_edit, after, by_balance, by_firm_line, FirmSound, edit-sound, sound-trail, ledger-least, balance-fits, firm_line-fits, Item, after_told, after_item, after_items, balance_on, firm_line_on, Heard, Kind, OfMatter, OfItems, Dismisses, kind_of, asked_on, after_asked, after_ask, firm_step, kind_step, dismiss_refusal, dismissed_unless, AlwaysSound, arith, ints, nat_tests}
use Rattle.trust_matter.specs.declared.line_verdict.LineEffect.TheVariants as told
use Rattle.firm_rows.specs.declared.ledger.BalanceKind.TheVariants as kind
use Rattle.firm_rows.proofs.FirmChanges.{change-stays-sound}
use Rattle.firm_rows.proofs.Lines.{dismissed-sound, match-sound, stray-stays-sound}
use Rattle.firm_rows.specs.Firm.{joined_acts}
use Rattle.statement_csv.specs.declared.item.Item.TheVariants as item
use Rattle.trust_matter.specs.Step.{act_on}
use Rattle.trust_desk.specs.ItemStep.{told_act}
use Rattle.trust_desk.specs.NeverBelowZero.{HasAmounts, KindHasAmounts, IsCovered, AlwaysCoveredBy, KindIsCovered, NeverBelowZero, RunsNeverBelowZero}
use Rattle.trust_desk.proofs.LineFacts.{kept-by_step, line-fits}

pub sound-after_ask : (m : ℕ) (a : Asked) (firm : Firm) → HasAmount a.ask → FirmSound firm → FirmSound (after_ask m a firm)
sound-after_ask m a firm amount sound = cases (refusal (of m firm) a) refl
  where
    cases : (o : Option Refusal) → refusal (of m firm) a ≡ o → FirmSound (after_asked o m a firm)
    cases None accepted =
        let s = step (of m firm) a (sound.matters m) amount accepted in
        let e = edit_on (of m firm) a in
        let last = last_after (of m firm).head e a.day in
        let edited = after_edit m e last firm in
        sound-trail (joined_acts m e (act_on (of m firm) a) edited.acts) edited.dismissals edited
        (edit-sound sound-covered m e last firm sound (kept-by_step s))
    cases (Some r) told = sound

-- Items.

sound-after_told : (day : ℕ) (l : BankLine) (e : LineEffect) (firm : Firm) → line_on (of l.matter firm) l day ≡ e → FirmSound firm → FirmSound (after_told l day e firm)
sound-after_told day l (told.Applied e) firm applied sound =
    let s = line-fits (of l.matter firm) l day e (sound.matters l.matter) applied in
    let edited = after_edit l.matter e.edit e.last firm in
    match-sound l.line (acted l.matter e.edit (Some (told_act l day firm)) edited)
    (sound-trail (joined_acts l.matter e.edit (Some (told_act l day firm)) edited.acts) edited.dismissals edited
    (edit-sound sound-covered l.matter e.edit e.last firm sound s))
sound-after_told day l told.Repeat firm repeat sound = match-sound l.line firm sound
sound-after_told day l (told.Unmatched r) firm unmatched sound = stray-stays-sound l.line firm sound

sound-balance : (day : ℕ) (kind : BalanceKind) (line : Line) (firm : Firm) → FirmSound firm → FirmSound (after (by_balance kind line (balance_on firm kind line day)) firm)
sound-balance day kind line firm sound =
    let v = balance_on firm kind line day in
    change-stays-sound sound-covered (by_balance kind line v) firm sound (balance-fits firm kind line v (day, refl))

pub sound-after_item : (day : ℕ) (firm : Firm) (it : Item) → FirmSound firm → FirmSound (after_item day firm it)
sound-after_item day firm (item.Opening line) sound = sound-balance day kind.Opening line firm sound
sound-after_item day firm (item.Closing line) sound = sound-balance day kind.Closing line firm sound
sound-after_item day firm (item.OfMatter l) sound = sound-after_told day l (line_on (of l.matter firm) l day) firm refl sound
sound-after_item day firm (item.OfFirm line) sound =
    let change = by_firm_line line (firm_line_on firm line day) in
    change-stays-sound sound-covered change firm sound (firm_line-fits firm line (firm_line_on firm line day) (day, refl))
sound-after_item day firm (item.Stray line) sound = stray-stays-sound line firm sound
sound-after_item day firm (item.Unreadable number) sound = sound

pub sound-after_items : (day : ℕ) (firm : Firm) (items : List Item) → FirmSound firm → FirmSound (after_items day firm items)
sound-after_items day firm [] sound = sound
sound-after_items day firm (it ∷ items) sound = sound-after_items day (after_item day firm it) items (sound-after_item day firm it sound)

pub always-sound : (day : ℕ) (firm : Firm) (items : List Item) → FirmSound firm → AlwaysSound day firm items
always-sound day firm [] sound = sound
always-sound day firm (it ∷ items) sound = (sound, always-sound day (after_item day firm it) items (sound-after_item day firm it sound))

-- Steps.

sound-dismissed : (day : ℕ) (o : Option Refusal) (line : Line) (firm : Firm) → FirmSound firm → FirmSound (dismissed_unless day o line firm)
sound-dismissed day None line firm sound = dismissed-sound day line firm sound
sound-dismissed day (Some r) line firm sound = sound

sound-kind_step : (day : ℕ) (firm : Firm) (k : Kind) → KindHasAmounts k → FirmSound firm → FirmSound (kind_step day firm k).firm
sound-kind_step day firm (OfMatter m caller ask) amount sound = sound-after_ask m (asked_on day caller ask) firm amount sound
sound-kind_step day firm (OfItems refused items) amount sound = sound-after_items day firm items sound
sound-kind_step day firm (Dismisses caller line) amount sound = sound-dismissed day (dismiss_refusal caller line firm) line firm sound
sound-kind_step day firm _ amount sound = sound

pub sound-firm_step : (day : ℕ) (firm : Firm) (h : Heard) → HasAmounts h → FirmSound firm → FirmSound (firm_step day firm h).firm
sound-firm_step day firm h amounts sound = sound-kind_step day firm (kind_of h) amounts sound

covered : (firm : Firm) → FirmSound firm → IsCovered firm
covered firm sound = record { sound = sound; ledgers = λ m. ledger-least sound-covered (of m firm) (sound.matters m) }

covered-by : (day : ℕ) (firm : Firm) (items : List Item) → FirmSound firm → AlwaysCoveredBy day firm items
covered-by day firm [] sound = covered firm sound
covered-by day firm (it ∷ items) sound = (covered firm sound, covered-by day (after_item day firm it) items (sound-after_item day firm it sound))

covered-in : (day : ℕ) (firm : Firm) (k : Kind) → FirmSound firm → KindIsCovered day firm k
covered-in day firm k sound = grind (arith, ints, nat_tests, covered-by, covered)

pub always-covered : NeverBelowZero
always-covered day firm [] sound amounts = covered firm sound
always-covered day firm (h ∷ hs) sound amounts = (covered-in day firm (kind_of h) sound, always-covered day (firm_step day firm h).firm hs (sound-firm_step day firm h amounts.0 sound) amounts.1)

pub runs-covered : RunsNeverBelowZero
runs-covered day firm new [] [] sound run = (run, covered firm sound)
runs-covered day firm new (h ∷ hs) (reply ∷ replies) sound run =
    (run.0, run.1, covered-in day firm (kind_of h) sound, runs-covered day run.0 new hs replies run.2 run.3)
runs-covered day firm new _ _ sound run = absurd run

pub ruleset covered_laws = (runs-covered, always-covered)

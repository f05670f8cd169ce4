-- A line of the firm's own, and a balance, that were applied are so once after every run.
use Rattle.desk_laws.proofs.Names.{◌≡◌, ◌≢◌, ℕ, Bool, true, false, Option, Some, None, refl, sym, ap, ◌∙◌, subst, ℤ, nat_le, if◌then◌else◌, list_any, int_eq, bytes_eq, Decides-int_eq, Line, Edit, BalanceKind, Firm, acted, after_edit, after, by_balance, by_firm_line, is_kept_as, is_bookable, kept_balance, balance_verdict, edit-leaves, line-kept, lines-stay, balance-kept, balances-stay, after_balance, after_item, after_items, balance_item, balance_on, counted_by, counted_of, firm_line_on, IsRepeated, IsUnmatched, IsSameFirmLine, FirmLineOnce, IsBalanceOver, BalanceOnce, arith, ints, nat_tests}
use Rattle.matter_rows.specs.declared.act.Act.{Act}
use Rattle.firm_rows.specs.declared.ledger.Verdict.TheVariants as own
use Rattle.firm_rows.specs.LinesStay.{is_line_kept}
use Rattle.statement_csv.specs.declared.item.Item.TheVariants as item
use Rattle.trust_desk.specs.declared.importing.Counted.TheVariants as counted
use Rattle.desk_laws.proofs.OnceRuns.{changes-keep}

-- A line of the firm's own.

-- one that is no exception is kept
line-first : (day : ℕ) (firm : Firm) (line : Line) → counted_of day firm (item.OfFirm line) ≢ counted.Exception → is_line_kept line (after_item day firm (item.OfFirm line)) ≡ true
line-first day firm line some = grind (arith, ints, nat_tests, after, line-kept)

-- and stays kept
abbrev KeepsLine : Line → Firm → Type 0
KeepsLine line firm = is_line_kept line firm ≡ true

line-edits : (line : Line) (m : ℕ) (e : Edit) (last : ℕ) (act : Option Act) (firm : Firm) → KeepsLine line firm → KeepsLine line (acted m e act (after_edit m e last firm))
line-edits line m e last act firm kept = ap (list_any (is_kept_as line)) (edit-leaves m e last firm).0 ∙ kept

-- the same line is kept as well
same-kept : (line again : Line) (firm : Firm) → IsSameFirmLine line again → KeepsLine line firm → KeepsLine again firm
same-kept line again firm same kept = grind (arith, ints, nat_tests, list_any, bytes_eq, int_eq)

-- one that is kept is a repeat
line-repeat : (day : ℕ) (firm : Firm) (line : Line) → KeepsLine line firm → IsRepeated day firm (item.OfFirm line) line
line-repeat day firm line kept =
    grind (arith, ints, nat_tests, firm_line_on, is_bookable, counted_by, after, by_firm_line)

pub firm-line-once : FirmLineOnce
firm-line-once line again day later firm mid rest front between some same runs =
    let now = after_items later mid front in
    line-repeat later now again (same-kept line again now same
    (changes-keep (KeepsLine line) (λ change f fits kept. lines-stay line change f kept) (line-edits line) day later firm mid (item.OfFirm line) rest front between runs (line-first day firm line some)))

-- A balance.

pub counted-balance : (k : BalanceKind) (day : ℕ) (firm : Firm) (line : Line) → counted_of day firm (balance_item k line) ≡ counted_by (balance_on firm k line day)
counted-balance k day firm line = grind (arith, ints, nat_tests)

pub after-balance : (k : BalanceKind) (day : ℕ) (firm : Firm) (line : Line) → after_item day firm (balance_item k line) ≡ after_balance k line day firm
after-balance k day firm line = grind (arith, ints, nat_tests)

abbrev KeepsBalance : BalanceKind → Line → Firm → Type 0
KeepsBalance k line firm = kept_balance k line.date firm.balances ≡ Some line.amount

-- one that is no exception is kept
balance-first : (k : BalanceKind) (day : ℕ) (firm : Firm) (line : Line) → counted_by (balance_on firm k line day) ≢ counted.Exception → KeepsBalance k line (after_balance k line day firm)
balance-first k day firm line some = cases (kept_balance k line.date firm.balances) refl some
  where
    fresh : (b : Bool) → counted_by (if b then own.Applied else own.Unmatched) ≢ counted.Exception → KeepsBalance k line (after (by_balance k line (if b then own.Applied else own.Unmatched)) firm)
    fresh true some = balance-kept k line firm
    fresh false some = absurd (some refl)

    again : (amount : ℤ) (b : Bool) → int_eq amount line.amount ≡ b → kept_balance k line.date firm.balances ≡ Some amount → counted_by (if b then own.Repeat else own.Unmatched) ≢ counted.Exception
        → KeepsBalance k line (after (by_balance k line (if b then own.Repeat else own.Unmatched)) firm)
    again amount true equal kept some = kept ∙ ap Some ((Decides-int_eq amount line.amount).0 equal)
    again amount false other kept some = absurd (some refl)

    cases : (o : Option ℤ) → kept_balance k line.date firm.balances ≡ o → counted_by (balance_verdict o line day) ≢ counted.Exception → KeepsBalance k line (after (by_balance k line (balance_verdict o line day)) firm)
    cases None none some = fresh (nat_le line.date day) some
    cases (Some amount) kept some = again amount (int_eq amount line.amount) refl kept some

-- and stays kept
balance-edits : (k : BalanceKind) (line : Line) (m : ℕ) (e : Edit) (last : ℕ) (act : Option Act) (firm : Firm) → KeepsBalance k line firm → KeepsBalance k line (acted m e act (after_edit m e last firm))
balance-edits k line m e last act firm kept = ap (kept_balance k line.date) (edit-leaves m e last firm).1 ∙ kept

-- where it is kept, the rule answers by the amount alone
module _ (day : ℕ) (firm : Firm) (k : BalanceKind) (line again : Line) (date : again.date ≡ line.date) (kept : KeepsBalance k line firm) where
  verdict : (b : Bool) → int_eq line.amount again.amount ≡ b → balance_on firm k again day ≡ (if b then own.Repeat else own.Unmatched)
  verdict b is = ap (λ o. balance_verdict o again day) (ap (λ d. kept_balance k d firm.balances) date ∙ kept) ∙ ap (λ c. if c then own.Repeat else own.Unmatched) is

  same : again.amount ≡ line.amount → IsRepeated day firm (balance_item k again) again
  same equal =
      let v = verdict true ((Decides-int_eq line.amount again.amount).1 (sym equal)) in
      record { repeat = counted-balance k day firm again ∙ ap counted_by v; leaves = after-balance k day firm again ∙ ap (λ u. after (by_balance k again u) firm) v }

  unequal : (b : Bool) → int_eq line.amount again.amount ≡ b → again.amount ≢ line.amount → b ≡ false
  unequal b is apart = grind (arith, ints, nat_tests, again)

  other : again.amount ≢ line.amount → IsUnmatched day firm (balance_item k again) again
  other apart =
      let v = verdict false (unequal (int_eq line.amount again.amount) refl apart) in
      record { exception = counted-balance k day firm again ∙ ap counted_by v; leaves = after-balance k day firm again ∙ ap (λ u. after (by_balance k again u) firm) v }

  pub balance-over : IsBalanceOver day firm k line again
  balance-over = record { kept = kept; same = same; other = other }

pub balance-once : BalanceOnce
balance-once k line again day later firm mid rest front between some date runs =
    let first : KeepsBalance k line (after_item day firm (balance_item k line)) =
    subst (KeepsBalance k line) (sym (after-balance k day firm line))
    (balance-first k day firm line (λ is. some (counted-balance k day firm line ∙ is))) in
    balance-over later (after_items later mid front) k line again date
    (changes-keep (KeepsBalance k line) (balances-stay k line.date line.amount) (balance-edits k line) day later firm mid (balance_item k line) rest front between runs first)

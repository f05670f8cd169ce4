-- How an item is applied, by what is decided of it and by the calls of the book.
use Rattle.trust_desk.proofs.Names.{Seen, ◌≡◌, ◌≤◌, ℕ, true, None, Some, Ok, Err, Result, sym, ap, ◌∙◌, Sound, Part, IsPart, holds_for_line, line-held, Line, StoreFault, BankLine, LineEffect, Rows, LineDecides, BalanceKind, Verdict, Firm, FirmChange, of, acted, after, after_edit, by_balance, by_line, Item, counted, counted_fault, IsRead, IsWrite, Counted, IsItemApplied, after_item, after_told, balance_item, balance_on, counted_as, counted_by, counted_of, counted_verdict, arith, ints, nat_tests, IsPartFor}
use Rattle.trust_matter.specs.declared.line_verdict.LineVerdict.{LineVerdict}
use Rattle.trust_matter.specs.declared.line_verdict.LineVerdict.TheVariants as verdict
use Rattle.firm_rows.specs.Firm.{after_match}
use Rattle.statement_csv.specs.declared.item.Item.TheVariants as item
use Rattle.trust_desk.proofs.Calls.{kept-as, kept-then, read-kept, write-kept}
use Rattle.trust_desk.proofs.Crashes.{leave-failed, read-leaves, written-leaves}

-- A verdict.

-- what is written is the step
pub verdict-tells : (day : ℕ) (firm : Firm) (l : BankLine) (v : LineVerdict) → LineDecides (of l.matter firm) l day (Ok v)
    → (counted_verdict v ≡ counted_of day firm (item.OfMatter l)) × (after (by_line l v) firm ≡ after_item day firm (item.OfMatter l))
verdict-tells day firm l (verdict.Applied c) d = (
  sym (ap counted_as d.applied),
  (λ i. after_match l.line (acted l.matter c.edit (d.act i) (after_edit l.matter c.edit c.last firm)))
      ∙ sym (ap (λ (e : LineEffect). after_told l day e firm) d.applied),
)
verdict-tells day firm l verdict.Repeat d = (
  sym (ap counted_as d),
  sym (ap (λ (e : LineEffect). after_told l day e firm) d),
)
verdict-tells day firm l (verdict.Unmatched r) d = (
  sym (ap counted_as d),
  sym (ap (λ (e : LineEffect). after_told l day e firm) d),
)

-- what was read for a line is enough to decide it
pub line-decided : (rows : Rows) (l : BankLine) (day : ℕ) (part : Part) (result : Result LineVerdict StoreFault) → 1 ≤ l.entry
    → Sound rows → IsPartFor rows (Some l.entry) None part
    → (holds_for_line part l.entry ≡ true → (rows : Rows) → Sound rows → IsPart part rows → LineDecides rows l day result)
    → LineDecides rows l day result
line-decided rows l day part result some sound is decided =
    decided (line-held rows l.entry None part some is) rows sound is.is_part

-- a fault of the decision is no fault of the store
pub decision-uncounted : (rows : Rows) (l : BankLine) (day : ℕ) (fault : StoreFault) (n : ℕ) → LineDecides rows l day (Err fault) → counted_fault fault n ≡ n
decision-uncounted rows l day fault n d = grind (arith, ints, nat_tests)

-- A balance.

pub balance-tells : (k : BalanceKind) (day : ℕ) (firm : Firm) (line : Line) (v : Verdict) → v ≡ balance_on firm k line day
    → (counted_by v ≡ counted_of day firm (balance_item k line)) × (after (by_balance k line v) firm ≡ after_item day firm (balance_item k line))
balance-tells k day firm line v is = grind (arith, ints, nat_tests, counted_by, after, by_balance)

-- The calls of the book.

module _ {old new : Seen} (day : ℕ) (it : Item) where
  -- what was read tells how the item is counted, and what is written for it
  pub item-written : {T U : Type 0} {read : T} {done : U} {change : FirmChange} {now : Seen} (k : Counted)
      → IsRead (Ok read) old now → IsWrite change (Ok done) now new
      → (now.clean → old.stands → (k ≡ counted_of day old.firm it) × (after change old.firm ≡ after_item day old.firm it)) → IsItemApplied day it (Ok k) old new
  item-written {change} k read write tells =
      grind (arith, ints, nat_tests, after, kept-then, read-kept, write-kept, written-leaves)

  pub item-unwritten : {T U : Type 0} {read : T} {change : FirmChange} {now : Seen} (k : Counted) (fault : StoreFault)
      → IsRead (Ok read) old now → IsWrite {T = U} change (Err fault) now new
      → (now.clean → old.stands → (k ≡ counted_of day old.firm it) × (after change old.firm ≡ after_item day old.firm it)) → IsItemApplied day it (Err fault) old new
  item-unwritten {change} k fault read write tells =
      grind (arith, ints, nat_tests, kept-then, read-kept, write-kept, written-leaves)

  -- nothing was decided on what was read, for a fault that the book does not count
  pub item-undecided : {T : Type 0} {read : T} (fault : StoreFault) → IsRead (Ok read) old new
      → (new.sure → (old.clean → old.stands) → counted {T = Counted} (Err fault) old.refusals ≡ old.refusals)
      → IsItemApplied day it (Err fault) old new
  item-undecided fault read none = grind (arith, ints, nat_tests, kept-as, read-kept, leave-failed, read-leaves)

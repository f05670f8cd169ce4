-- What a refusal of an ask is, and what is read for the ask.
use Rattle.trust_desk.proofs.Names.{◌≡◌, ◌⊎◌, ℕ, true, false, Option, Some, sym, ◌∙◌, arith, and_from, false≢true, nat_tests, Refusal, StoreFault, is_fault, refused_by, Ask, fund_named, number_named, Part, IsWhole, entry_in, kept_at, is_whole, Rows, MayRefuse, counted_fault, named-held, is_store, counted_refusal, IsReadFor, ints, IsPartFor}
use Rattle.matter_rows.specs.Shares.{number_or_none}
use Rattle.matter_parts.proofs.AllKept.{whole-all}

-- it is the ask's or a fault, and none of the store
pub record IsTold (o : Option Refusal) (r : Refusal) : Type 0 where
  pub why : (is_fault r ≡ true) ⊎ (o ≡ Some r)
  pub told : is_store r ≡ false

pub refused-by : (o : Option Refusal) (r : Refusal) → MayRefuse o r → IsTold o r
refused-by o r h = grind (arith, ints, nat_tests)

pub fault-told : (fault : StoreFault) → is_fault (refused_by fault) ≡ true
fault-told fault = grind (arith, ints, nat_tests)

pub fault-counted : (fault : StoreFault) (n : ℕ) → counted_fault fault n ≡ counted_refusal (refused_by fault) n
fault-counted fault n = grind (arith, ints, nat_tests)

-- What is read of a matter.

-- a matter that is read whole holds what any ask names
pub whole-for : (rows : Rows) (ask : Ask) (part : Part) → IsWhole part rows → IsReadFor rows ask part
whole-for rows ask part whole = grind (arith, ints, nat_tests, and_from, entry_in, kept_at, whole-all)

-- and so does what is read for the entries that it names
pub named-for : (rows : Rows) (ask : Ask) (entry other : Option ℕ) (part : Part) → number_or_none entry ≡ number_named ask → number_or_none other ≡ fund_named ask → is_whole ask ≡ false → IsPartFor rows entry other part → IsReadFor rows ask part
named-for rows ask entry other part same fund plain is = record {
  is_part = is.is_part;
  held = named-held rows ask entry other part same fund is;
  whole = λ card. absurd (false≢true (sym plain ∙ card));
}

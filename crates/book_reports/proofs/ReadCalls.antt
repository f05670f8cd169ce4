-- One read of a book after another.
use Rattle.std.specs.Prelude.{◌≡◌, ℕ, List, Result, Ok, Err}
use Rattle.std.proofs.Common.{ap, subst, ◌∙◌}
use Rattle.trust_base.specs.declared.refusal.StoreFault.TheVariants as faults
use Rattle.book_reports.proofs.Names.{AreHanded, Firm, Seen, StoreFault, IsRead, arith, counted, ints, nat_tests}
use Rattle.book_reports.specs.Checking.{AreReads, IsRaisedBy}

-- a read takes no fault off the count
counts-read : {T : Type 0} (result : Result T StoreFault) (before after : ℕ) → after ≡ counted result before → IsRaisedBy 0 before after
counts-read (Ok x) before after is = omega arith
counts-read (Err faults.Store) before after is = omega arith
counts-read (Err faults.Memory) before after is = omega arith

-- and one that was refused adds one
counts-refused : {T : Type 0} (result : Result T StoreFault) (before after : ℕ) → after ≡ counted result before → result ≡ Err faults.Store
    → IsRaisedBy 1 before after
counts-refused {T} result before after is refused =
    let one : after ≡ counted {T = T} (Err faults.Store) before = is ∙ ap (λ r. counted r before) refused in
    omega (arith, one)

pub refused_read : {T : Type 0} {result : Result T StoreFault} {old new : Seen} → IsRead result old new → result ≡ Err faults.Store
    → IsRaisedBy 1 old.refusals new.refusals
refused_read {result} {old} {new} read refused = counts-refused result old.refusals new.refusals read.count refused

-- a read is a series of reads
pub reads_of_read : {T : Type 0} {result : Result T StoreFault} {old new : Seen} → IsRead result old new → AreReads old new
reads_of_read {result} {old} {new} read = record { same = read.same; was_clean = read.was_clean; was_sure = read.was_sure; still_stands = read.still_stands; still_lasts = read.still_lasts; crash = λ clean stands. read.crash (new.clean_is_sure clean) stands; counts = counts-read result old.refusals new.refusals read.count }

-- and so is one such series after another
pub reads_then : {old mid new : Seen} → AreReads old mid → AreReads mid new → AreReads old new
reads_then {old} {mid} {new} a b = grind (arith, ints, nat_tests)

-- a read after another
pub read-then : {T U : Type 0} {x : T} {result : Result U StoreFault} {old now new : Seen}
    → IsRead (Ok x) old now → IsRead result now new
    → IsRead result old new
read-then {result} a b = grind (arith, ints, nat_tests, counted)

-- what was read, without memory to tell of it
pub read-short : {T U : Type 0} {x : T} {old new : Seen}
    → IsRead (Ok x) old new
    → IsRead {T = U} (Err faults.Memory) old new
read-short r = grind (arith, ints, nat_tests)

-- What a later read hands over is of the rows that were there before the first.

pub handed-before : {S A T : Type 0} {step : S → A → S} {IsInRange : A → Type 0} {result : Result T StoreFault} {s t : S} {now old : Firm} (part : Firm → List A)
    → now ≡ old → AreHanded step IsInRange (part now) result s t → AreHanded step IsInRange (part old) result s t
handed-before {step} {IsInRange} {result} {s} {t} part same handed = subst (λ (f : Firm). AreHanded step IsInRange (part f) result s t) same handed

-- so what two reads hand over is of one state
pub both-handed : {S U A C T V : Type 0} {step : S → A → S} {next : U → C → U} {IsFirst : A → Type 0} {IsSecond : C → Type 0}
    {x : T} {y : V} {s t : S} {u v : U} {old now new : Seen} (part : Firm → List A) (other : Firm → List C)
    → IsRead (Ok x) old now → (now.clean → old.stands → AreHanded {E = StoreFault} step IsFirst (part old.firm) (Ok x) s t)
    → IsRead (Ok y) now new → (new.clean → now.stands → AreHanded {E = StoreFault} next IsSecond (other now.firm) (Ok y) u v)
    → new.clean → old.stands
    → AreHanded {E = StoreFault} step IsFirst (part old.firm) (Ok x) s t × AreHanded {E = StoreFault} next IsSecond (other old.firm) (Ok y) u v
both-handed part other first handed second behind clean stands =
    let served = second.was_clean clean in
    (handed served stands, handed-before other (first.same served stands) (behind clean (first.still_stands served stands)))

-- One call of a book after another, as what a call of the desk leaves of it.
use Rattle.std.specs.Prelude.{◌≡◌, ℕ, Result, false}
use Rattle.trust_desk.proofs.Names.{Counts, Seen, ◌∙◌, refl, is_fault, StoreFault, FirmChange, counted, IsRead, IsWrite, Body, KeepsBook, counted_body, counted_refusal, is_fault_body, arith, ints, nat_tests}

pub read-kept : {T : Type 0} {result : Result T StoreFault} {old new : Seen} → IsRead result old new → KeepsBook (Counts (counted result)) old new
read-kept read = record { was_clean = read.was_clean; was_sure = read.was_sure; still_stands = read.still_stands; still_lasts = λ sure _ lasts. read.still_lasts sure lasts; cause = λ sure stands. read.count }

pub write-kept : {T : Type 0} {change : FirmChange} {result : Result T StoreFault} {old new : Seen} → IsWrite change result old new → KeepsBook (Counts (counted result)) old new
write-kept write = record { was_clean = write.was_clean; was_sure = write.was_sure; still_stands = write.still_stands; still_lasts = write.still_lasts; cause = λ sure stands. write.count }

-- one after the other
pub kept-then : {first next : ℕ → ℕ} {old mid new : Seen} → KeepsBook (Counts first) old mid → KeepsBook (Counts next) mid new → KeepsBook (Counts (λ n. next (first n))) old new
kept-then {next} a b = grind (arith, ints, nat_tests)

-- as many faults, told in another way
pub kept-as : {counted told : ℕ → ℕ} {old new : Seen} → (new.sure → (old.clean → old.stands) → counted old.refusals ≡ told old.refusals) → KeepsBook (Counts counted) old new → KeepsBook (Counts told) old new
kept-as same a = record { was_clean = a.was_clean; was_sure = a.was_sure; still_stands = a.still_stands; still_lasts = a.still_lasts; cause = λ sure stands. a.cause sure stands ∙ same sure stands }

-- no call at all
pub kept-still : (b : Seen) → KeepsBook (Counts (λ n. n)) b b
kept-still b = record { was_clean = λ clean. clean; was_sure = λ sure. sure; still_stands = λ clean stands. stands; still_lasts = λ _ _ lasts. lasts; cause = λ sure stands. refl }

-- a reply that tells of no fault counts none
pub uncounted : (b : Body) → is_fault_body b ≡ false → (n : ℕ) → n ≡ counted_body b n
uncounted b plain n = grind (arith, ints, nat_tests, is_fault, counted_refusal)

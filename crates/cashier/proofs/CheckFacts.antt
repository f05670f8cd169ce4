-- What a check that was printed says of the firm, and what its reads leave of the book.
use Rattle.cashier.proofs.Names.{◌≡◌, ◌⊎◌, ℕ, Result, Err, Output, IfOk, OnOk, inl, inr, StoreFault, Firm, Seen, IsAny, KeepsBook, Outcome, arith, ints, nat_tests}
use Rattle.trust_base.specs.declared.refusal.StoreFault.TheVariants as faults
use Rattle.book_reports.specs.Checking.{AreReads}
use Rattle.cashier.specs.Check.{CheckEnds, IsCheckTrue, IsSaid, IsSaidRefused, IsSaidSound, IsSaidUnsound, IsTrueOf, IsUnsoundBy, PrintsCheck, found_outcome}
use Rattle.cashier.specs.declared.check.CheckFound.{CheckFound}
use Rattle.cashier.specs.declared.check.CheckFound.TheVariants as found
use Rattle.cashier.specs.declared.outcome.Outcome.TheVariants as outcome

-- what was found was printed, or that there was no memory for its text
pub check-ends : (before after : Firm) (told : Result CheckFound StoreFault) (output : Output) (ended : Outcome) → after ≡ before
    → PrintsCheck told output ended ⊎ PrintsCheck (Err faults.Memory) output ended → CheckEnds output ended before after
check-ends before after told output ended same (inl h) = record { firm = same; found = told; prints = h }
check-ends before after told output ended same (inr h) = record { firm = same; found = Err faults.Memory; prints = h }

-- what was called sound is
said-sound : (firm : Firm) (before after : ℕ) (told : Result CheckFound StoreFault) (output : Output)
    → IfOk told (IsTrueOf firm before after) → IsSaid told output → IsSaidSound firm output
said-sound firm before after told output x4 said = grind (arith, ints, nat_tests)

-- a flaw that was printed is there
unsound-by : (firm : Firm) (before after : ℕ) (told : CheckFound) → IsTrueOf firm before after told
    → found_outcome told ≡ outcome.Refused → IsUnsoundBy firm before after told
unsound-by firm before after (found.Sound counts trail) is refused = absurd (cc)
unsound-by firm before after (found.Amiss counts flaw) is refused = is
unsound-by firm before after (found.Flawed flaw) is refused = is
unsound-by firm before after (found.Unreadable row) is refused = is

said-unsound : (before after : Seen) (told : Result CheckFound StoreFault) (output : Output)
    → IfOk told (IsTrueOf before.firm before.refusals after.refusals) → IsSaidRefused told output
    → IsSaidUnsound before after output
said-unsound before after told output is said = record {
  found = said.found;
  printed = said.printed;
  unsound = unsound-by before.firm before.refusals after.refusals said.found (rw said.is at is) said.refused;
}

pub check-true : (before after : Seen) (told : Result CheckFound StoreFault) (output : Output) (ended : Outcome)
    → IfOk told (IsTrueOf before.firm before.refusals after.refusals)
    → (ended ≡ outcome.Done → IsSaid told output) → (ended ≡ outcome.Refused → IsSaidRefused told output)
    → IsCheckTrue before after output ended
check-true before after told output ended is said refused = record {
  sound = λ done. said-sound before.firm before.refusals after.refusals told output is (said done);
  unsound = λ unsound. said-unsound before after told output is (refused unsound);
}

-- what was printed of an Ok
pub said-ok : (told : Result CheckFound StoreFault) (output : Output) (P : Type 0) → IsSaid told output → OnOk told P → P
said-ok told output P said on = rw said.is at on

-- reads of which any may have been refused
pub reads-leave : {old new : Seen} → AreReads old new → KeepsBook IsAny old new
reads-leave h = grind (arith, ints, nat_tests)

-- What each run over a desk leaves of its book, however it ends.
use Rattle.std.specs.Prelude.{◌≡◌, ◌⊎◌, ℕ, List}
use Rattle.trust_base.specs.declared.refusal.StoreFault.TheVariants as faults
use Rattle.firm_rows.specs.Firm.{Firm}
use Rattle.trust_store.specs.Books.{counted_fault}
use Rattle.trust_store.specs.Crashes.{LeavesOr}
use Rattle.trust_store.specs.Seen.{Seen}
use Rattle.desk_trail.specs.KeptTrails.{KeepsTrail}
use Rattle.clap.specs.Words.{Text}
use Rattle.command_line.specs.Program.{MeansCheck}
use Rattle.cashier.specs.declared.outcome.Outcome.{Outcome}
use Rattle.cashier.specs.declared.outcome.Outcome.TheVariants as outcome

-- no fault was counted
abbrev pub IsSame : ℕ → ℕ → Type 0
IsSame before after = after ≡ before

-- if the run ended because of the store, one more of its faults was counted
abbrev pub CountsStore : {E : Type 0} → E → E → ℕ → ℕ → Type 0
CountsStore store end before after = end ≡ store → after ≡ counted_fault faults.Store before

-- the same for a run of words; for a check, which goes on after a fault of the store, the count may be anything
abbrev pub CountsStoreIn : List Text → Outcome → ℕ → ℕ → Type 0
CountsStoreIn words told before after = CountsStore outcome.StoreFault told before after ⊎ MeansCheck words

-- this is so if the store is sure of what it read, even if a fault has shut it since, and if it was clean and stood for
-- a sound firm before
abbrev pub IfSure : Seen → Seen → Type 0 → Type 0
IfSure old new claim = new.sure → old.clean → old.stands → claim

-- no row was changed: a crash may leave what it might have left before, or these same rows
abbrev pub LeavesSame : Seen → Seen → Type 0
LeavesSame old new = LeavesOr old.firm old.leaves new.leaves

-- the trail is kept in all that a crash may leave now and could not have left before
abbrev pub LeavesTrail : Seen → Seen → Type 0
LeavesTrail old new = (found : Firm) → new.leaves found → old.leaves found ⊎ KeepsTrail old.firm found

-- How the run of words over a book is told, by what became of it.
use Rattle.cashier.proofs.Names.{◌≡◌, ◌≢◌, ◌⊎◌, ◌∙◌, ℕ, List, [], Option, Some, None, Result, refl, sym, subst, inr, Appends, Output, Known, Text, StoreFault, Firm, empty_firm, Means, MeansNothing, db_of, Ran, put_outcome, store_outcome, Outcome, arith, ints, nat_tests}
use Rattle.std.proofs.lemmas.Option.{none-some, same_Some}
use Rattle.trust_base.specs.declared.refusal.StoreFault.TheVariants as faults
use Rattle.firm_rows.specs.FirmSound.{FirmSound}
use Rattle.firm_rows.proofs.Kept.{empty-sound}
use Rattle.command_line.specs.declared.command.Task.{Task}
use Rattle.cashier.specs.Runs.{HadNoBook, HasRun, RanAtPath, RanInMemory}
use Rattle.cashier.specs.Views.{Books}
use Rattle.cashier.specs.declared.outcome.Outcome.TheVariants as outcome

-- a fault of the store is none of the command line
pub store-no-line : (fault : StoreFault) → store_outcome fault ≡ outcome.CommandLine → ⊥
store-no-line fault h = grind (arith, ints, nat_tests)

-- only a run that ended at the command line is told so once its book was put back
pub put-line : (ended : Outcome) (put : Result Unit StoreFault) → put_outcome ended put ≡ outcome.CommandLine → ended ≡ outcome.CommandLine
put-line ended put h = grind (arith, ints, nat_tests, store-no-line)

-- a book in memory begins without rows
pub in-memory : (Runs : Firm → Firm → Type 0) (before after : Firm) → before ≡ empty_firm → FirmSound after → Runs before after → RanInMemory Runs
in-memory Runs before after none sound ran = record { after = after; sound = sound; ran = subst (λ firm. Runs firm after) none ran }

-- the path that words name is one
pub one-path : (given : Option Text) (path other : Text) (P : Text → Type 0) → given ≡ Some path → given ≡ Some other → P path → P other
one-path given path other P here there p = subst P (same_Some path other (sym here ∙ there)) p

module _ {B W : Type 0} {books : Books B} {untouched : Type 0} {words : List Text} {known : Known W} where
  -- the words mean nothing
  pub by-line : (output : Output) → MeansNothing words → HasRun books untouched words known output outcome.CommandLine
  by-line output nothing = grind (arith, ints, nat_tests)

  -- memory was refused before anything was run
  pub by-want : (output : Output) → Appends output.before output.after [] → untouched
      → HasRun books untouched words known output outcome.MemoryFault
  by-want output written nothing = record {
    line = λ e. cc;
    meant = λ begun. absurd begun;
    in_memory = λ _ _. record { after = empty_firm; sound = empty-sound; ran = inr (inr (inr (inr (inr (inr (inr (record { outcome = refl; written = written; firm = refl }))))))) };
    at_path = λ path _ _. inr (record { fault = faults.Memory; outcome = refl; nothing = nothing });
  }

  -- the words name no path
  pub over-memory : (output : Output) (told : Outcome) (today : ℕ) (task : Task) → told ≢ outcome.CommandLine
      → Means words today task → db_of words ≡ None → RanInMemory (Ran words known output told)
      → HasRun books untouched words known output told
  over-memory output told today task began means none ran = grind (arith, ints, nat_tests, none-some)

  -- the words name a path
  pub over-path : (output : Output) (told : Outcome) (today : ℕ) (task : Task) (path : Text) → told ≢ outcome.CommandLine
      → Means words today task → db_of words ≡ Some path
      → RanAtPath books path words known output told ⊎ HadNoBook untouched told
      → HasRun books untouched words known output told
  over-path output told today task path began means named ran = grind (arith, ints, nat_tests, none-some, one-path)

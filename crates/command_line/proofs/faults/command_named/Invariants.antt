use Rattle.command_line.proofs.Names.{◌≡◌, take, true, FailsAs, words_of}
use Rattle.clap.specs.declared.error.kind.ErrorKind.TheVariants.{MissingSubcommand}
use Rattle.command_line.proofs.faults.command_named.Given as goal

abbrev pub invariant-loop-place : goal.invariant-loop-place
invariant-loop-place l = l.is_wanted ≡ true → FailsAs (take l.place (words_of l.words)) MissingSubcommand

use Rattle.trail_laws.proofs.Added.{refusal-adds-none, repeat-adds-none, reading-adds-none, purge-leaves-none, ask-adds-one, line-adds-none, line-adds-one}
use Rattle.trail_laws.proofs.laws.acts_are_added.Goals as goal

pub returns : goal.returns
returns c = record { refused = refusal-adds-none; repeated = repeat-adds-none; read = reading-adds-none; purged = purge-leaves-none; asked = ask-adds-one; unmatched = line-adds-none; applied = line-adds-one }

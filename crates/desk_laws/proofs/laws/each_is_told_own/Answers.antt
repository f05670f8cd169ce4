use Rattle.desk_laws.proofs.ToldOwn.{told-own}
use Rattle.desk_laws.proofs.laws.each_is_told_own.Goals as goal

pub returns : goal.returns
returns c = told-own

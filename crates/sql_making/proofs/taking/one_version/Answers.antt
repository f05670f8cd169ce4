use Rattle.sql_making.proofs.Names.{to_z, of_z, w64, arith, ints, nat_tests}
use Rattle.sqlite_value.specs.Value.{owned}
use Rattle.sql_making.proofs.VersionRead.{one_row}
use Rattle.sql_making.proofs.taking.one_version.Goals as goal

pub returns-in-Ok-Int : goal.returns-in-Ok-Int
returns-in-Ok-Int c v = grind (arith, ints, nat_tests, to_z, w64, of_z, one_row, owned)

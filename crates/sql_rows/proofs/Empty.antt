-- Tables without rows stand for the firm without rows.
use Rattle.sql_rows.proofs.Names.{empty-sound, EmptyTablesStand, arith, ints, nat_tests}

-- no row is out of order, or stands for another
pub empty_stands : EmptyTablesStand
empty_stands = grind (arith, ints, nat_tests, empty-sound)

use Rattle.sql_schema.proofs.Names.{length}
use Rattle.sql_schema.proofs.shapes.+are_all.Given as goal

abbrev pub decreases-are_all : goal.decreases-are_all
decreases-are_all g l = length l.parts.now

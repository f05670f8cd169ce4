use Rattle.sql_schema.proofs.Names.{rules}
use Rattle.sql_schema.proofs.Apart.{neither, neither_bare}
use Rattle.sql_schema.proofs.schema.book_tables.Goals as goal

pub returns-else-is_of-5-clause-now : goal.returns-else-is_of-5-clause-now
returns-else-is_of-5-clause-now c l = (λ e. absurd (cc), λ e. absurd (neither c.args.schema.now (search rules) (search rules) l e))

pub returns-else-is_of-5-clause-bare : goal.returns-else-is_of-5-clause-bare
returns-else-is_of-5-clause-bare c l = (λ e. absurd (cc), λ e. absurd (neither_bare c.args.schema.now (search rules) (search rules) l e))

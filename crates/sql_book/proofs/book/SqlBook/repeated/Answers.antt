use Rattle.sql_book.proofs.Names.{[], ◌∷◌, ap, rules, Repeated, ExceptionGone, fit_write}
use Rattle.sql_tables.specs.declared.statements.SqlStatement.TheVariants as statement
use Rattle.sql_book.proofs.Written.{wrote}
use Rattle.sql_book.proofs.book.SqlBook.repeated.Goals as goal

pub returns : goal.returns
returns g c =
    fit_write (λ _ _. tt) (wrote g.S.Store c.write.new.conn (Repeated c.args.line.now) (statement.ExceptionGone c.exception_columns.result ∷ [])
    c.self.view_is c.written.ensures.alike c.written.ensures.count
    c.written.ensures.meant (search (rules, c.write.ensures)) (λ e. cc) tt
    (ap (λ e. ExceptionGone e ∷ []) c.exception_columns.ensures))

use Rattle.sql_book.proofs.Names.{[], ◌∷◌, ap, ap₂, ◌∙◌, rules, AddAct, Dismissed, ExceptionGone, fit_write}
use Rattle.sql_tables.specs.declared.statements.SqlStatement.TheVariants as statement
use Rattle.sql_rows.specs.Dismissals.{dismissal_row}
use Rattle.sql_book.proofs.Written.{wrote}
use Rattle.sql_book.proofs.book.SqlBookBook.dismiss.Goals as goal

pub returns : goal.returns
returns g c =
    let line = c.args.line.now in
    let columns = c.dismissal_columns.ensures ∙ ap (dismissal_row c.args.day) (c.deref.ensures.value ∙ c.in_ok-text.ensures.text) in
    record {
      written = fit_write (λ _ _. tt) (wrote g.S.Store c.write.new.conn (Dismissed c.args.day line)
          (statement.Act c.dismissal_columns.result ∷ statement.ExceptionGone c.exception_columns.result ∷ [])
          c.self.view_is c.written.ensures.alike c.written.ensures.count
          c.written.ensures.meant (search (rules, c.write.ensures)) (λ e. cc) c.in_ok-text.ensures.form
          (ap₂ (λ a e. AddAct a ∷ ExceptionGone e ∷ []) columns c.exception_columns.ensures));
    }

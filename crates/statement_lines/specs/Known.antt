-- What is known of a book: what lines of a statement are compared with, and what is reported about lines that are left.
use Rattle.std.specs.Prelude.{List}
use Rattle.trust_base.specs.declared.line.Line.{Line}
use Rattle.statement_lines.specs.declared.book_entry.BookEntry.{BookEntry}
use Rattle.statement_lines.specs.Held.{Held}

pub record Known : Type 0 where
  -- what lines are compared with
  pub held : Held
  -- the deposits and payments, in any state
  pub entries : List BookEntry
  -- the exceptions
  pub exceptions : List Line

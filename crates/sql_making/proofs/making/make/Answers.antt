use Rattle.sql_making.proofs.Names.{◌≡◌, rules, no_schema}
use Rattle.sql_making.proofs.NewBook.{new_book_stands}
use Rattle.sql_making.proofs.making.make.Goals as goal

pub returns-in-Ok-clause-stands : goal.returns-in-Ok-clause-stands
returns-in-Ok-clause-stands g c clean =
    let none : c.args.conn.now.schema ≡ no_schema = search rules in
    new_book_stands _ (c.in-Ok.ensures.made clean none)

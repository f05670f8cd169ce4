use Rattle.statement_match.proofs.Names.{◌∙◌, ◌==◌, booking_of, is_beside, booking_key, line_key, beside_narrows, any_found}
use Rattle.statement_match.proofs.rule.is_beside_booked.Goals as goal

pub returns : goal.returns
returns c =
    let line = c.args.line.now in
    c.is_beside_among.ensures
    ∙ any_found (is_beside (booking_of line)) (λ x. booking_key x == line_key line) (beside_narrows line) c.bookings_of.result.now c.args.index.now.held.bookings
    (c.bookings_of.ensures)

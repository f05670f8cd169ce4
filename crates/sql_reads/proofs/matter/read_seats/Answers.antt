use Rattle.sql_reads.proofs.Names.{rules, ap, ◌∙◌, seat_shown, seat_from, seat_at}
use Rattle.sql_reads.proofs.Gathered.{all_taken, one_more}
use Rattle.sql_reads.proofs.matter.read_seats.Goals as goal

pub each-preserved : goal.each-preserved
each-preserved c xs is =
    c.in_ok-push.ensures.items
    ∙ one_more seat_shown seat_from _ _ (λ x e. c.in_ok-seat.ensures ∙ ap (seat_at c.args.matter) e) xs _ _ _ is
    (search rules) c.row-item.is (c.each.invariant xs is)

pub returns : goal.returns
returns c xs is = all_taken seat_shown seat_from xs _ _ _ is (search rules) (c.each.invariant xs is)

use Rattle.statement_match.proofs.Names.{sym, ◌≤◌, [], ◌∷◌, cond, length, arith, common_steps, is_named_like, named_exception}
use Rattle.statement_match.proofs.Listed.{has_no_room}
use Rattle.statement_match.proofs.named_exception.add_exception.Goals as goal

pub returns-then-len-ge-MOST_LISTED : goal.returns-then-len-ge-MOST_LISTED
returns-then-len-ge-MOST_LISTED c =
    let listed = c.args.listed.now.items in
    let within : 5 ≤ length listed = first_of (omega arith, grind (arith, common_steps)) in
    let short : length listed ≤ 5 = first_of (omega arith, grind (arith, common_steps)) in
    sym
    (has_no_room 5 listed
    (cond (is_named_like c.args.grounds.now.line c.args.exception.now)
    (named_exception c.args.today c.args.grounds.now.known c.args.exception.now ∷ []) []) within short)

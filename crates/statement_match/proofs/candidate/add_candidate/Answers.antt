use Rattle.statement_match.proofs.Names.{sym, ◌≤◌, [], ◌∷◌, cond, length, arith, common_steps, stands, candidate_of}
use Rattle.statement_match.proofs.Listed.{has_no_room}
use Rattle.statement_match.proofs.candidate.add_candidate.Goals as goal

pub returns-then-len-ge-MOST_LISTED : goal.returns-then-len-ge-MOST_LISTED
returns-then-len-ge-MOST_LISTED c =
    let listed = c.args.listed.now.items in
    let within : 5 ≤ length listed = first_of (omega arith, grind (arith, common_steps)) in
    let short : length listed ≤ 5 = first_of (omega arith, grind (arith, common_steps)) in
    sym
    (has_no_room 5 listed
    (cond (stands c.args.relation c.args.today c.args.line.now c.args.entry.now)
    (candidate_of c.args.entry.now ∷ []) []) within short)

use Rattle.std.proofs.Common.{List, arith, drop, length, subst, suc, sym, take, ◌+◌, ◌∙◌, ◌≡◌, ◌≤◌}
use Rattle.std.proofs.lemmas.List.{length-take, take_all}
use Rattle.matter_rows.specs.declared.act.Act.{Act}
use Rattle.matter_rows.specs.Rows.{Rows, unopened}
use Rattle.matter_parts.specs.Audit.{rows_kept}
use Rattle.trail_laws.specs.Replayed.{own_by}
use Rattle.trail_replay.proofs.Follows.{replayed-follows}
use Rattle.trail_replay.proofs.Replaying.{acts-split, along-is, follow-more, not-taken, take-more, taken}
use Rattle.trail_replay.specs.Follows.{Follow, IsNext, rows_next}
use Rattle.trail_replay.specs.Telling.{dossier_of}
use Rattle.trail_replay.proofs.replay.replayed.Goals as goal

pub returns-then-not-branch : goal.returns-then-not-branch
returns-then-not-branch c =
    let acts = c.args.acts.now in
    let place = c.loop-place.place in
    let act = c.index-acts-place.result in
    let own = own_by c.args.number (rows_kept c.args.matter.now) in
    let rows = rows_kept c.loop-place.made in
    let along = along-is own unopened rows (take place acts) c.loop-place.invariant.followed in
    let short = length-take place acts in
    record {
      before = take place acts;
      act = act;
      behind = drop (suc place) acts;
      among = acts-split acts place act c.loop-place-test.true c.index-acts-place.is;
      at = grind (arith, short, c.loop-place-test.true);
      follow = subst (Follow own unopened (take place acts)) (sym along) c.loop-place.invariant.followed;
      not_next =
          subst (λ (r : Rows). ¬ IsNext own r act) (sym along)
          (not-taken own c.loop-place.made _ act c.in_ok-follow.field-0 c.if-not-branch.true c.in_ok-follow.ensures);
    }

pub loop-place-preserved : goal.loop-place-preserved
loop-place-preserved c =
    let acts = c.args.acts.now in
    let place = c.loop-place.place in
    let act = c.index-acts-place.result in
    let own = own_by c.args.number (rows_kept c.args.matter.now) in
    let rows = rows_kept c.loop-place.made in
    let are = taken own c.loop-place.made c.follow.new.matter act c.in_ok-follow.field-0 c.if-not-branch.false
    c.in_ok-follow.ensures in
    let more = follow-more own unopened rows (take place acts) act c.loop-place.invariant.followed are.0 in
    record {
      good = are.1.0;
      followed =
          subst (λ (r : Rows). Follow own unopened (take (place + 1) acts) r) (sym are.1.1)
          (subst (λ (xs : List Act). Follow own unopened xs (rows_next own rows act))
          (sym (take-more acts place act c.loop-place-test.true c.index-acts-place.is)) more);
    }

pub returns-then-are_same_rows : goal.returns-then-are_same_rows
returns-then-are_same_rows c =
    let acts = c.args.acts.now in
    let own = own_by c.args.number (rows_kept c.args.matter.now) in
    let past : length acts ≤ c.loop-place.place = grind (arith, c.loop-place-test.false) in
    let all = subst (λ (xs : List Act). Follow own unopened xs (rows_kept c.loop-place.made))
    (take_all c.loop-place.place acts past) c.loop-place.invariant.followed in
    (replayed-follows c.args.number (dossier_of c.args.matter.now acts)).1
    (subst (Follow own unopened acts) (c.are_same_rows.ensures.0 c.if-are_same_rows.true) all)

pub returns : goal.returns
returns c =
    λ is.
    let acts = c.args.acts.now in
    let own = own_by c.args.number (rows_kept c.args.matter.now) in
    let past : length acts ≤ c.loop-place.place = grind (arith, c.loop-place-test.false) in
    let all = subst (λ (xs : List Act). Follow own unopened xs (rows_kept c.loop-place.made))
    (take_all c.loop-place.place acts past) c.loop-place.invariant.followed in
    let follow = (replayed-follows c.args.number (dossier_of c.args.matter.now acts)).0 is in
    let same : rows_kept c.loop-place.made ≡ rows_kept c.args.matter.now =
    sym (along-is own unopened _ acts all) ∙ along-is own unopened _ acts follow in
    absurd (grind (arith, c.are_same_rows.ensures.1 same, c.if-are_same_rows.false))

use Rattle.matter_parts.proofs.Names.{ap, arith, refl, sym, ◌∙◌, ints, number_or_none, held, available, disputed, fees, claims, rules}
use Rattle.matter_parts.proofs.Moving.{figures-written, moved-words, named-left, named-moved, small_word}
use Rattle.matter_parts.proofs.Existence.{small-some}
use Rattle.matter_parts.proofs.change.written.Goals as goal

pub returns-in_err-moved-clause-none : goal.returns-in_err-moved-clause-none
returns-in_err-moved-clause-none c =
    rw c.from_residual.ensures (λ v s m. c.in_err-moved.ensures.none _ s.figures.pending
    (moved-words _ _ _ _ _ _ v.figures m.figures c.figures-old.ensures.is c.shares-shares.ensures.is
    c.requires.before.shares c.shares-shares.ensures.small).pending)

pub returns-in_err-moved-2-clause-none : goal.returns-in_err-moved-2-clause-none
returns-in_err-moved-2-clause-none c =
    rw c.from_residual-in_err-moved-2.ensures (λ v s m. c.in_err-moved-2.ensures.none _ s.figures.held
    (moved-words _ _ _ _ _ _ v.figures m.figures c.figures-old.ensures.is c.shares-shares.ensures.is
    c.requires.before.shares c.shares-shares.ensures.small).held)

pub moved-requires-3-clause-out : goal.moved-requires-3-clause-out
moved-requires-3-clause-out c = small_word _ c.requires.before.shares.available

pub moved-requires-3-clause-share : goal.moved-requires-3-clause-share
moved-requires-3-clause-share c = small_word _ c.shares-shares.ensures.small.available

pub returns-in_err-moved-3-clause-none : goal.returns-in_err-moved-3-clause-none
returns-in_err-moved-3-clause-none c =
    rw c.from_residual-in_err-moved-3.ensures (λ v s m. c.in_err-moved-3.ensures.none _ s.figures.available
    (moved-words _ _ _ _ _ _ v.figures m.figures c.figures-old.ensures.is c.shares-shares.ensures.is
    c.requires.before.shares c.shares-shares.ensures.small).available)

pub moved-requires-4-clause-out : goal.moved-requires-4-clause-out
moved-requires-4-clause-out c = small_word _ c.requires.before.shares.disputed

pub moved-requires-4-clause-share : goal.moved-requires-4-clause-share
moved-requires-4-clause-share c = small_word _ c.shares-shares.ensures.small.disputed

pub returns-in_err-moved-4-clause-none : goal.returns-in_err-moved-4-clause-none
returns-in_err-moved-4-clause-none c =
    rw c.from_residual-in_err-moved-4.ensures (λ v s m. c.in_err-moved-4.ensures.none _ s.figures.disputed
    (moved-words _ _ _ _ _ _ v.figures m.figures c.figures-old.ensures.is c.shares-shares.ensures.is
    c.requires.before.shares c.shares-shares.ensures.small).disputed)

pub moved-requires-5-clause-out : goal.moved-requires-5-clause-out
moved-requires-5-clause-out c = small_word _ c.requires.before.shares.fees

pub moved-requires-5-clause-share : goal.moved-requires-5-clause-share
moved-requires-5-clause-share c = small_word _ c.shares-shares.ensures.small.fees

pub returns-in_err-moved-5-clause-none : goal.returns-in_err-moved-5-clause-none
returns-in_err-moved-5-clause-none c =
    rw c.from_residual-in_err-moved-5.ensures (λ v s m. c.in_err-moved-5.ensures.none _ s.figures.fees
    (moved-words _ _ _ _ _ _ v.figures m.figures c.figures-old.ensures.is c.shares-shares.ensures.is
    c.requires.before.shares c.shares-shares.ensures.small).fees)

pub moved-requires-6-clause-out : goal.moved-requires-6-clause-out
moved-requires-6-clause-out c = small_word _ c.requires.before.shares.claims

pub moved-requires-6-clause-share : goal.moved-requires-6-clause-share
moved-requires-6-clause-share c = small_word _ c.shares-shares.ensures.small.claims

pub returns-in_err-moved-6-clause-none : goal.returns-in_err-moved-6-clause-none
returns-in_err-moved-6-clause-none c =
    rw c.from_residual-in_err-moved-6.ensures (λ v s m. c.in_err-moved-6.ensures.none _ s.figures.claims
    (moved-words _ _ _ _ _ _ v.figures m.figures c.figures-old.ensures.is c.shares-shares.ensures.is
    c.requires.before.shares c.shares-shares.ensures.small).claims)

pub moved-requires-7-clause-out : goal.moved-requires-7-clause-out
moved-requires-7-clause-out c = small_word _ c.requires.before.worth

pub moved-requires-7-clause-share : goal.moved-requires-7-clause-share
moved-requires-7-clause-share c = small_word _ c.worth.ensures.small

pub returns-in_err-left-clause-none : goal.returns-in_err-left-clause-none
returns-in_err-left-clause-none c =
    rw c.from_residual-in_err-left.ensures (λ v s m.
    c.in_err-left.ensures.none v.left s.left (omega (arith, ints, m.left, c.worth.ensures, c.requires.before.worth)))

pub moved-requires-in-Some-clause-out : goal.moved-requires-in-Some-clause-out
moved-requires-in-Some-clause-out c = small_word _ c.draw.ensures.small

pub moved-requires-in-Some-clause-share : goal.moved-requires-in-Some-clause-share
moved-requires-in-Some-clause-share c = small_word _ c.requires.before.draw

pub returns-in_err-left_of_named-in-Some-clause-none : goal.returns-in_err-left_of_named-in-Some-clause-none
returns-in_err-left_of_named-in-Some-clause-none c =
    let draws = c.draw.ensures.small in
    let drew = c.requires.before.draw in
    rw c.from_residual-in_err-left_of_named-in-Some.ensures (λ v s m.
    let w = named-left c.args.matter.now _ c.in-Some.number _ _ v.other c.in_ok-kept-in-Some.kept.now (sym (ap number_or_none c.in-Some.is) ∙ c.target.ensures) (omega arith) c.in_ok-kept-in-Some.ensures.is s.other m.other in
    let left = w.1.1 in
    c.in_err-left_of_named-in-Some.ensures.none w.0 w.1.0 (omega (arith, ints, left, c.draw.ensures.is, draws.low, draws.high, drew.low, drew.high)))

pub returns-in_ok-left_of_named-in-Some-clause-some : goal.returns-in_ok-left_of_named-in-Some-clause-some
returns-in_ok-left_of_named-in-Some-clause-some c =
    let draws = c.draw.ensures.small in
    let drew = c.requires.before.draw in
    let own = c.worth.ensures in
    let was = c.requires.before.worth in
    record {
      figures = figures-written _ _ _ _ _ _ _ c.figures-old.ensures.is c.shares-shares.ensures.is c.requires.before.shares
          c.shares-shares.ensures.small
          (record {
            count = refl;
            pending = c.in_ok-moved.ensures.some.1;
            held = c.in_ok-moved-2.ensures.some.1;
            available = c.in_ok-moved-3.ensures.some.1;
            disputed = c.in_ok-moved-4.ensures.some.1;
            fees = c.in_ok-moved-5.ensures.some.1;
            claims = c.in_ok-moved-6.ensures.some.1;
          });
      left = omega (arith, ints, c.in_ok-left.ensures.some.1, own.is, own.small.low, own.small.high, was.low, was.high);
      other = named-moved c.args.matter.now _ c.in-Some.number _ _ c.in_ok-kept-in-Some.kept.now _ (sym (ap number_or_none c.in-Some.is) ∙ c.target.ensures) c.in_ok-kept-in-Some.ensures.is
          (omega (arith, ints, c.in_ok-left_of_named-in-Some.ensures.some.1, c.draw.ensures.is, draws.low, draws.high, drew.low, drew.high));
    }

pub returns-in_ok-left_of_named-in-Some-clause-small : goal.returns-in_ok-left_of_named-in-Some-clause-small
returns-in_ok-left_of_named-in-Some-clause-small c = search (rules, small-some)

pub returns-in-None-clause-some : goal.returns-in-None-clause-some
returns-in-None-clause-some c =
    let own = c.worth.ensures in
    let was = c.requires.before.worth in
    record {
      figures = figures-written _ _ _ _ _ _ _ c.figures-old.ensures.is c.shares-shares.ensures.is c.requires.before.shares
          c.shares-shares.ensures.small
          (record {
            count = refl;
            pending = c.in_ok-moved.ensures.some.1;
            held = c.in_ok-moved-2.ensures.some.1;
            available = c.in_ok-moved-3.ensures.some.1;
            disputed = c.in_ok-moved-4.ensures.some.1;
            fees = c.in_ok-moved-5.ensures.some.1;
            claims = c.in_ok-moved-6.ensures.some.1;
          });
      left = omega (arith, ints, c.in_ok-left.ensures.some.1, own.is, own.small.low, own.small.high, was.low, was.high);
      other = record { cases = sym c.target.ensures ∙ ap number_or_none c.in-None.is };
    }

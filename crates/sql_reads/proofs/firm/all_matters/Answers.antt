use Rattle.sql_reads.proofs.Names.{rules, ◌≡◌, sym, subst, take, ◌∙◌, take_all, state, lists_in}
use Rattle.trust_store.specs.Kept.{Ascends}
use Rattle.sql_reads.proofs.AllMatters.{matters_ascend, matters_read}
use Rattle.sql_reads.proofs.firm.all_matters.Goals as goal

pub returns-clause-read : goal.returns-clause-read
returns-clause-read g c l clean stands =
    let numbers = c.deref-number-items.result.now in
    let all : take c.each.number-index numbers ≡ numbers = take_all _ _ (search rules) in
    (rw all at (c.each.invariant.read l clean stands))
    ∙ matters_read (lists_in l (state g.S.Store c.args.conn.now).now.trees) stands.heads.rise numbers
    (c.each.invariant.are l clean stands)

pub returns-clause-whole : goal.returns-clause-whole
returns-clause-whole g c l clean stands =
    let numbers = c.deref-number-items.result.now in
    let lists = lists_in l (state g.S.Store c.args.conn.now).now.trees in
    let all : take c.each.number-index numbers ≡ numbers = take_all _ _ (search rules) in
    let matters = (rw all at (c.each.invariant.read l clean stands)) in
    record {
      ascends = subst Ascends (sym matters) (matters_ascend lists lists.heads numbers stands.heads.rise (c.each.invariant.are l clean stands));
      whole = c.each.invariant.whole;
    }

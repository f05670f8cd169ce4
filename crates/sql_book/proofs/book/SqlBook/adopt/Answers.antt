use Rattle.sql_book.proofs.Names.{inl, inr, sym, ap, subst, rules, Database, state, IsBook, StandsSound, firm_in}
use Rattle.sql_book.proofs.Moves.{extended_firm, extended_stands, moved_in, firm_moved_in}
use Rattle.sql_book.proofs.Openings.{settled_lasts}
use Rattle.sql_book.proofs.book.SqlBook.adopt.Goals as goal

pub returns-in-Ok-clause-taken : goal.returns-in-Ok-clause-taken
returns-in-Ok-clause-taken g c sure =
    let l = c.in-Ok.layout in
    let old = (state g.S.Store c.args.conn).now in
    let last = state g.S.Store c.adopt.new.conn in
    let new = last.now in
    let t = c.in-Ok.ensures.taken sure in
    let lasting = settled_lasts l last (c.in-Ok.ensures.listed sure) t.1 in
    record {
      serves = (sure, c.in-Ok.ensures.serves sure);
      book = t.0;
      found = elim t.2 [
        | inl kept ↦ inl (record {
          book = subst (IsBook l) kept.now t.0;
          kept = kept;
          firm = ap (λ (d : Database). firm_in l d.trees) kept.now;
          stands = λ s. subst (StandsSound l) (sym kept.now) s;
          lasts = λ s. lasting (subst (StandsSound l) (sym kept.now) s);
        })
        | inr changed ↦ inr (elim changed [
          | inl moved ↦ inl (record {
            layout = moved.0;
            book = moved.1;
            moved = moved.2;
            firm = λ s. firm_moved_in l old new moved.0 moved.2 s;
            stands = λ s. moved_in l old new moved.0 moved.2 s;
            lasts = λ s. lasting (moved_in l old new moved.0 moved.2 s);
          })
          | inr given ↦ inr (record {
            book = given.0;
            extended = given.1;
            firm = extended_firm l old new given.1;
            stands = λ s. extended_stands l old new given.1 s;
            lasts = λ s. lasting (extended_stands l old new given.1 s);
          })
        ])
      ];
      settled = search rules;
    }

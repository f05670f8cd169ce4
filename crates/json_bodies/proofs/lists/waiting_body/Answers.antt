use Rattle.std.proofs.Common.{List, Ok, Result, codes, drop, arith, ap, sym, subst, true, ℕ, [], ◌+◌, ◌++◌, ◌∙◌, ◌∷◌, ◌≡◌}
use Rattle.std.proofs.lemmas.List.{drop_all, drop_more}
use Rattle.json.specs.Token.{Token}
use Rattle.serde_json.proofs.Texts.{print-outline}
use Rattle.trust_base.specs.declared.refusal.StoreFault.{StoreFault}
use Rattle.matter_parts.specs.Parts.{IsPart, IsWhole}
use Rattle.firm_rows.specs.Firm.{Firm, of}
use Rattle.matter_rows.specs.Sound.{Sound}
use Rattle.trust_store.specs.Calls.{IsRead}
use Rattle.json_bodies.specs.Json.{value_tokens}
use Rattle.json_bodies.specs.Listed.{waiting_in}
unfoldable use Rattle.json_bodies.specs.Lists.{waiting_body}
use Rattle.json_bodies.specs.Lists.{all_waiting, is_shown, listed_for, waiting_objects}
use Rattle.json_bodies.proofs.OneRead.{read-as, read-then}
use Rattle.json_bodies.proofs.Tokens.{ended, front, waiting-passed, waiting-wrote, waiting_rest}
use Rattle.json_bodies.proofs.lists.waiting_body.Goals.{then-is_shown+then-not-nothing_waits+in_ok-matter+in_ok-write_waiting, else-is_shown, else-is_shown-via-then-is_shown+else-not-nothing_waits, else-is_shown-via-else-is_shown}
use Rattle.json_bodies.proofs.lists.waiting_body.Goals as goal

pub each-preserved : goal.each-preserved
each-preserved g c =
    let old = g.B.Book.seen c.args.book.now in
    let done : Result Unit StoreFault = Ok tt in
    let caller = c.args.caller.now in
    let number : ℕ = c.number-item.result in
    let numbers : List ℕ = c.deref-number-items.result.now in
    let rest = drop (c.each.number-index + 1) numbers in
    let before = c.each.invariant.read in
    let more = c.in_ok-totals.ensures.read in
    let upto : IsRead done old (g.B.Book.seen c.matter_for.new.self) = read-then before (read-as more) in
    let was : (g.B.Book.seen c.if-is_shown.book).clean → (g.B.Book.seen c.matter_for.new.self).clean = elim c.if-is_shown.branch [
      | then-is_shown+then-not-nothing_waits+in_ok-matter+in_ok-write_waiting w ↦ λ clean. w.in_ok-matter.ensures.read.was_clean (subst (λ b. (g.B.Book.seen b).clean) w.book-is clean)
      | else-is_shown w ↦ λ clean. subst (λ b. (g.B.Book.seen b).clean) w.book-is clean
    ] in
    record {
      read = elim c.if-is_shown.branch [
        | then-is_shown+then-not-nothing_waits+in_ok-matter+in_ok-write_waiting w ↦ subst (λ b. IsRead done old (g.B.Book.seen b)) (sym w.book-is) (read-then upto (read-as w.in_ok-matter.ensures.read))
        | else-is_shown w ↦ subst (λ b. IsRead done old (g.B.Book.seen b)) (sym w.book-is) upto
      ];
      before = elim c.if-is_shown.branch [
        | then-is_shown+then-not-nothing_waits+in_ok-matter+in_ok-write_waiting w ↦ ap (λ o. o.before) w.out-is ∙ (w.in_ok-write_waiting.ensures.before ∙ c.each.invariant.before)
        | else-is_shown w ↦ ap (λ o. o.before) w.out-is ∙ c.each.invariant.before
      ];
      opened = λ clean stands. c.each.invariant.opened (more.was_clean (was clean)) stands;
      told = λ clean stands.
          let firm : Firm = old.firm in
          let mid = was clean in
          let was_clean = more.was_clean mid in
          let found = c.in_ok-totals.ensures.found mid (before.still_stands was_clean stands) in
          let part : IsPart c.in_ok-totals.totals (of number firm) = subst (λ (f : Firm). IsPart c.in_ok-totals.totals (of number f)) (before.same was_clean stands) found.is_part in
          let shown : c.is_shown.result ≡ is_shown caller (of number firm) = c.is_shown.ensures _ part in
          let sound : Sound (of number firm) = (old.sound stands).matters number in
          let next : drop c.each.number-index numbers ≡ number ∷ rest = drop_more numbers c.each.number-index number (omega arith) ∙ ap (λ n. n ∷ rest) (sym c.number-item.is) in
          let so : c.each.out.tokens ++ waiting_rest caller firm (number ∷ rest) ≡ front (codes "waiting") ++ waiting_rest caller firm numbers =
          ap (λ ns. c.each.out.tokens ++ waiting_rest caller firm ns) (sym next) ∙ c.each.invariant.told was_clean stands in
          elim c.if-is_shown.branch [
            | then-is_shown+then-not-nothing_waits+in_ok-matter+in_ok-write_waiting w ↦
                let read = w.in_ok-matter.ensures.whole (subst (λ b. (g.B.Book.seen b).clean) w.book-is clean) (upto.still_stands mid stands) in
                let whole : IsWhole w.in_ok-matter.matter (of number firm) = subst (λ (f : Firm). IsWhole w.in_ok-matter.matter (of number f)) (upto.same mid stands) read in
                waiting-wrote caller firm number rest c.each.out.tokens _ _ (sym shown ∙ w.if-is_shown.true) (ap (λ o. o.tokens) w.out-is ∙ w.in_ok-write_waiting.ensures.tokens (of number firm) whole) so
            | else-is_shown w ↦
                let none : is_shown caller (of number firm) ≡ true → waiting_in number (of number firm) ≡ [] = elim w.else-is_shown.branch [
                  | else-is_shown-via-then-is_shown+else-not-nothing_waits v ↦ λ _. v.nothing_waits.ensures.nothing (let is = v.if-not-nothing_waits.false in grind arith) number (of number firm) sound part
                  | else-is_shown-via-else-is_shown v ↦ λ on. absurd (let off = v.if-is_shown.false in grind arith)
                ] in
                ap (λ o. o.tokens ++ waiting_rest caller firm rest) w.out-is ∙ waiting-passed caller firm number rest c.each.out.tokens _ none so
          ];
    }

pub returns-clause-told : goal.returns-clause-told
unfolding waiting_body
returns-clause-told g c = λ clean stands.
    let firm : Firm = (g.B.Book.seen c.args.book.now).firm in
    let caller = c.args.caller.now in
    let numbers : List ℕ = c.deref-number-items.result.now in
    let none : drop c.each.number-index numbers ≡ [] = drop_all c.each.number-index numbers (omega arith) in
    let all = ap (λ ns. c.each.out.tokens ++ waiting_rest caller firm ns) (sym none) ∙ (c.each.invariant.told clean stands ∙ ap (λ ns. front (codes "waiting") ++ waiting_rest caller firm ns) (c.each.invariant.opened clean stands)) in
    let tokens : c.end_object.new.self.tokens ≡ value_tokens (all_waiting caller firm) =
    c.in_ok-end_object.ensures.ok ∙ (ap (λ ts. ts ++ (Token.end_object ∷ [])) c.in_ok-end_array.ensures.ok ∙ ended (codes "waiting") (waiting_objects firm (listed_for caller firm)) c.each.out.tokens all) in
    let before : c.end_object.new.self.before ≡ [] = c.in_ok-end_object.ensures.room.0 ∙ (c.in_ok-end_array.ensures.room.0 ∙ c.each.invariant.before) in
    (rw (before, tokens) at c.into_inner.ensures.items) ∙ print-outline (all_waiting caller firm)

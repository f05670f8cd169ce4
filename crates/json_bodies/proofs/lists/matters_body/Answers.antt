use Rattle.std.proofs.Common.{List, codes, drop, arith, ap, sym, subst, ℕ, [], ◌+◌, ◌++◌, ◌∙◌, ◌∷◌, ◌≡◌}
use Rattle.std.proofs.lemmas.List.{drop_all, drop_more}
use Rattle.json.specs.Token.{Token}
use Rattle.serde_json.proofs.Texts.{print-outline}
use Rattle.matter_parts.specs.Parts.{IsPart}
use Rattle.firm_rows.specs.Firm.{Firm, of}
use Rattle.matter_rows.specs.Sound.{Sound}
use Rattle.json_bodies.specs.Json.{value_tokens}
unfoldable use Rattle.json_bodies.specs.Lists.{matters_body}
use Rattle.json_bodies.specs.Lists.{is_shown, listed_for, listed_objects, matters_object}
use Rattle.json_bodies.proofs.OneRead.{read-as, read-then}
use Rattle.json_bodies.proofs.Tokens.{ended, front, listed-passed, listed-wrote, listed_rest}
use Rattle.json_bodies.proofs.lists.matters_body.Goals.{then-is_shown+in_ok-write_listed, else-is_shown}
use Rattle.json_bodies.proofs.lists.matters_body.Goals as goal

pub each-preserved : goal.each-preserved
each-preserved g c =
    let old = g.B.Book.seen c.args.book.now in
    let caller = c.args.caller.now in
    let number : ℕ = c.number-item.result in
    let numbers : List ℕ = c.deref-number-items.result.now in
    let rest = drop (c.each.number-index + 1) numbers in
    let before = c.each.invariant.read in
    let more = c.in_ok-matter.ensures.read in
    record {
      read = read-then before (read-as more);
      before = elim c.if-is_shown.branch [
        | then-is_shown+in_ok-write_listed w ↦ ap (λ o. o.before) w.out-is ∙ (w.in_ok-write_listed.ensures.before ∙ c.each.invariant.before)
        | else-is_shown w ↦ ap (λ o. o.before) w.out-is ∙ c.each.invariant.before
      ];
      opened = λ clean stands. c.each.invariant.opened (more.was_clean clean) stands;
      told = λ clean stands.
          let firm : Firm = old.firm in
          let was_clean = more.was_clean clean in
          let found = c.in_ok-matter.ensures.found clean (before.still_stands was_clean stands) in
          let part : IsPart c.in_ok-matter.matter (of number firm) = subst (λ (f : Firm). IsPart c.in_ok-matter.matter (of number f)) (before.same was_clean stands) found.is_part in
          let shown : c.is_shown.result ≡ is_shown caller (of number firm) = c.is_shown.ensures _ part in
          let sound : Sound (of number firm) = (old.sound stands).matters number in
          let next : drop c.each.number-index numbers ≡ number ∷ rest = drop_more numbers c.each.number-index number (omega arith) ∙ ap (λ n. n ∷ rest) (sym c.number-item.is) in
          let so : c.each.out.tokens ++ listed_rest caller firm (number ∷ rest) ≡ front (codes "matters") ++ listed_rest caller firm numbers =
          ap (λ ns. c.each.out.tokens ++ listed_rest caller firm ns) (sym next) ∙ c.each.invariant.told was_clean stands in
          elim c.if-is_shown.branch [
            | then-is_shown+in_ok-write_listed w ↦ listed-wrote caller firm number rest c.each.out.tokens _ _ (sym shown ∙ w.if-is_shown.true) (ap (λ o. o.tokens) w.out-is ∙ w.in_ok-write_listed.ensures.tokens (of number firm) sound part) so
            | else-is_shown w ↦ ap (λ o. o.tokens ++ listed_rest caller firm rest) w.out-is ∙ listed-passed caller firm number rest c.each.out.tokens _ (sym shown ∙ w.if-is_shown.false) so
          ];
    }

pub returns-clause-told : goal.returns-clause-told
unfolding matters_body
returns-clause-told g c = λ clean stands.
    let firm : Firm = (g.B.Book.seen c.args.book.now).firm in
    let caller = c.args.caller.now in
    let numbers : List ℕ = c.deref-number-items.result.now in
    let none : drop c.each.number-index numbers ≡ [] = drop_all c.each.number-index numbers (omega arith) in
    let all = ap (λ ns. c.each.out.tokens ++ listed_rest caller firm ns) (sym none) ∙ (c.each.invariant.told clean stands ∙ ap (λ ns. front (codes "matters") ++ listed_rest caller firm ns) (c.each.invariant.opened clean stands)) in
    let tokens : c.end_object.new.self.tokens ≡ value_tokens (matters_object caller firm) =
    c.in_ok-end_object.ensures.ok ∙ (ap (λ ts. ts ++ (Token.end_object ∷ [])) c.in_ok-end_array.ensures.ok ∙ ended (codes "matters") (listed_objects caller firm (listed_for caller firm)) c.each.out.tokens all) in
    let before : c.end_object.new.self.before ≡ [] = c.in_ok-end_object.ensures.room.0 ∙ (c.in_ok-end_array.ensures.room.0 ∙ c.each.invariant.before) in
    (rw (before, tokens) at c.into_inner.ensures.items) ∙ print-outline (matters_object caller firm)

use Rattle.std.proofs.Common.{List, codes, drop, arith, ap, map, sym, subst, ℕ, [], ◌+◌, ◌++◌, ◌∙◌, ◌∷◌, ◌≡◌}
use Rattle.std.proofs.lemmas.List.{drop_all, drop_more}
use Rattle.json.specs.Token.{Token}
use Rattle.serde_json.proofs.Texts.{print-outline}
use Rattle.trust_base.specs.declared.line.Line.{Line}
use Rattle.firm_rows.specs.Firm.{Firm}
use Rattle.json_bodies.specs.Json.{value_tokens}
use Rattle.json_bodies.proofs.OneRead.{read-then}
use Rattle.json_bodies.proofs.Tokens.{ended, front}
unfoldable use Rattle.json_bodies.specs.Reasons.{reasons_body}
use Rattle.json_bodies.specs.Reasons.{exception_object, exceptions_object}
use Rattle.json_bodies.proofs.Decided.{reason-wrote, reasons_rest}
use Rattle.json_bodies.proofs.exception_list.reasons_body.Goals as goal

pub each-preserved : goal.each-preserved
each-preserved g c =
    let old = g.B.Book.seen c.args.book.now in
    let today = c.args.today in
    let line : Line = c.line-item.result in
    let lines : List Line = c.deref-line-items.result.now in
    let rest = drop (c.each.line-index + 1) lines in
    let before = c.each.invariant.read in
    let more = c.in_ok-write_exception.ensures.read (λ sure. before.serves sure) in
    record {
      read = read-then before more;
      before = c.in_ok-write_exception.ensures.before ∙ c.each.invariant.before;
      ledger = λ clean stands. c.each.invariant.ledger (more.was_clean clean) stands;
      lines = λ clean stands. c.each.invariant.lines (more.was_clean clean) stands;
      told = λ clean stands.
          let firm : Firm = old.firm in
          let was_clean = more.was_clean clean in
          let there = before.same was_clean stands in
          let wrote = c.in_ok-write_exception.ensures.told clean (before.still_stands was_clean stands) (sym c.ledger.view_is ∙ c.each.invariant.ledger was_clean stands ∙ sym (ap (λ (f : Firm). f.firm_lines) there)) in
          let next : drop c.each.line-index lines ≡ line ∷ rest = drop_more lines c.each.line-index line (omega arith) ∙ ap (λ l. l ∷ rest) (sym c.line-item.is) in
          let so : c.each.out.tokens ++ reasons_rest today firm (line ∷ rest) ≡ front (codes "exceptions") ++ reasons_rest today firm lines =
          ap (λ ls. c.each.out.tokens ++ reasons_rest today firm ls) (sym next) ∙ c.each.invariant.told was_clean stands in
          reason-wrote today firm line rest _ _ _ (subst (λ (f : Firm). c.write_exception.new.out.tokens ≡ c.each.out.tokens ++ value_tokens (exception_object today f line)) there wrote) so;
    }

pub returns-clause-told : goal.returns-clause-told
unfolding reasons_body
returns-clause-told g c = λ clean stands.
    let firm : Firm = (g.B.Book.seen c.args.book.now).firm in
    let today = c.args.today in
    let lines : List Line = c.deref-line-items.result.now in
    let none : drop c.each.line-index lines ≡ [] = drop_all c.each.line-index lines (omega arith) in
    let all = ap (λ ls. c.each.out.tokens ++ reasons_rest today firm ls) (sym none) ∙ (c.each.invariant.told clean stands ∙ ap (λ ls. front (codes "exceptions") ++ reasons_rest today firm ls) (c.each.invariant.lines clean stands)) in
    let tokens : c.end_object.new.self.tokens ≡ value_tokens (exceptions_object today firm) =
    c.in_ok-end_object.ensures.ok ∙ (ap (λ ts. ts ++ (Token.end_object ∷ [])) c.in_ok-end_array.ensures.ok ∙ ended (codes "exceptions") (map (exception_object today firm) firm.exceptions) c.each.out.tokens all) in
    let before : c.end_object.new.self.before ≡ [] = c.in_ok-end_object.ensures.room.0 ∙ (c.in_ok-end_array.ensures.room.0 ∙ c.each.invariant.before) in
    (rw (before, tokens) at c.into_inner.ensures.items) ∙ print-outline (exceptions_object today firm)

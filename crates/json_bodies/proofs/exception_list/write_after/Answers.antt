use Rattle.std.proofs.Common.{List, [], ◌∷◌, ◌++◌, ◌≡◌, ◌∙◌, ap, ℕ}
use Rattle.json.specs.Token.{Token}
use Rattle.json_bodies.proofs.Decided.{five-more}
use Rattle.json_bodies.proofs.exception_list.write_after.Goals as goal

pub returns-clause-tokens : goal.returns-clause-tokens
returns-clause-tokens c =
    let text = λ (t : List Token) (s : List ℕ). t ++ Token.string s ∷ [] in
    five-more c.args.out.now.tokens _ _ _ _ _ _ _ _ _ _
    c.in_ok-key.ensures.ok
    (c.in_ok-string.ensures.ok ∙ ap (text c.key.new.self.tokens) c.bank_text.ensures)
    c.in_ok-key-2.ensures.ok
    (c.in_ok-string-2.ensures.ok ∙ ap (text c.key-2.new.self.tokens) c.line_text.ensures)
    c.in_ok-end_object.ensures.ok

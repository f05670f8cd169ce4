use Rattle.std.proofs.Common.{List, [], ◌∷◌, ◌++◌, ◌≡◌, ◌∙◌, ap, rules, ℕ, ℤ}
use Rattle.json.specs.Token.{Token}
use Rattle.json_bodies.specs.Json.{sum_value, value_tokens}
use Rattle.json_bodies.proofs.Decided.{eight-more, five-more, three-more}
use Rattle.json_bodies.proofs.exception_list.write_before.Goals as goal

pub returns-clause-tokens : goal.returns-clause-tokens
returns-clause-tokens c =
    let text = λ (t : List Token) (s : List ℕ). t ++ Token.string s ∷ [] in
    let sum = λ (t : List Token) (z : ℤ). t ++ value_tokens (sum_value z) in
    eight-more c.args.out.now.tokens c.string.new.self.tokens c.key-4.new.self.tokens _ _ _ _ _ _ _ _
    (five-more c.args.out.now.tokens _ _ _ _ _ _ _ _ _ _
    c.in_ok-begin_object.ensures.ok
    c.in_ok-key.ensures.ok
    (c.in_ok-write_sum.ensures.tokens ∙ ap (sum c.key.new.self.tokens) (search rules))
    c.in_ok-key-2.ensures.ok
    (c.in_ok-string.ensures.ok ∙ ap (text c.key-2.new.self.tokens) c.bank_text.ensures))
    (three-more c.string.new.self.tokens _ _ _ _ _ _
    c.in_ok-key-3.ensures.ok
    c.in_ok-write_day.ensures.tokens
    c.in_ok-key-4.ensures.ok)

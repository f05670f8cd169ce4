use Rattle.std.proofs.Common.{List, ◌≡◌, ◌++◌, ◌∙◌, sym, ap, subst, append_assoc}
use Rattle.json.specs.Token.{Token}
use Rattle.statement_csv.specs.declared.item.Item.{Item}
use Rattle.statement_csv.specs.Items.{item_of_line}
use Rattle.json_bodies.specs.Json.{value_tokens}
use Rattle.json_bodies.specs.Reasons.{after_reason, before_reason, item_reason, reason_value}
use Rattle.json_bodies.proofs.exception_list.write_exception.Goals as goal

three : (ts us vs us' vs' ws' end : List Token) → us ≡ ts ++ us' → vs ≡ us ++ vs' → end ≡ vs ++ ws' → end ≡ ts ++ (us' ++ (vs' ++ ws'))
three ts us vs us' vs' ws' end first second third =
    third ∙ (ap (λ xs. xs ++ ws') (second ∙ ap (λ xs. xs ++ vs') first)
    ∙ (append_assoc (ts ++ us') vs' ws' ∙ append_assoc ts us' (vs' ++ ws')))

pub returns-clause-told : goal.returns-clause-told
returns-clause-told g c =
    λ clean stands ledger.
    let firm = (g.B.Book.seen c.args.book.now).firm in
    let line = c.args.line.now in
    let item : c.item_of_line-item.result ≡ item_of_line 1 line = c.item_of_line-item.ensures ∙ ap (item_of_line 1) c.in_ok-copied.ensures in
    let reason = subst (λ (it : Item). c.write_item_reason.new.out.tokens ≡ c.write_before.new.out.tokens ++ value_tokens (reason_value (item_reason c.args.today firm it))) item (c.in_ok-write_item_reason.ensures.told clean stands ledger) in
    three _ _ _ (before_reason line) _ (after_reason line) _ c.in_ok-write_before.ensures.tokens reason c.in_ok-write_after.ensures.tokens

use Rattle.std.proofs.Common.{◌≡◌, ◌++◌, List, ℕ, OnOk, refl, sym, ap, ◌∙◌, subst, arith, pos}
use Rattle.std.proofs.lemmas.Bool.Decides.{nat_tests}
use Rattle.std.proofs.lemmas.Int.{ints}
use Rattle.json_bodies.specs.Json.{value_tokens}
use Rattle.matter_rows.specs.Rows.{entry_at}
use Rattle.matter_rows.specs.Balances.{available}
use Rattle.matter_parts.specs.Parts.{entry_in, kept_at}
use Rattle.trust_matter.specs.declared.line_verdict.LineEffect.TheVariants as told
use Rattle.trust_matter.specs.declared.line_verdict.Reason.TheVariants as unmatched
use Rattle.json_bodies.specs.Reasons.{ExceptionReason, WrongAmount, WrongKind, WrongState, reason_value}
use Rattle.json_bodies.proofs.Decided.{decided-unmatched, entry-there, reason-by}
use Rattle.json_bodies.proofs.reasons.write_matter_reason.Goals as goal

pub returns-in-NoMatter-clause-tokens : goal.returns-in-NoMatter-clause-tokens
returns-in-NoMatter-clause-tokens c =
    λ holds rows sound is.
    let l = c.args.line.now in
    let on = decided-unmatched rows l c.args.today c.in-Ok.verdict _ _ c.in-Unmatched.is c.in-NoMatter.is (c.in-Ok.ensures.decided holds rows sound is) in
    let reason = reason-by rows l c.args.today _ (entry_at rows.entries l.entry) (available rows.entries) on refl refl in
    subst (λ (r : ExceptionReason). OnOk c.write_named-in-NoMatter.result (c.write_named-in-NoMatter.new.out.tokens ≡ c.args.out.now.tokens ++ value_tokens (reason_value r))) (sym reason) c.write_named-in-NoMatter.ensures.tokens

pub returns-in-WrongKind-clause-tokens : goal.returns-in-WrongKind-clause-tokens
returns-in-WrongKind-clause-tokens c =
    λ holds rows sound is.
    let l = c.args.line.now in
    let on = decided-unmatched rows l c.args.today c.in-Ok.verdict _ _ c.in-Unmatched.is c.in-WrongKind.is (c.in-Ok.ensures.decided holds rows sound is) in
    let there = ap entry_in c.find-found.ensures.is ∙ entry-there c.args.matter.now rows l.entry is holds in
    let reason = reason-by rows l c.args.today _ _ (available rows.entries) on there refl in
    subst (λ (r : ExceptionReason). OnOk c.write_pair.result (c.write_pair.new.out.tokens ≡ c.args.out.now.tokens ++ value_tokens (reason_value r))) (sym reason)
    (subst (λ (w : List ℕ). OnOk c.write_pair.result (c.write_pair.new.out.tokens ≡ c.args.out.now.tokens ++ value_tokens (reason_value (WrongKind w)))) c.kind_word.ensures c.write_pair.ensures.tokens)

pub returns-in-WrongState-clause-tokens : goal.returns-in-WrongState-clause-tokens
returns-in-WrongState-clause-tokens c =
    λ holds rows sound is.
    let l = c.args.line.now in
    let on = decided-unmatched rows l c.args.today c.in-Ok.verdict _ _ c.in-Unmatched.is c.in-WrongState.is (c.in-Ok.ensures.decided holds rows sound is) in
    let there = ap entry_in c.find-found.ensures.is ∙ entry-there c.args.matter.now rows l.entry is holds in
    let reason = reason-by rows l c.args.today _ _ (available rows.entries) on there refl in
    subst (λ (r : ExceptionReason). OnOk c.write_pair-in-WrongState.result (c.write_pair-in-WrongState.new.out.tokens ≡ c.args.out.now.tokens ++ value_tokens (reason_value r))) (sym reason)
    (subst (λ (w : List ℕ). OnOk c.write_pair-in-WrongState.result (c.write_pair-in-WrongState.new.out.tokens ≡ c.args.out.now.tokens ++ value_tokens (reason_value (WrongState w)))) c.state_word.ensures c.write_pair-in-WrongState.ensures.tokens)

pub returns-in-WrongAmount-clause-tokens : goal.returns-in-WrongAmount-clause-tokens
returns-in-WrongAmount-clause-tokens c =
    λ holds rows sound is.
    let l = c.args.line.now in
    let on = decided-unmatched rows l c.args.today c.in-Ok.verdict _ _ c.in-Unmatched.is c.in-WrongAmount.is (c.in-Ok.ensures.decided holds rows sound is) in
    let there = ap entry_in c.find-found.ensures.is ∙ entry-there c.args.matter.now rows l.entry is holds in
    let reason = reason-by rows l c.args.today _ _ (available rows.entries) on there refl in
    subst (λ (r : ExceptionReason). OnOk c.write_named_amount.result (c.write_named_amount.new.out.tokens ≡ c.args.out.now.tokens ++ value_tokens (reason_value r))) (sym reason)
    (subst (λ (a : ℕ). OnOk c.write_named_amount.result (c.write_named_amount.new.out.tokens ≡ c.args.out.now.tokens ++ value_tokens (reason_value (WrongAmount a)))) c.amount_of.ensures c.write_named_amount.ensures.tokens)

pub returns-clause-tokens : goal.returns-clause-tokens
returns-clause-tokens c =
    λ holds rows sound is.
    let l = c.args.line.now in
    let on = decided-unmatched rows l c.args.today c.in-Ok.verdict _ _ c.in-Unmatched.is c.in-Uncovered.is (c.in-Ok.ensures.decided holds rows sound is) in
    let there = ap entry_in c.find-found.ensures.is ∙ entry-there c.args.matter.now rows l.entry is holds in
    let free : pos c.figures-free.result.available ≡ available rows.entries = ap (λ f. pos f.available) c.figures-free.ensures.is ∙ is.figures.available in
    let reason = reason-by rows l c.args.today _ _ _ on there free in
    subst (λ (r : ExceptionReason). OnOk c.write_named_amount-in-Uncovered.result (c.write_named_amount-in-Uncovered.new.out.tokens ≡ c.args.out.now.tokens ++ value_tokens (reason_value r))) (sym reason)
    c.write_named_amount-in-Uncovered.ensures.tokens

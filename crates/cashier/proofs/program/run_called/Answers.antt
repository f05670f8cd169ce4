use Rattle.cashier.proofs.Names.{◌∙◌, Appends-nil, Result, IfOk, ap, map, refl, string_bytes, words_of, arith, ints, nat_tests}
use Rattle.cashier.proofs.RunFacts.{by-line, by-want, over-memory, over-path}
use Rattle.cashier.proofs.program.run_called.Goals as goal

if_ok : {X Y : Type 0} (o : Result X Y) (P : X → Type 0) → ((x : X) → P x) → IfOk o P
if_ok o x1 p = grind (arith, ints, nat_tests)

pub returns-in_default-clause-ran : goal.returns-in_default-clause-ran
returns-in_default-clause-ran g c = if_ok _ _ (λ words. by-want _ (Appends-nil _) (refl, refl))

pub returns-in-Some-clause-ran : goal.returns-in-Some-clause-ran
returns-in-Some-clause-ran g c = grind (arith, ints, nat_tests, words_of, map, string_bytes, over-path)

pub returns-in-Ok-command_of-clause-ran : goal.returns-in-Ok-command_of-clause-ran
returns-in-Ok-command_of-clause-ran g c = grind (arith, ints, nat_tests, words_of, map, string_bytes, over-memory)

pub returns-in-Ok-command_of-clause-input : goal.returns-in-Ok-command_of-clause-input
returns-in-Ok-command_of-clause-input g c =
    let named = ap words_of c.as_slice-2.ensures.value ∙ c.in-Ok-texts_of.ensures ∙ ap (map string_bytes) c.as_slice.ensures.value in
    rw (c.in-Ok.is, ← named) (c.run_in_memory.ensures.input _ c.in-Ok-command_of.ensures.plan)

pub returns-in-Err-Line-clause-ran : goal.returns-in-Err-Line-clause-ran
returns-in-Err-Line-clause-ran g c =
    let named = ap words_of c.as_slice-2.ensures.value ∙ c.in-Ok-texts_of.ensures ∙ ap (map string_bytes) c.as_slice.ensures.value in
    rw (c.in-Ok.is, ← named) (by-line _ (rw c.in-Err-Line.field-0-is at c.in-Err-Line.ensures.none))

pub returns-clause-ran : goal.returns-clause-ran
returns-clause-ran g c = if_ok _ _ (λ words. by-want _ (Appends-nil _) (refl, refl))

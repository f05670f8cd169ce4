use Rattle.cashier.proofs.Names.{◌∙◌, ◌∷◌, ◌++◌, [], line_of}
use Rattle.std.proofs.lemmas.Result.{on_err_weaker}
use Rattle.std.specs.Fmt.{decimal}
use Rattle.cashier.proofs.SheetFacts.{cut-first, cut-later}
use Rattle.cashier.proofs.outcome.write_answer_line.Goals as goal

pub returns-in_default-send-clause-err : goal.returns-in_default-send-clause-err
unfolding line_of
returns-in_default-send-clause-err g c =
    let status = rw (c.as_bytes.ensures.value ∙ c.format.ensures.text) at c.in-Ok.ensures.ok in
    let part = rw c.as_slice.ensures at c.in_default-send.ensures.err in
    cut-later _ _ _ (decimal c.args.status) _ status (cut-first _ _ (32 ∷ []) (c.args.body.now ++ 10 ∷ []) part)

pub returns-in_default-send-2-clause-err : goal.returns-in_default-send-2-clause-err
unfolding line_of
returns-in_default-send-2-clause-err g c =
    let status = rw (c.as_bytes.ensures.value ∙ c.format.ensures.text) at c.in-Ok.ensures.ok in
    let space = rw c.as_slice.ensures at c.in-Ok-send.ensures.ok in
    let part = c.in_default-send-2.ensures.err in
    cut-later _ _ _ (decimal c.args.status) _ status (cut-later _ _ _ (32 ∷ []) _ space (cut-first _ _ c.args.body.now (10 ∷ []) part))

pub returns-clause-err : goal.returns-clause-err
unfolding line_of
returns-clause-err g c =
    let status = rw (c.as_bytes.ensures.value ∙ c.format.ensures.text) at c.in-Ok.ensures.ok in
    let space = rw c.as_slice.ensures at c.in-Ok-send.ensures.ok in
    let end = rw c.as_slice-2.ensures at c.send-4.ensures.err in
    on_err_weaker c.send-4.result
    (λ part. cut-later _ _ _ (decimal c.args.status) _ status (cut-later _ _ _ (32 ∷ []) _ space (cut-later _ _ _ c.args.body.now (10 ∷ []) c.in-Ok-send-2.ensures.ok part)))
    end

use Rattle.matter_rows.specs.declared.act.Act.{Act}
use Rattle.trust_matter.proofs.Names.{Err, IsPart, LineDecides, Result, Rows, Some, Sound, ap, arith, common_steps, entry_in, false, is_line_again, kept_at, rules, true, ◌∙◌, ◌≡◌}
use Rattle.trust_base.specs.declared.refusal.StoreFault.{StoreFault}
use Rattle.trust_base.specs.declared.refusal.StoreFault.TheVariants as faults
use Rattle.trust_matter.specs.declared.line_verdict.LineVerdict.{LineVerdict}
use Rattle.trust_matter.proofs.Late.{handed-up}
use Rattle.trust_matter.proofs.LineDecided.{applied-by, repeat-by, unmatched-by, line-made, line-no-store, line-memory}
use Rattle.trust_matter.proofs.line_verdict.decide_line.Goals as goal
use Rattle.trust_matter.proofs.line_verdict.decide_line.Goals.{Else-is_again}

-- a line that is not taken for a repeat is none
is-new : (c : Else-is_again) → is_line_again (entry_in (kept_at c.args.matter.now c.args.line.now.entry)) c.args.line.now.line ≡ false
is-new c = first_of (search rules, grind (arith, common_steps))

pub returns-then-is_again-clause-decided : goal.returns-then-is_again-clause-decided
returns-then-is_again-clause-decided c =
    λ held.
    let again : is_line_again (entry_in (kept_at c.args.matter.now c.args.line.now.entry)) c.args.line.now.line ≡ true = first_of (search rules, grind (arith, common_steps)) in
    repeat-by c.args.matter.now c.args.line.now c.args.today held again

pub returns-in-Err-clause-decided : goal.returns-in-Err-clause-decided
returns-in-Err-clause-decided c =
    λ held.
    let new = is-new (goal.at.returns-in-Err-clause-decided c).Else-is_again in
    unmatched-by c.args.matter.now c.args.line.now c.args.today c.in-Err.reason held new c.in-Err.ensures

pub returns-in_err-dated-clause-decided : goal.returns-in_err-dated-clause-decided
returns-in_err-dated-clause-decided c =
    λ held.
    let m = c.args.matter.now in
    let l = c.args.line.now in
    let P : Result LineVerdict StoreFault → Type 0 = λ r. (rows : Rows) → Sound rows → IsPart m rows → LineDecides rows l c.args.today r in
    let new = is-new (goal.at.returns-in_err-dated-clause-decided c).Else-is_again in
    let memory : P (Err faults.Memory) = line-memory m l c.args.today held new c.in-Ok.ensures.0 in
    handed-up P c.from_residual.result faults.Memory c.from_residual.ensures.0 c.from_residual.ensures.1 memory

pub returns-in-Ok-change_of-clause-decided : goal.returns-in-Ok-change_of-clause-decided
returns-in-Ok-change_of-clause-decided c =
    λ held.
    let new = is-new (goal.at.returns-in-Ok-change_of-clause-decided c).Else-is_again in
    let applied =
    applied-by c.args.matter.now c.args.line.now c.args.today _ new c.in-Ok.ensures.0 c.in_ok-dated.ensures in
    line-made c.args.matter.now c.args.line.now c.args.today _ c.in-Ok-change_of.change c.in-Ok.kept.now.entry held
    applied c.in-Ok-change_of.ensures.ok (ap entry_in c.in-Ok.ensures.1)
    (c.in-Ok-change_of.ensures.act ∙ ap (λ (a : Act). Some a) c.line_act-act.ensures)

pub returns-in-Err-change_of-clause-decided : goal.returns-in-Err-change_of-clause-decided
returns-in-Err-change_of-clause-decided c =
    λ held.
    let new = is-new (goal.at.returns-in-Err-change_of-clause-decided c).Else-is_again in
    let applied =
    applied-by c.args.matter.now c.args.line.now c.args.today _ new c.in-Ok.ensures.0 c.in_ok-dated.ensures in
    line-no-store c.args.matter.now c.args.line.now c.args.today _ held applied c.in-Err-change_of.ensures.store

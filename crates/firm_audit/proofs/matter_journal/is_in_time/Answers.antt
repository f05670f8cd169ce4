use Rattle.firm_audit.proofs.matter_journal.is_in_time.Goals as goal

pub loop-movement-init : goal.loop-movement-init
loop-movement-init c = (λ h. h, λ h. h)

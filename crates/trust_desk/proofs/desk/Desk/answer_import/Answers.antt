use Rattle.trust_desk.proofs.Names.{◌∙◌, ap, inl, inr, refl, err_from_is_err_and, Memory, counted_stop}
use Rattle.trust_desk.proofs.Calls.{kept-as}
use Rattle.trust_desk.proofs.ImportSteps.{import-stopped, import-told, import-unfit, stopped-by}
use Rattle.trust_desk.proofs.desk.Desk.answer_import.Goals as goal

pub returns-in_err-check_import : goal.returns-in_err-check_import
returns-in_err-check_import g c =
    λ h kind.
    let p = err_from_is_err_and c.from_residual.result c.from_residual.ensures.1 in
    rw (p.1, p.2) (import-unfit c.args.day h c.args.caller.now c.args.bytes.now kind (g.B.Book.seen c.args.self.now) c.in_err-check_import.field-0.0 c.in_err-check_import.ensures)

pub returns-in_err-text-in-Done : goal.returns-in_err-text-in-Done
returns-in_err-text-in-Done g c =
    λ h kind.
    let done = c.import-reply.ensures.imported in
    let p = err_from_is_err_and c.from_residual-in_err-text-in-Done.result c.from_residual-in_err-text-in-Done.ensures.1 in
    rw (p.1, p.2)
    (import-stopped c.args.day h c.args.caller.now c.args.bytes.now kind c.in_ok-check_import.ensures c.import-reply.result done.front done.crash Memory refl
    (kept-as (λ sure stands. ap (λ e. counted_stop e (g.B.Book.seen c.args.self.now).refusals) c.in-Done.is) done.kept))

pub returns-in_ok-text-in-Done : goal.returns-in_ok-text-in-Done
returns-in_ok-text-in-Done g c =
    λ h kind.
    let done = c.import-reply.ensures.imported in
    import-told c.args.day h c.args.caller.now c.args.bytes.now kind c.in_ok-check_import.ensures c.import-reply.result done.front done.crash c.new.result c.in-Done.is
    (c.new.ensures ∙ c.in_ok-text-in-Done.ensures) (kept-as (λ sure stands. ap (λ e. counted_stop e (g.B.Book.seen c.args.self.now).refusals) c.in-Done.is) done.kept)

pub returns-in-Refused : goal.returns-in-Refused
returns-in-Refused g c =
    λ h kind.
    let done = c.import-reply.ensures.imported in
    let fit = c.in_ok-check_import.ensures in
    let r = c.in-Refused.refusal in
    import-stopped c.args.day h c.args.caller.now c.args.bytes.now kind fit c.import-reply.result done.front done.crash r
    (stopped-by c.args.caller.now c.args.bytes.now c.import-reply.result.end r fit c.in-Refused.is done.stops done.header)
    (kept-as (λ sure stands. ap (λ e. counted_stop e (g.B.Book.seen c.args.self.now).refusals) c.in-Refused.is) done.kept)

pub returns-in-Limit : goal.returns-in-Limit
returns-in-Limit g c =
    λ h kind.
    let done = c.import-reply.ensures.imported in
    import-stopped c.args.day h c.args.caller.now c.args.bytes.now kind c.in_ok-check_import.ensures c.import-reply.result done.front done.crash Memory refl
    (kept-as (λ sure stands. elim c.in-Limit.is [
      | inl is ↦ ap (λ e. counted_stop e (g.B.Book.seen c.args.self.now).refusals) is
      | inr is ↦ ap (λ e. counted_stop e (g.B.Book.seen c.args.self.now).refusals) is
    ]) done.kept)

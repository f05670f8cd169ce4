use Rattle.firm_audit.proofs.Names.{◌≡◌, ℕ, ◌<◌, ◌≤◌, length, Option, Some, sym, arith, subst, length-map, rules, entries_kept}
use Rattle.matter_rows.proofs.Entries.{none-past}
use Rattle.firm_audit.specs.Trails.{IsOfEntry}
use Rattle.firm_audit.proofs.Entries.{some-is}
use Rattle.firm_audit.proofs.trail.missing_entry.Goals as goal

pub returns-then-get-kept-clause-some : goal.returns-then-get-kept-clause-some
returns-then-get-kept-clause-some c =
    let kept = c.args.kept.now in
    let n = c.in_ok-number.number in
    let past : length (entries_kept kept) < n = omega (arith, length-map kept (λ x. x.entry), c.get.ensures.value, c.if-get-kept.true) in
    (search rules, none-past (entries_kept kept) n past)

pub returns-clause-none : goal.returns-clause-none
returns-clause-none c = λ none.
    let kept = c.args.kept.now in
    let n = c.in_ok-number.number in
    let is : c.args.act.now.entry ≡ Some n = search rules in
    let some : 0 < n = omega (arith, c.get.ensures.value, c.get.ensures.range) in
    let within : n ≤ length (entries_kept kept) = omega (arith, length-map kept (λ x. x.entry), c.get.ensures.value, c.if-get-kept.false) in
    subst (λ (o : Option ℕ). IsOfEntry (entries_kept kept) o) (sym is) ((some-is (entries_kept kept) n some).1 within)

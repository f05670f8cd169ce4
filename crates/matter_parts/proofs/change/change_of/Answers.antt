use Rattle.std.proofs.lemmas.Grind.{common_steps}
use Rattle.std.proofs.lemmas.Result.{MatchResult-from_err}
use Rattle.matter_parts.proofs.Names.{◌≡◌, ◌∙◌, None, Some, ap, arith, ints, is_some, ExchangeMoved}
use Rattle.matter_parts.proofs.Moving.{append-written, events-counted, exchange-written, written-append, written-exchange, word}
use Rattle.matter_parts.proofs.change.change_of.Goals.{in-Append+else-get-entries+in_ok-moves-in-Append, in-Exchange+in_ok-kept-in-Exchange+in_ok-moves-in-Exchange, in-Purge, in-Nothing}
use Rattle.matter_parts.proofs.change.change_of.Goals as goal

pub returns-in_err-moves-in-Append-clause-store : goal.returns-in_err-moves-in-Append-clause-store
returns-in_err-moves-in-Append-clause-store c =
    let none : c.written.result ≡ None = grind arith in
    let refused = rw none at c.written.ensures.none in
    MatchResult-from_err c.from_residual.result _ _ c.from_residual.ensures.0 (λ y. rw c.in-Append.is (λ v s m.
    let w = append-written c.args.matter.now c.in-Append.new v m in
    refused v s (grind (arith, ints))))

pub returns-in_err-moves-in-Exchange-clause-store : goal.returns-in_err-moves-in-Exchange-clause-store
returns-in_err-moves-in-Exchange-clause-store c =
    let none : c.written-in-Exchange.result ≡ None = grind arith in
    let refused = rw none at c.written-in-Exchange.ensures.none in
    MatchResult-from_err c.from_residual-in_err-moves-in-Exchange.result _ _ c.from_residual-in_err-moves-in-Exchange.ensures.0 (λ y.
    rw c.in-Exchange.is (λ v s m. refused v s (grind (arith, ints, exchange-written, word))))

pub invariant_of-result : goal.invariant_of-result
invariant_of-result c = grind (arith, common_steps)

pub returns-clause-ok : goal.returns-clause-ok
returns-clause-ok c = elim c.match-edit.branch [
  | in-Append+else-get-entries+in_ok-moves-in-Append w ↦ grind (arith, common_steps, written-append)
  | in-Exchange+in_ok-kept-in-Exchange+in_ok-moves-in-Exchange w ↦
      let made : w.written-in-Exchange.result ≡ Some w.in_ok-moves-in-Exchange.moves = grind arith in
      let is = rw made at w.written-in-Exchange.ensures.some in
      let counted = events-counted _ _ _ _
      (w.is_some-first.ensures ∙ ap is_some w.event-in-Exchange.ensures)
      (w.is_some-second.ensures ∙ ap is_some w.event-in-Exchange-2.ensures) in
      let moved : ExchangeMoved c.args.matter.now w.in-Exchange.new w.in_ok-kept-in-Exchange.kept.now w.in_ok-moves-in-Exchange.moves = grind (arith, ints, written-exchange, word) in
      grind (arith, common_steps)
  | in-Purge w ↦ grind (arith, common_steps)
  | in-Nothing w ↦ grind (arith, common_steps)
]

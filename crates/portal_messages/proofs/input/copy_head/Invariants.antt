use Rattle.portal_messages.proofs.Names.{◌≡◌, ◌++◌, codes, values_of, pairs_from}
use Rattle.portal_messages.proofs.input.copy_head.Given as goal

abbrev pub invariant-loop-field : goal.invariant-loop-field
invariant-loop-field l = l.callers ++ values_of (codes "x-caller") (pairs_from l.bytes l.fields l.field-index)
    ≡ values_of (codes "x-caller") (pairs_from l.bytes l.fields 0)

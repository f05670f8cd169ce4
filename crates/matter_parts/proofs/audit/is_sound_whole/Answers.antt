use Rattle.matter_parts.proofs.Names.{ap, arith, ◌∙◌, false≢true, entries_kept}
use Rattle.matter_parts.proofs.audit.is_sound_whole.Goals as goal

pub returns-then-len : goal.returns-then-len
returns-then-len c = grind (arith, false≢true, entries_kept)

pub passes-requires-clause-head : goal.passes-requires-clause-head
passes-requires-clause-head c = c.in_ok-head.ensures ∙ c.head.ensures

pub passes-requires-clause-entries : goal.passes-requires-clause-entries
passes-requires-clause-entries c = c.deref-2.ensures.value ∙ c.in_ok-entries.ensures ∙ ap entries_kept c.kept.ensures

pub passes-requires-clause-drawn : goal.passes-requires-clause-drawn
passes-requires-clause-drawn c = grind (arith)

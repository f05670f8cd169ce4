use Rattle.json_bodies.proofs.Names.{◌∙◌, ◌∷◌, [], ap, array_of, compact_text, kept_object, map, object_of, print-outline}
use Rattle.std.specs.Prelude.{codes}
use Rattle.json_bodies.proofs.EntryFacts.{whole-entries}
use Rattle.json_bodies.proofs.listed.entries_body.Goals as goal

pub returns : goal.returns
returns c = λ rows whole.
    let entries = map (kept_object c.args.no) c.args.matter.now.kept in
    (rw (c.in_ok-write_entries_object.ensures.tokens, c.write_entries_object.ensures.before, c.in_ok-out.ensures.before, c.in_ok-out.ensures.tokens, c.kept.ensures) at c.into_inner.ensures.items)
    ∙ print-outline (object_of ((codes "entries", array_of entries) ∷ []))
    ∙ ap (λ ds. compact_text (object_of ((codes "entries", array_of ds) ∷ []))) (whole-entries c.args.no c.args.matter.now rows whole)

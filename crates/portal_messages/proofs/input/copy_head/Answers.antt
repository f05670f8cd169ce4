use Rattle.portal_messages.proofs.Names.{◌≡◌, ◌∙◌, [], ◌∷◌, ◌++◌, codes, sym, HeaderSpan}
use Rattle.portal_messages.proofs.CallerFacts.{field-no, field-yes, fields-done}
use Rattle.portal_messages.proofs.input.copy_head.Goals as goal
use Rattle.portal_messages.proofs.input.copy_head.Goals.{then-is_name+in_ok-value+in_ok-push, else-is_name}

-- what the code reads past the fields' end
abbrev no_field : HeaderSpan
no_field = record { name = record { start = 0; end = 0 }; value = record { start = 0; end = 0 } }

pub loop-field-preserved : goal.loop-field-preserved
loop-field-preserved c = elim c.if-is_name.branch [
  | then-is_name+in_ok-value+in_ok-push w ↦
      let more : c.if-is_name.callers ≡ c.loop-field.callers ++ w.new.result ∷ [] = w.callers-is ∙ w.in_ok-push.ensures.ok in
      let same = rw c.of.ensures at (sym c.is_name.ensures ∙ w.if-is_name.true) in
      rw more (field-yes (codes "x-caller") _ _ no_field _ _ _ _ c.loop-field-test.true same (w.new.ensures ∙ (w.in_ok-value.ensures.items ∙ w.of-then-is_name.ensures)) c.loop-field.invariant)
  | else-is_name w ↦
      let other = rw c.of.ensures at (sym c.is_name.ensures ∙ w.if-is_name.false) in
      rw w.callers-is (field-no (codes "x-caller") _ _ no_field _ _ _ c.loop-field-test.true other c.loop-field.invariant)
]

pub returns-clause-callers : goal.returns-clause-callers
returns-clause-callers c =
    fields-done (codes "x-caller") c.args.bytes.now c.args.fields.now _ c.loop-field.field-index c.loop-field.callers c.loop-field-test.false c.loop-field.invariant

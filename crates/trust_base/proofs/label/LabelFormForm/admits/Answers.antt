use Rattle.trust_base.proofs.Names.{arith, is_utf8-from_IsUtf8, is_label_text}
use Rattle.trust_base.proofs.NameFacts.{is_utf8-of_other}
use Rattle.trust_base.proofs.label.LabelFormForm.admits.Goals as goal

pub returns-in_default : goal.returns-in_default
unfolding is_label_text
returns-in_default c = let off = is_utf8-of_other c.args.text.now c.in_default.ensures.cases.0 in grind arith

pub returns : goal.returns
unfolding is_label_text
returns c =
    let (same, text) = c.in-Ok.ensures.cases in
    let on = is_utf8-from_IsUtf8 c.args.text.now text in
    let control = c.has_control.ensures in
    grind arith

use Rattle.trust_store.proofs.Names.{◌≡◌, [], None, refl, sym, subst, ◌∙◌, changed, with_trail, OfMatter, FirmSound, firm_of, rows_in}
use Rattle.matter_parts.specs.declared.edit.Edit.TheVariants.{Nothing}
use Rattle.firm_rows.proofs.Acts.{acts-joined}
use Rattle.firm_rows.proofs.Trail.{sound-trail}
use Rattle.trust_store.proofs.KeptMatters.{change_in, kept-whole, written_firm}
use Rattle.trust_store.proofs.plain.PlainBook.change.Goals as goal

pub write_with_act-requires : goal.write_with_act-requires
write_with_act-requires c = search (change_in)

pub invariant_of-self-2 : goal.invariant_of-self-2
invariant_of-self-2 c =
    let ks = c.self.inside.matters.items in
    let may = change_in c.args.matter ks c.self.inside.movements.items c.self.inside.own c.self.inside.exceptions.items c.self.inside.balances.items c.self.inside.acts.items c.self.inside.dismissals.items c.args.self.now c.args.change.now c.self.invariant.matters.ascends c.self.view_is c.requires in
    let changes : c.args.change.now.edit ≡ Nothing → ⊥ = λ h. c.in_default.not-Nothing (c.edit.ensures ∙ h) in
    let acted = c.in_ok-write_with_act.ensures.acted ∙ acts-joined c.args.matter c.args.change.now.edit c.args.change.now.act c.self.inside.acts.items changes in
    let made = written_firm c.args.matter c.args.change.now ks c.write_with_act.new.kept.items c.self.inside.movements.items c.write_with_act.new.movements.items c.self.inside.own c.self.inside.exceptions.items c.self.inside.balances.items c.self.inside.acts.items c.write_with_act.new.acts.items c.self.inside.dismissals.items c.self.invariant.matters.ascends may c.in_ok-write_with_act.ensures.kept c.in_ok-write_with_act.ensures.moved acted c.args.self.now changes c.self.view_is in
    let old = subst FirmSound c.self.view_is (sound-trail c.self.inside.acts.items c.self.inside.dismissals.items _ c.self.invariant.firm) in
    let new = subst FirmSound (sym made) (c.firm_stays_sound.ensures.kept (OfMatter c.args.matter None c.args.change.now) c.args.self.now old c.requires) in
    record {
      matters = kept-whole c.args.matter (changed c.args.change.now (rows_in c.args.matter ks)) ks c.write_with_act.new.kept.items may.sound c.in_ok-write_with_act.ensures.kept c.self.invariant.matters;
      firm = sound-trail [] [] (with_trail c.write_with_act.new.acts.items c.self.inside.dismissals.items (firm_of c.write_with_act.new.kept.items c.write_with_act.new.movements.items c.self.inside.own c.self.inside.exceptions.items c.self.inside.balances.items)) new;
    }

pub returns : goal.returns
returns c =
    let ks = c.self.inside.matters.items in
    let may = change_in c.args.matter ks c.self.inside.movements.items c.self.inside.own c.self.inside.exceptions.items c.self.inside.balances.items c.self.inside.acts.items c.self.inside.dismissals.items c.args.self.now c.args.change.now c.self.invariant.matters.ascends c.self.view_is c.requires in
    let changes : c.args.change.now.edit ≡ Nothing → ⊥ = λ h. c.in_default.not-Nothing (c.edit.ensures ∙ h) in
    let acted = c.in_ok-write_with_act.ensures.acted ∙ acts-joined c.args.matter c.args.change.now.edit c.args.change.now.act c.self.inside.acts.items changes in
    record {
      ok = written_firm c.args.matter c.args.change.now ks c.write_with_act.new.kept.items c.self.inside.movements.items c.write_with_act.new.movements.items c.self.inside.own c.self.inside.exceptions.items c.self.inside.balances.items c.self.inside.acts.items c.write_with_act.new.acts.items c.self.inside.dismissals.items c.self.invariant.matters.ascends may c.in_ok-write_with_act.ensures.kept c.in_ok-write_with_act.ensures.moved acted c.args.self.now changes c.self.view_is;
      err = tt;
      nothing = λ _. refl;
    }

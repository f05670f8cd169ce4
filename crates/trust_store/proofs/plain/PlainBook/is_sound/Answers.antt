use Rattle.trust_store.proofs.Names.{subst, FirmSound}
use Rattle.firm_rows.proofs.Trail.{sound-trail}
use Rattle.trust_store.proofs.plain.PlainBook.is_sound.Goals as goal

pub returns : goal.returns
returns c = subst FirmSound c.self.view_is (sound-trail c.self.inside.acts.items c.self.inside.dismissals.items _ c.self.invariant.firm)

use Rattle.portal_requests.proofs.Names.{◌≡◌, members_view, has_keys, is_object, texts, view}
use Rattle.portal_requests.proofs.request.is_object.Given as goal

abbrev pub invariant-loop-key : goal.invariant-loop-key
invariant-loop-key l = is_object (texts l.keys) (view l.value) ≡ has_keys (texts l.keys) (members_view l.key-iterator)

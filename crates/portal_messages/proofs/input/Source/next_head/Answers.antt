use Rattle.portal_messages.proofs.Names.{◌≡◌, ◌∙◌, ◌<◌, ◌+◌, arith, false, true, List, ℕ, min, length, refl, is_ended, front_of, HEAD_LIMIT, BadMessage, IsFault}
use Rattle.portal_messages.proofs.HeadFacts.{found-in, full-none, no-head, over-none}
use Rattle.portal_messages.proofs.NextFacts.{at-end, bad-next, no-message}
use Rattle.portal_messages.proofs.input.Source.next_head.Goals as goal
use Rattle.portal_messages.proofs.input.Source.next_head.Goals.{then-not-is_blank+in-Ok-Partial+else-size-ge-MAX_HEAD_BYTES, else-not-is_blank}

pub returns-in-Ok-Complete-clause-next : goal.returns-in-Ok-Complete-clause-next
returns-in-Ok-Complete-clause-next g c =
    let buf = c.loop.self.buffer.items in
    let live : is_ended buf ≡ false = cc in
    let first : c.first_bytes.result.now ≡ front_of buf = cc in
    let of = rw c.in-Ok-Complete.field-0-is at c.in-Ok-Complete.ensures.complete in
    let within = rw c.in-Ok-Complete.field-0-is at c.in-Ok-Complete.ensures.within in
    (live, of.0, found-in buf _ _ c.in-Ok-Complete.head first (c.parse_request.auto.headers ∙ c.loop.invariant.room) within of.0 of.1)

pub returns-then-size-ge-MAX_HEAD_BYTES-clause-next : goal.returns-then-size-ge-MAX_HEAD_BYTES-clause-next
returns-then-size-ge-MAX_HEAD_BYTES-clause-next g c =
    let buf = c.loop.self.buffer.items in
    let live : is_ended buf ≡ false = cc in
    let first : c.first_bytes.result.now ≡ front_of buf = cc in
    let none = rw first at (rw c.in-Ok-Partial.field-0-is at c.in-Ok-Partial.ensures.partial) in
    (refl, bad-next buf _ _ c.loop.invariant.unread live (full-none buf (min (length buf) HEAD_LIMIT) (omega arith) (omega arith) none))

pub returns-in-Err-clause-next : goal.returns-in-Err-clause-next
returns-in-Err-clause-next g c =
    let buf = c.loop.self.buffer.items in
    let live : is_ended buf ≡ false = cc in
    let first : c.first_bytes.result.now ≡ front_of buf = cc in
    (refl, bad-next buf _ _ c.loop.invariant.unread live (over-none buf (min (length buf) HEAD_LIMIT) (length c.loop.spans) c.loop.invariant.room (rw first at c.in-Err.ensures.no_room)))

pub returns-then-not-branch-clause-next : goal.returns-then-not-branch-clause-next
returns-then-not-branch-clause-next g c =
    let buf = c.loop.self.buffer.items in
    let after = c.fill_to.new.self.buffer.items in
    let (less, end) = rw c.if-not-branch.true at c.in_ok-fill_to.ensures.full in
    let short : length after < length buf + 1 = omega (arith, less) in
    elim c.if-not-is_blank.branch [
      | then-not-is_blank+in-Ok-Partial+else-size-ge-MAX_HEAD_BYTES w ↦
          let live : is_ended buf ≡ false = cc in
          let first : w.first_bytes.result.now ≡ front_of buf = cc in
          let none = rw first at (rw w.in-Ok-Partial.field-0-is at w.in-Ok-Partial.ensures.partial) in
          rw w.at_end-is (refl, at-end buf after _ _ _ (λ (bytes : List ℕ). IsFault bytes BadMessage) c.loop.invariant.unread c.in_ok-fill_to.ensures.unread short end (no-message buf live (no-head buf (min (length buf) HEAD_LIMIT) (omega arith) none)))
      | else-not-is_blank w ↦
          let ended : is_ended buf ≡ true = cc in
          rw w.at_end-is (at-end buf after _ _ _ (λ (bytes : List ℕ). is_ended bytes ≡ true) c.loop.invariant.unread c.in_ok-fill_to.ensures.unread short end ended)
    ]

-- A stream that is served.
use Rattle.portal_http.proofs.Names.{Seen, ◌≡◌, ◌⊎◌, inl, inr, true, false, ◌<◌, ◌+◌, ℕ, List, [], ◌∷◌, ◌++◌, Option, Some, None, length, map, refl, sym, ap, ◌∙◌, subst, arith, length-append, append_assoc, IfSome, append-nil, map-append, Appends, Keeps, Appends-nil, Appends-trans, Refusal, Memory, Firm, Reply, Counts, IsReplied, KeepsBook, counted_reply, counted_replies, AreNoFaults, AreNoFaultsButLast, IsMade, IsMadeInRun, MayLeave, before_fault, IsUnstopped, RunsSoundly, Steps, firm_step, Heard, is_fault_reply, refused, runs-covered, kept-as, kept-still, kept-then, leave-as, leave-still, leave-then, fault-front, made-before, made-last, none-at_all, none-before, none-last, plain-step, each-own, RunsSoundly-push, counted-push, sound-runs-are-runs, Message, Began, IsNext, heard_of, replies_bytes, reply_bytes, AreBehind, AreFirst, IsCut, IsFrontRun, IsRead, IsTail, IsWritten, MayLeaveServed, Served, Serving, whole_text, StreamEnd, ints, nat_tests}
use Rattle.std.proofs.lemmas.Grind.{flat_map-append}
use Rattle.trust_desk.specs.Isolation.{IsOwn}
use Rattle.trust_desk.specs.NeverBelowZero.{CoveredRun}
use Rattle.portal_messages.specs.declared.input.Next.TheVariants as nexts
use Rattle.portal_messages.specs.Messages.{AreMessages, MESSAGE_LIMIT, is_framing}
use Rattle.portal_messages.specs.Messages as messages
use Rattle.portal_messages.proofs.Readings.{begins-push}
use Rattle.portal_http.specs.declared.stream.StreamEnd.TheVariants as ends
use Rattle.portal_http.proofs.Fronts.{WroteFront, cut-behind, last-push}

-- What was read.

began-nil : (a b : Option (List ℕ)) → Keeps a b → Began a [] b
began-nil a b k = grind (arith, ints, nat_tests)

began-push : (a b c : Option (List ℕ)) (ms : List Message) (m : Message) → Began a ms b → IsNext b c (nexts.Message m) → Began a (ms ++ m ∷ []) c
began-push a b c ms m x y = grind (arith, ints, nat_tests, begins-push)

began-some : (a b : Option (List ℕ)) (ms : List Message) → Began a ms b → IfSome a (λ bytes. AreFirst bytes ms)
began-some a b ms x = grind (arith, ints, nat_tests)

read-ended : (a b c : Option (List ℕ)) (ms : List Message) → length ms < MESSAGE_LIMIT → Began a ms b → IsNext b c nexts.Ended → IfSome a (λ bytes. AreMessages bytes ms messages.Ended)
read-ended a b c ms lt x y = grind (arith, ints, nat_tests)

read-fault : (a b c : Option (List ℕ)) (ms : List Message) (r : Refusal) → length ms < MESSAGE_LIMIT → Began a ms b → IsNext b c (nexts.Framing r) → IfSome a (λ bytes. IsRead ends.BadFraming bytes ms (Some r))
read-fault a b c ms r lt x y = grind (arith, ints, nat_tests)

read-limit : (a b : Option (List ℕ)) (ms : List Message) → length ms ≡ MESSAGE_LIMIT → Began a ms b → IfSome a (λ bytes. AreMessages bytes ms messages.Limit)
read-limit a b ms e x = grind (arith, ints, nat_tests)

fault-behind : (a b c : Option (List ℕ)) (ms : List Message) (r : Refusal) → length ms < MESSAGE_LIMIT → Began a ms b → IsNext b c (nexts.Framing r) → IfSome a (λ bytes. AreBehind bytes ms (Some r))
fault-behind a b c ms r lt x y = grind (arith, ints, nat_tests)

memory-behind : (a b : Option (List ℕ)) (ms : List Message) → Began a ms b → IfSome a (λ bytes. AreBehind bytes ms (Some Memory))
memory-behind a b ms x = grind (arith, ints, nat_tests)

-- What was written.

flat-push : (rs : List Reply) (r : Reply) → replies_bytes (rs ++ r ∷ []) ≡ replies_bytes rs ++ reply_bytes r
flat-push rs r = flat_map-append reply_bytes rs (r ∷ []) ∙ ap (λ (t : List ℕ). replies_bytes rs ++ t) (append-nil (reply_bytes r))

-- The replies before a fault.

-- they are those of a run of the first messages, also of more messages
front-more : (day : ℕ) (firm : Firm) (ms : List Message) (m : Message) (rs : List Reply) → IsFrontRun day firm ms rs → IsFrontRun day firm (ms ++ m ∷ []) rs
front-more day firm ms m rs is = record { front = is.front; rest = is.rest ++ m ∷ []; parts = sym (append_assoc is.front is.rest (m ∷ [])) ∙ ap (λ (l : List Message). l ++ m ∷ []) is.parts; mid = is.mid; run = is.run }

front-whole : (day : ℕ) (firm mid : Firm) (ms rest : List Message) (rs : List Reply) → RunsSoundly day firm (map heard_of ms) rs mid → IsFrontRun day firm (ms ++ rest) rs
front-whole day firm mid ms rest rs run = record { front = ms; rest = rest; parts = refl; mid = mid; run = run }

keeps-self : (a : Option (List ℕ)) → Keeps a a
keeps-self a = grind (arith, ints, nat_tests)

module _ (day : ℕ) (stream before : Option (List ℕ)) (old : Seen) where
  -- what is being served, and what was served
  abbrev Serves : ℕ → Option (List ℕ) → Option (List ℕ) → Seen → Type 0
  Serves n unread after new = Serving day stream before old n unread after new

  abbrev WasServed : StreamEnd → Option (List ℕ) → Seen → Type 0
  WasServed end after new = Served day stream before old end after new

  pub serving-none : (unread : Option (List ℕ)) → Keeps stream unread → Serves 0 unread before old
  serving-none unread k = record {
    messages = [];
    replies = [];
    many = refl;
    paired = refl;
    read = began-nil stream unread k;
    written = Appends-nil before;
    run = λ clean stands. refl;
    kept = kept-still old;
    crash = λ sure clean stands but_last. leave-still old.firm old;
    shut = λ sure clean stands. front-whole day old.firm old.firm [] [] [] refl;
  }

  pub serving-nothing : Serves 0 stream before old
  serving-nothing = serving-none stream (keeps-self stream)

  -- one more message, and its reply
  module _ (n : ℕ) (unread after : Option (List ℕ)) (mid : Seen) (s : Serves n unread after mid) (left later : Option (List ℕ)) (next : Seen) (m : Message) (reply : Reply)
      (comes : IsNext unread left (nexts.Message m)) (answered : IsReplied day (heard_of m) reply mid next) where
    abbrev messages-more : List Message
    messages-more = s.messages ++ m ∷ []

    abbrev replies-more : List Reply
    replies-more = s.replies ++ reply ∷ []

    paired-more : length replies-more ≡ length messages-more
    paired-more = length-append s.replies (reply ∷ []) ∙ (ap (λ k. k + 1) s.paired ∙ sym (length-append s.messages (m ∷ [])))

    run-more : next.clean → old.stands → RunsSoundly day old.firm (map heard_of messages-more) replies-more next.firm
    run-more clean stands =
        let was = answered.kept.was_clean clean in
        let now = s.kept.still_stands was stands in
        subst (λ (hs : List Heard). RunsSoundly day old.firm hs replies-more next.firm) (sym (map-append heard_of s.messages (m ∷ [])))
        (RunsSoundly-push day old.firm mid.firm next.firm (map heard_of s.messages) (heard_of m) s.replies reply (s.run was stands) (answered.step clean now) (next.sound (answered.kept.still_stands clean now)))

    own-more : next.clean → old.stands → (k : ℕ) → IsUnstopped k (map heard_of messages-more) replies-more → IsOwn k day old.firm (map heard_of messages-more) replies-more next.firm
    own-more clean stands k fine = each-own k day old.firm (map heard_of messages-more) replies-more next.firm fine (sound-runs-are-runs day old.firm next.firm (map heard_of messages-more) replies-more (run-more clean stands))

    -- the store served before this message, where no reply before it is Store or Memory
    served-before : next.sure → old.clean → old.stands → AreNoFaults s.replies → mid.clean
    served-before sure clean stands plain = (s.crash (answered.kept.was_sure sure) clean stands (none-at_all s.replies plain)).serves clean plain

    -- and after it, where this one is neither
    served-after : next.sure → old.clean → old.stands → AreNoFaults s.replies → is_fault_reply reply ≡ false → next.clean
    served-after sure clean stands plain fine = grind (arith, ints, nat_tests, served-before)

    crash-more : next.sure → old.clean → old.stands → AreNoFaultsButLast replies-more → MayLeaveServed day old messages-more replies-more next
    crash-more known served standing but_last =
        let plain = none-before s.replies reply but_last in
        let so_far = s.crash (answered.kept.was_sure known) served standing (none-at_all s.replies plain) in
        let was = so_far.serves served plain in
        let stood = s.kept.still_stands was standing in
        let one = answered.crash known stood (λ asked. was) in
        let h = heard_of m in
        let hs = map heard_of s.messages in
        let last = λ (fine : AreNoFaults replies-more). none-last s.replies reply fine in
        let made = leave-as last (λ found is. is) (λ fine. plain-step day mid.firm next.firm h reply (last fine) (answered.step (one.serves was (last fine)) stood)) one in
        subst (λ (l : List Heard). MayLeave (AreNoFaults replies-more) (IsMadeInRun day old.firm l) old.firm next.firm old next) (sym (map-append heard_of s.messages (m ∷ [])))
        (leave-then (λ found is. made-before day old.firm found hs h is) (λ found is. made-last day old.firm mid.firm found hs h s.replies (s.run was standing) plain is) plain so_far made)

    shut-more : next.sure → old.clean → old.stands → IsFrontRun day old.firm messages-more (before_fault replies-more)
    shut-more sure clean stands =
        let was = λ (plain : AreNoFaults s.replies). served-before sure clean stands plain in
        fault-front (IsFrontRun day old.firm messages-more) s.replies reply (front-more day old.firm s.messages m (before_fault s.replies) (s.shut (answered.kept.was_sure sure) clean stands))
        (λ plain. front-whole day old.firm mid.firm s.messages (m ∷ []) s.replies (s.run (was plain) stands))
        (λ plain fine. subst (λ (l : List Message). IsFrontRun day old.firm l replies-more) (append-nil messages-more)
        (front-whole day old.firm next.firm messages-more [] replies-more (run-more (served-after sure clean stands plain fine) stands)))

    kept-more : KeepsBook (Counts (counted_replies replies-more)) old next
    kept-more = kept-as (λ sure stands. sym (counted-push s.replies reply old.refusals)) (kept-then s.kept answered.kept)

    read-more : Began stream messages-more left
    read-more = began-push stream unread left s.messages m s.read comes

    pub serving-more : Appends after later (reply_bytes reply) → Serves (n + 1) left later next
    serving-more wrote = record {
      messages = messages-more;
      replies = replies-more;
      many = length-append s.messages (m ∷ []) ∙ ap (λ k. k + 1) s.many;
      paired = paired-more;
      read = read-more;
      written = subst (λ (t : List ℕ). Appends before later t) (sym (flat-push s.replies reply)) (Appends-trans before after later (replies_bytes s.replies) (reply_bytes reply) s.written wrote);
      run = run-more;
      kept = kept-more;
      crash = crash-more;
      shut = shut-more;
    }

    -- a write failed in the reply
    pub served-write_fault : WroteFront after later (reply_bytes reply) → WasServed ends.WriteFault later next
    served-write_fault wrote =
        let all : replies_bytes s.replies ++ reply_bytes reply ≡ whole_text replies-more None = sym (append-nil (replies_bytes replies-more) ∙ flat-push s.replies reply) in
        record {
          messages = messages-more;
          replies = replies-more;
          tail = None;
          read = began-some stream left messages-more read-more;
          paired = paired-more;
          behind = tt;
          written = subst (λ (t : List ℕ × List ℕ). IsCut t.0 t.1 before later) (λ i. (all i, sym (last-push s.replies reply) i)) (cut-behind before after later (replies_bytes s.replies) (reply_bytes reply) s.written wrote);
          run = run-more;
          own = own-more;
          covered = λ clean stands. runs-covered day old.firm next.firm (map heard_of messages-more) replies-more (old.sound stands) (run-more clean stands);
          kept = kept-more;
          crash = crash-more;
          shut = shut-more;
          serves = λ sure clean stands plain. (crash-more sure clean stands (none-at_all replies-more plain)).serves clean plain;
        }

  module _ (n : ℕ) (unread after : Option (List ℕ)) (new : Seen) (s : Serves n unread after new) where
    own : new.clean → old.stands → (m : ℕ) → IsUnstopped m (map heard_of s.messages) s.replies → IsOwn m day old.firm (map heard_of s.messages) s.replies new.firm
    own clean stands m fine = each-own m day old.firm (map heard_of s.messages) s.replies new.firm fine (sound-runs-are-runs day old.firm new.firm (map heard_of s.messages) s.replies (s.run clean stands))

    covered : new.clean → old.stands → CoveredRun day old.firm (map heard_of s.messages) s.replies new.firm
    covered clean stands = runs-covered day old.firm new.firm (map heard_of s.messages) s.replies (old.sound stands) (s.run clean stands)

    serves : new.sure → old.clean → old.stands → AreNoFaults s.replies → new.clean
    serves sure clean stands plain = (s.crash sure clean stands (none-at_all s.replies plain)).serves clean plain

    no-tail : Appends before after (whole_text s.replies None)
    no-tail = subst (λ (t : List ℕ). Appends before after t) (sym (append-nil (replies_bytes s.replies))) s.written

    below : n < MESSAGE_LIMIT → length s.messages < MESSAGE_LIMIT
    below lt = let e = s.many in omega arith

    with-tail : (later : Option (List ℕ)) (r : Refusal) (reply : Reply) → reply ≡ refused r → Appends after later (reply_bytes reply) → Appends before later (whole_text s.replies (Some r))
    with-tail later r reply is wrote = Appends-trans before after later (replies_bytes s.replies) (reply_bytes (refused r)) s.written (subst (λ (x : Reply). Appends after later (reply_bytes x)) is wrote)

    -- it was served, by how it ended
    ends-as : (end : StreamEnd) (later : Option (List ℕ)) (tail : Option Refusal) → IfSome stream (λ bytes. IsRead end bytes s.messages tail) → IsTail end tail → IsWritten end s.replies tail before later → WasServed end later new
    ends-as end later tail read behind written =
        record { messages = s.messages; replies = s.replies; tail = tail; read = read; paired = s.paired; behind = behind; written = written; run = s.run; own = own; covered = covered; kept = s.kept; crash = s.crash; shut = s.shut; serves = serves }

    pub served-ended : (left : Option (List ℕ)) → n < MESSAGE_LIMIT → IsNext unread left nexts.Ended → WasServed ends.Ended after new
    served-ended left lt y = ends-as ends.Ended after None (read-ended stream unread left s.messages (below lt) s.read y) refl no-tail

    pub served-limit : n ≡ MESSAGE_LIMIT → WasServed ends.Limit after new
    served-limit e = ends-as ends.Limit after None (read-limit stream unread s.messages (s.many ∙ e) s.read) refl no-tail

    pub served-read_fault : WasServed ends.ReadFault after new
    served-read_fault = ends-as ends.ReadFault after None (began-some stream unread s.messages s.read) refl no-tail

    pub served-framing : (left later : Option (List ℕ)) (r : Refusal) (reply : Reply) → n < MESSAGE_LIMIT → IsNext unread left (nexts.Framing r) → is_framing r ≡ true → reply ≡ refused r → Appends after later (reply_bytes reply)
        → WasServed ends.BadFraming later new
    served-framing left later r reply lt y framed is wrote =
        ends-as ends.BadFraming later (Some r) (read-fault stream unread left s.messages r (below lt) s.read y) (r, framed, refl) (with-tail later r reply is wrote)

    pub served-no_memory : (later : Option (List ℕ)) (reply : Reply) → reply ≡ refused Memory → Appends after later (reply_bytes reply) → WasServed ends.NoMemory later new
    served-no_memory later reply is wrote = ends-as ends.NoMemory later (Some Memory) (began-some stream unread s.messages s.read) refl (with-tail later Memory reply is wrote)

    -- a write failed in the refusal behind the replies
    tail-fault : (later : Option (List ℕ)) (r : Refusal) (reply : Reply) → IfSome stream (λ bytes. AreBehind bytes s.messages (Some r)) → (is_framing r ≡ true) ⊎ (r ≡ Memory) → reply ≡ refused r → WroteFront after later (reply_bytes reply) → WasServed ends.WriteFault later new
    tail-fault later r reply why one is wrote =
        ends-as ends.WriteFault later (Some r) why one
        (cut-behind before after later (replies_bytes s.replies) (reply_bytes (refused r)) s.written (subst (λ (x : Reply). WroteFront after later (reply_bytes x)) is wrote))

    pub served-framing_fault : (left later : Option (List ℕ)) (r : Refusal) (reply : Reply) → n < MESSAGE_LIMIT → IsNext unread left (nexts.Framing r) → is_framing r ≡ true → reply ≡ refused r → WroteFront after later (reply_bytes reply) → WasServed ends.WriteFault later new
    served-framing_fault left later r reply lt y framed is wrote = tail-fault later r reply (fault-behind stream unread left s.messages r (below lt) s.read y) (inl framed) is wrote

    pub served-memory_fault : (later : Option (List ℕ)) (reply : Reply) → reply ≡ refused Memory → WroteFront after later (reply_bytes reply) → WasServed ends.WriteFault later new
    served-memory_fault later reply is wrote = tail-fault later Memory reply (memory-behind stream unread s.messages s.read) (inr refl) is wrote

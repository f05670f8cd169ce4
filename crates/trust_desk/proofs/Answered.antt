-- How a request is answered, by what the calls of the book were.
use Rattle.trust_desk.proofs.Names.{Seen, ◌≡◌, ◌⊎◌, inl, inr, ◌∙◌, ℕ, true, false, Ok, Err, Result, refl, ap, sym, subst, IfOk, cond-false, is_fault, refused_by, Refusal, StoreFault, Ask, Asked, Caller, refusal, IsDecided, MatterChange, Firm, FirmChange, of, after, acted, after_change, after_edit, IsRead, IsWrite, Reply, IsAnswered, counted_end, counted_reply, is_store, IsMade, KindIsMade, is_fault_end, Steps, after_ask, after_asked, firm_step, kind_step, Heard, Kind, OfActs, OfMatter, OnlyShown, OnlyTold, asked_on, kind_of, is_fault_reply, refused, replied, reply_for, reply_of, json_reply, text_reply, List, arith, ints, nat_tests}
use Rattle.trust_desk.specs.Acts.{acts_for, dossier_of, reads_on}
use Rattle.trust_desk.proofs.Calls.{uncounted, kept-as, kept-then, read-kept, write-kept}
use Rattle.trust_desk.proofs.Crashes.{leave-as, leave-failed, read-leaves, written-leaves}
use Rattle.trust_desk.proofs.Refused.{IsTold, fault-counted, fault-told}
use Rattle.trust_desk.proofs.Steps.{nothing-done, steps-fault, steps-plain}

-- Replies.

pub end-counted : (result : Result Reply Refusal) → IfOk result (λ reply. is_fault_reply reply ≡ false) → (n : ℕ) → counted_end result n ≡ counted_reply (reply_for result) n
end-counted result plain n = grind (arith, ints, nat_tests, uncounted)

pub end-fault : (result : Result Reply Refusal) → is_fault_reply (reply_for result) ≡ false → is_fault_end result ≡ false
end-fault result fine = grind (arith, ints, nat_tests)

-- a refusal is the step's or a fault, and nothing changes
pub refused-steps : (day : ℕ) (firm new : Firm) (h : Heard) (r : Refusal) → (is_fault r ≡ true) ⊎ ((refused r ≡ (firm_step day firm h).reply) × (firm ≡ (firm_step day firm h).firm)) → new ≡ firm → Steps day firm h (refused r) new
refused-steps day firm new h r why same =
    grind (arith, ints, nat_tests, is_fault, refused, steps-fault, nothing-done, steps-plain)

-- a fault of a read is answered, and nothing changes
pub unread-answered : {T : Type 0} {old new : Seen} (day : ℕ) (h : Heard) (fault : StoreFault)
    → IsRead {T = T} (Err fault) old new
    → IsAnswered day h (Err (refused_by fault)) old new
unread-answered {old} {new} day h fault read =
    grind (arith, ints, nat_tests, refused-steps, fault-told, kept-as, fault-counted, read-kept, leave-failed, read-leaves)

-- a text of what was read is told, or why it is refused, and nothing changes
pub told-answered : {T : Type 0} {old new : Seen} {read : T} (day : ℕ) (h : Heard) (text : ℕ → Firm → Result (List ℕ) Refusal) (result : Result Reply Refusal)
    → kind_of h ≡ OnlyTold text → IfOk result (λ reply. is_fault_reply reply ≡ false) → is_fault_end result ≡ false
    → IsRead (Ok read) old new
    → (new.clean → old.stands → reply_for result ≡ text_reply (text day old.firm))
    → IsAnswered day h result old new
told-answered {old} {new} day h text result kind plain fine read tells =
    grind (arith, ints, nat_tests, steps-plain, kept-as, read-kept, leave-as, read-leaves)

-- and so is an answer in JSON
pub shown-answered : {T : Type 0} {old new : Seen} {read : T} (day : ℕ) (h : Heard) (json : ℕ → Firm → Result (List ℕ) Refusal) (result : Result Reply Refusal)
    → kind_of h ≡ OnlyShown json → IfOk result (λ reply. is_fault_reply reply ≡ false) → is_fault_end result ≡ false
    → IsRead (Ok read) old new
    → (new.clean → old.stands → reply_for result ≡ json_reply (json day old.firm))
    → IsAnswered day h result old new
shown-answered {old} {new} day h json result kind plain fine read tells =
    grind (arith, ints, nat_tests, steps-plain, kept-as, read-kept, leave-as, read-leaves)

-- An ask of a matter.

-- what was decided makes its step
pub change-makes : (firm : Firm) (m : ℕ) (a : Asked) (c : MatterChange) → IsDecided (of m firm) a c → after_change m c firm ≡ after_ask m a firm
change-makes firm m a c d =
    (λ i. acted m (d.edit i) (d.act i) (after_edit m (d.edit i) (d.last i) firm))
    ∙ sym (ap (λ o. after_asked o m a firm) d.accepted)

module _ (day : ℕ) (h : Heard) (m : ℕ) (caller : Caller) (ask : Ask) (kind : kind_of h ≡ OfMatter m caller ask) where
  abbrev a : Asked
  a = asked_on day caller ask

  leaves_it : (f : Firm) → after_ask m a f ≡ (firm_step day f h).firm
  leaves_it f = sym (ap (λ (k : Kind). (kind_step day f k).firm) kind)

  says_it : (f : Firm) → reply_of m (of m f) a ≡ (firm_step day f h).reply
  says_it f = sym (ap (λ (k : Kind). (kind_step day f k).reply) kind)

  makes_it : (f found : Firm) → found ≡ after_ask m a f → IsMade day f h found
  makes_it f found made = subst (λ (k : Kind). KindIsMade day f k found) (sym kind) made

  refuses : (f : Firm) (r : Refusal) → IsTold (refusal (of m f) a) r
      → (is_fault r ≡ true) ⊎ ((refused r ≡ (firm_step day f h).reply) × (f ≡ (firm_step day f h).firm))
  refuses f r tells = grind (arith, ints, nat_tests, replied, of, a, says_it, after_asked, leaves_it)

  module _ {old new : Seen} where
    -- it is refused, by what was read
    pub ask-refused : {T : Type 0} {read : T} (r : Refusal) → IsRead (Ok read) old new
        → (new.clean → old.stands → IsTold (refusal (of m old.firm) a) r)
        → IsAnswered day h (Err r) old new
    ask-refused r read tells = record {
      step = λ served stood. refused-steps day old.firm new.firm h r (refuses old.firm r (tells served stood)) (read.same served stood);
      plain = tt;
      kept = kept-as (λ is stood.
          let served = read.serves is in
          sym (cond-false (is_store r) _ _ (tells served (stood (read.was_clean served))).told)) (read-kept read);
      crash = λ is stood before.
          leave-as (λ plain. refl) (λ f made. made)
          (λ plain. elim (refuses old.firm r (tells (read.serves is) stood)) [ inl fault ↦ absurd (cc) | inr same ↦ sym same.1 ])
          (read-leaves read is stood);
    }

    -- its change is written
    pub ask-written : {T U : Type 0} {read : T} {done : U} {change : FirmChange} {now : Seen} (reply : Reply) → is_fault_reply reply ≡ false
        → IsRead (Ok read) old now → IsWrite change (Ok done) now new
        → (now.clean → old.stands → (reply ≡ reply_of m (of m old.firm) a) × (after change old.firm ≡ after_ask m a old.firm))
        → IsAnswered day h (Ok reply) old new
    ask-written {change} reply plain read write tells = record {
      step = λ served stood.
          let was = write.was_clean served in
          let is = tells was stood in
          steps-plain day old.firm new.firm h reply plain (is.0 ∙ says_it old.firm)
          (write.ok served (read.still_stands was stood) ∙ (ap (after change) (read.same was stood) ∙ (is.1 ∙ leaves_it old.firm)));
      plain = plain;
      kept = kept-then (read-kept read) (write-kept write);
      crash = λ is stood before.
          leave-as (λ fine. refl) (makes_it old.firm) (λ fine. sym (leaves_it old.firm)) (written-leaves read write (λ served. (tells served stood).1) is stood);
    }

    -- or the store or memory stops that
    pub ask-unwritten : {T U : Type 0} {read : T} {change : FirmChange} {now : Seen} (fault : StoreFault)
        → IsRead (Ok read) old now → IsWrite {T = U} change (Err fault) now new
        → (now.clean → old.stands → after change old.firm ≡ after_ask m a old.firm)
        → IsAnswered day h (Err (refused_by fault)) old new
    ask-unwritten fault read write makes =
        grind (arith, ints, nat_tests, refused-steps, fault-told, kept-as, fault-counted, kept-then, read-kept, write-kept, leave-failed, makes_it, written-leaves)

-- A request for the acts of a matter.

module _ (day : ℕ) (h : Heard) (m : ℕ) (caller : Caller) (kind : kind_of h ≡ OfActs m caller) where
  acts-leave : (f : Firm) → f ≡ (firm_step day f h).firm
  acts-leave f = sym (ap (λ (k : Kind). (kind_step day f k).firm) kind)

  acts-say : (f : Firm) → json_reply (acts_for caller day (dossier_of m f)) ≡ (firm_step day f h).reply
  acts-say f = sym (ap (λ (k : Kind). (kind_step day f k).reply) kind)

  acts-make : (f found : Firm) → found ≡ f → IsMade day f h found
  acts-make f found made = subst (λ (k : Kind). KindIsMade day f k found) (sym kind) made

  acts-refuse : (f : Firm) (r : Refusal) → IsTold (refusal (of m f) (reads_on day caller)) r
      → (is_fault r ≡ true) ⊎ ((refused r ≡ (firm_step day f h).reply) × (f ≡ (firm_step day f h).firm))
  acts-refuse f r tells = grind (arith, ints, nat_tests, acts_for, of, acts-say, acts-leave)

  module _ {old new : Seen} where
    -- it is refused, as the matter is, or for want of memory
    pub acts-refused : {T : Type 0} {read : T} (r : Refusal) → IsRead (Ok read) old new
        → (new.clean → old.stands → IsTold (refusal (of m old.firm) (reads_on day caller)) r)
        → IsAnswered day h (Err r) old new
    acts-refused r read tells = record {
      step = λ served stood. refused-steps day old.firm new.firm h r (acts-refuse old.firm r (tells served stood)) (read.same served stood);
      plain = tt;
      kept = kept-as (λ is stood.
          let served = read.serves is in
          sym (cond-false (is_store r) _ _ (tells served (stood (read.was_clean served))).told)) (read-kept read);
      crash = λ is stood before.
          leave-as (λ plain. refl) (λ f made. made)
          (λ plain. elim (acts-refuse old.firm r (tells (read.serves is) stood)) [ inl fault ↦ absurd (cc) | inr same ↦ sym same.1 ])
          (read-leaves read is stood);
    }

    -- they are told, and nothing changes
    pub acts-told : {T : Type 0} {read : T} (reply : Reply) → is_fault_reply reply ≡ false → IsRead (Ok read) old new
        → (new.clean → old.stands → reply ≡ json_reply (acts_for caller day (dossier_of m old.firm)))
        → IsAnswered day h (Ok reply) old new
    acts-told reply plain read tells =
        grind (arith, ints, nat_tests, steps-plain, kept-as, read-kept, leave-as, read-leaves, acts-say, acts-leave, acts-make)

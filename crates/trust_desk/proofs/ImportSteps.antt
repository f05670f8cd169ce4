-- The course of an import is its step.
use Rattle.trust_desk.proofs.Names.{Counts, Seen, ◌≡◌, ◌⊎◌, ℕ, Bool, true, false, List, [], ◌∷◌, Option, Some, None, Ok, Err, refl, sym, ap, ◌∙◌, subst, append-nil, cond-false, nat_lt, is_none, unwrap_or, false≢true, Refusal, is_fault, Caller, first, Firm, Item, items, LacksHeader, ImportEnd, ImportStop, Json, is_store, counted_refusal, refused, after_items, counts_after, none_counted, AreFirst, AreFront, Imports, IsAfterFirst, IsStop, IsMade, IsOfItems, KindIsMade, KindStopped, MayLeave, IsAnswered, KeepsBook, is_stopped, IsAfterFront, import_refusal, items_unless, imported, counts_text, import_reply, is_not_of_firm, firm_step, kind_step, Heard, Kind, OfItems, kind_of, arith, ints, nat_tests}
use Rattle.std.specs.Prelude.{length}
use Rattle.trust_base.specs.declared.refusal.Field.TheVariants as field
use Rattle.trust_base.specs.declared.refusal.Rule.TheVariants as rule
use Rattle.trust_base.specs.declared.refusal.Refusal.TheVariants as refusal
use Rattle.trust_base.specs.declared.limits.TheConstants.{MAX_FILE_BYTES}
use Rattle.trust_desk.specs.declared.importing.ImportStop.TheVariants as stop
use Rattle.trust_desk.proofs.Answered.{refused-steps}
use Rattle.trust_desk.proofs.Calls.{kept-as, kept-still}
use Rattle.trust_desk.proofs.Crashes.{leave-as, leave-failed, leave-still}
use Rattle.trust_desk.proofs.MadeRows.{front-of-items}
use Rattle.trust_desk.proofs.Steps.{steps-fault, steps-plain}

-- What an import is refused for is no fault.

abbrev fault_in : Option Refusal → Bool
fault_in None = false
fault_in (Some r) = is_fault r

no-fault : (a b c : Bool) → fault_in (first ((a, refusal.TooLarge) ∷ (b, refusal.BadField field.Header) ∷ (c, refusal.NotAllowed rule.Firm) ∷ [])) ≡ false
no-fault a b c = grind (arith, ints, nat_tests)

refusal-plain : (caller : Caller) (bytes : List ℕ) (r : Refusal) → import_refusal caller bytes ≡ Some r → is_fault r ≡ false
refusal-plain caller bytes r is = ap fault_in (sym is) ∙ no-fault (nat_lt MAX_FILE_BYTES (length bytes)) (is_none (items bytes)) (is_not_of_firm caller)

store-faults : (r : Refusal) → is_fault r ≡ false → is_store r ≡ false
store-faults r plain = grind (arith, ints, nat_tests)

passed : (a b c : Bool) → first ((a, refusal.TooLarge) ∷ (b, refusal.BadField field.Header) ∷ (c, refusal.NotAllowed rule.Firm) ∷ []) ≡ None → b ≡ false
passed a b c fit = grind (arith, ints, nat_tests)

-- What was read.

first-front : (o : Option (List Item)) (front : List Item) (end : ImportStop) → AreFirst (Some o) front end → AreFront (Some o) front
first-front o front end first = grind (arith, ints, nat_tests)

-- all of it, where the import is done
first-all : (o : Option (List Item)) (front : List Item) (end : ImportStop) → end ≡ stop.Done → AreFirst (Some o) front end → front ≡ unwrap_or o []
first-all o front end done first = grind (arith, ints, nat_tests, append-nil)

-- How an import is answered.

module _ (day : ℕ) (h : Heard) (caller : Caller) (bytes : List ℕ) (kind : kind_of h ≡ OfItems (import_refusal caller bytes) (imported caller bytes)) where
  says_it : (f : Firm) → import_reply (import_refusal caller bytes) (counts_after day f (imported caller bytes) none_counted) ≡ (firm_step day f h).reply
  says_it f = sym (ap (λ (k : Kind). (kind_step day f k).reply) kind)

  leaves_it : (f : Firm) → after_items day f (imported caller bytes) ≡ (firm_step day f h).firm
  leaves_it f = sym (ap (λ (k : Kind). (kind_step day f k).firm) kind)

  module _ where
    -- it is refused before anything is applied
    pub import-unfit : (b : Seen) (r : Refusal) → (r ≡ refusal.Memory) ⊎ (import_refusal caller bytes ≡ Some r)
        → IsAnswered day h (Err r) b b
    import-unfit b r checked =
        grind (arith, ints, nat_tests, refused-steps, kept-as, cond-false, kept-still, leave-as, leave-still, refused, none_counted, says_it, after_items, leaves_it, store-faults, refusal-plain)

  module _ (fit : import_refusal caller bytes ≡ None) where
    front_of : (f found : Firm) → IsAfterFirst day f (Some (items bytes)) found → (rest : List Item) × IsAfterFront day f (imported caller bytes) rest found
    front_of f found is = grind (arith, ints, nat_tests, items_unless, front-of-items, items)

    makes_it : (f found : Firm) → IsAfterFirst day f (Some (items bytes)) found → IsMade day f h found
    makes_it f found is = subst (λ (k : Kind). KindIsMade day f k found) (sym kind) (front_of f found is)

    of_items : IsOfItems (kind_of h)
    of_items = subst IsOfItems (sym kind) tt

    module _ {old new : Seen} (e : ImportEnd)
        (front : new.clean → old.stands → Imports day old.firm (Some (items bytes)) e new.firm)
        (crash : new.sure → old.clean → old.stands → MayLeave (is_stopped e.end ≡ false) (IsAfterFirst day old.firm (Some (items bytes))) old.firm new.firm old new) where
      -- it was stopped after some first items, or there is no memory to tell of all
      pub import-stopped : (r : Refusal) → is_fault r ≡ true → KeepsBook (Counts (counted_refusal r)) old new
          → IsAnswered day h (Err r) old new
      import-stopped r fault kept = record {
        step = λ served stood.
            let is = front served stood in
            steps-fault day old.firm new.firm h r fault (subst (λ (k : Kind). KindStopped day old.firm k new.firm) (sym kind)
            (front_of old.firm new.firm (record { front = is.front; first = first-front (items bytes) is.front e.end is.first; leaves = is.leaves })));
        plain = tt;
        kept = kept;
        crash = λ is stood before. leave-failed (λ fine. false≢true (sym fine ∙ fault)) (makes_it old.firm) (crash is (before of_items) stood);
      }

      -- all items were applied, and it is told
      pub import-told : (text : List ℕ) → e.end ≡ stop.Done → text ≡ counts_text e.reply → KeepsBook (Counts (λ n. n)) old new
          → IsAnswered day h (Ok (record { status = 200; body = Json text })) old new
      import-told text done says kept = record {
        step = λ served stood.
            let is = front served stood in
            steps-plain day old.firm new.firm h (record { status = 200; body = Json text }) refl
            ((λ i. record { status = 200; body = Json ((says ∙ ap counts_text (is.counts ∙ ap (λ its. counts_after day old.firm its none_counted) (all is))) i) })
            ∙ (ap (λ o. import_reply o (counts_after day old.firm (imported caller bytes) none_counted)) (sym fit) ∙ says_it old.firm))
            (left is);
        plain = refl;
        kept = kept;
        crash = λ is stood before.
            let made = crash is (before of_items) stood in
            leave-as (λ fine. ap is_stopped done) (makes_it old.firm)
            (λ fine. sym (left (front (made.serves (before of_items) (ap is_stopped done)) stood))) made;
      }
        where
          all : (is : Imports day old.firm (Some (items bytes)) e new.firm) → is.front ≡ imported caller bytes
          all is = first-all (items bytes) is.front e.end done is.first ∙ sym (ap (λ o. items_unless o bytes) fit)

          left : (is : Imports day old.firm (Some (items bytes)) e new.firm) → new.firm ≡ (firm_step day old.firm h).firm
          left is = is.leaves ∙ (ap (after_items day old.firm) (all is) ∙ leaves_it old.firm)

-- what ends it is a fault, where the header is good
pub stopped-by : (caller : Caller) (bytes : List ℕ) (end : ImportStop) (r : Refusal) → import_refusal caller bytes ≡ None → end ≡ stop.Refused r → IsStop end → (end ≡ stop.Refused (refusal.BadField field.Header) → LacksHeader (Some (items bytes))) → is_fault r ≡ true
stopped-by caller bytes end r fit is stops lacks =
    grind (arith, ints, nat_tests, is_fault, items, passed, nat_lt, length, is_none, is_not_of_firm)

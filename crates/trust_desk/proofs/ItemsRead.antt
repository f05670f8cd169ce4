-- A statement that is read and applied item by item.
use Rattle.trust_desk.proofs.Names.{Seen, beside, ◌≡◌, ◌∙◌, ◌+◌, ◌≤◌, ◌++◌, ◌∷◌, [], ℕ, false, List, Option, Some, None, Ok, Err, inl, inr, refl, sym, ap, append_assoc, arith, list_any, ⊤, false≢true, refused_by, StoreFault, Firm, FirmLine, of, FirmSound, Gives, LacksHeader, Item, ImportReply, Counted, ImportEnd, ImportStop, AreBelow, AreFirst, AreFront, AreRead, Imports, IsAfterFirst, IsAppliedBeside, IsStop, IsUnnamed, KeepsAllUnnamed, KeepsBeside, MayLeave, StandsBeside, Told, after_item, after_items, count_item, counted_of, counts_after, is_stopped, names_item, none_counted, ints, nat_tests, IsImported, counted_stop, stop_at}
use Rattle.trust_base.specs.declared.refusal.Field.TheVariants as field
use Rattle.trust_base.specs.declared.refusal.Refusal.TheVariants as refusal
use Rattle.statement_csv.specs.Limits.{IsTooLong, IsWithin}
use Rattle.statement_csv.specs.declared.item.ReadFault.{ReadFault}
use Rattle.statement_csv.specs.declared.item.ReadFault.TheVariants as reading
use Rattle.trust_desk.specs.declared.importing.ImportStop.TheVariants as stop
use Rattle.trust_desk.proofs.AlwaysCovered.{always-sound}
use Rattle.trust_desk.proofs.Beside.{kept-alone}
use Rattle.trust_desk.proofs.Calls.{kept-as, kept-still, kept-then}
use Rattle.trust_desk.proofs.Crashes.{leave-as, leave-failed, leave-still, leave-then}
use Rattle.trust_desk.proofs.OwnItems.{none-front, of-after_items, unnamed-items}
use Rattle.trust_desk.proofs.Refused.{fault-counted, fault-told}

-- What was read.

pub read-first : (told left more : Told) (front : List Item) (end : ImportStop) → AreRead told front left → (end ≡ stop.Done → Gives left more None) → AreFirst told front end
read-first told left more front end read done = grind (arith, ints, nat_tests)

pub read-lacks : (told left : Told) (front : List Item) → AreRead told front left → LacksHeader left → LacksHeader told
read-lacks told left front read lacks = grind (arith, ints, nat_tests)

pub read-more : (told left more : Told) (front : List Item) (it : Item) → AreRead told front left → Gives left more (Some it) → AreRead told (front ++ it ∷ []) more
read-more told left more front it read gives = grind (arith, ints, nat_tests, append_assoc)

read-front : (told left : Told) (front : List Item) → AreRead told front left → AreFront told front
read-front told left front read = grind (arith, ints, nat_tests)

read-none : (told : Told) → AreRead told [] told
read-none told = grind (arith, ints, nat_tests)

-- What was applied.

pub after_items-push : (day : ℕ) (firm : Firm) (front : List Item) (it : Item) → after_items day firm (front ++ it ∷ []) ≡ after_item day (after_items day firm front) it
after_items-push day firm [] it = refl
after_items-push day firm (x ∷ front) it = after_items-push day (after_item day firm x) front it

pub counts_after-push : (day : ℕ) (firm : Firm) (front : List Item) (it : Item) (c : ImportReply) → counts_after day firm (front ++ it ∷ []) c ≡ count_item it (counted_of day (after_items day firm front) it) (counts_after day firm front c)
counts_after-push day firm [] it c = refl
counts_after-push day firm (x ∷ front) it c = counts_after-push day (after_item day firm x) front it (count_item x (counted_of day firm x) c)

-- The counts have room.

pub below-more : (n m : ℕ) (it : Item) (kind : Counted) (before after : ImportReply) → AreBelow n before → after ≡ count_item it kind before → n + 1 ≤ m → AreBelow m after
below-more n m it kind before after below is more = grind (arith, ints, nat_tests, count_item)

-- What matters see of it.

front-unnamed : (m : ℕ) (told : Told) (front : List Item) (end : ImportStop) → AreFirst told front end → IsUnnamed m told → list_any (names_item m) front ≡ false
front-unnamed m None front end first none = absurd none
front-unnamed m (Some None) front end first none = ap (list_any (names_item m)) first.0
front-unnamed m (Some (Some items)) front end first none = none-front m front first.0 (ap (list_any (names_item m)) first.1 ∙ none)

pub imports-others : (day : ℕ) (firm new : Firm) (told : Told) (result : ImportEnd) → Imports day firm told result new → KeepsAllUnnamed told firm new
imports-others day firm new told result is m none = ap (of m) is.leaves ∙ unnamed-items m day firm is.front (front-unnamed m told is.front result.end is.first none)

-- The course of an import.

-- the items so far were read, applied and counted, and none was stopped
pub record IsSoFar (day : ℕ) (told : Told) (old : Seen) (turn : ℕ) (left : Told) (counts : ImportReply)
    (now : Seen) (own : Option (List FirmLine)) : Type 0 where
  pub front : List Item
  pub read : AreRead told front left
  pub step : now.clean → old.stands
      → (counts ≡ counts_after day old.firm front none_counted) × (now.firm ≡ after_items day old.firm front)
  pub room : AreBelow (turn + 1) counts
  pub kept : KeepsBeside (λ n. n) old None now own
  pub crash : now.sure → old.clean → old.stands
      → MayLeave ⊤ (IsAfterFirst day old.firm told) old.firm now.firm old now

not-header : (f : StoreFault) → stop.Refused (refused_by f) ≡ stop.Refused (refusal.BadField field.Header) → ⊥
not-header f is = grind (arith, ints, nat_tests)

module _ {day : ℕ} {told : Told} {old : Seen} where
  pub none-so_far : (left : Told) → left ≡ told
      → IsSoFar day told old 0 left none_counted old None
  none-so_far left whole = grind (arith, ints, nat_tests, read-none, kept-still, leave-still)

  module _ {turn : ℕ} {left : Told} {counts : ImportReply} {now : Seen} {own : Option (List FirmLine)}
      (so : IsSoFar day told old turn left counts now own) where
    -- the next item is read: what it leaves is left after a front of the statement
    next-front : (more : Told) (it : Item) (found : Firm) → Gives left more (Some it) → now.clean → old.stands
        → found ≡ after_item day now.firm it → IsAfterFirst day old.firm told found
    next-front more it found gives served stood made = record {
      front = so.front ++ it ∷ [];
      first = read-front told more (so.front ++ it ∷ []) (read-more told left more so.front it so.read gives);
      leaves = made
          ∙ (ap (λ (f : Firm). after_item day f it) (so.step served stood).1
          ∙ sym (after_items-push day old.firm so.front it));
    }

    -- and applied, and counted
    pub more-so_far : {more : Told} {next : ImportReply} {new : Seen} {known : Option (List FirmLine)} (it : Item) (k : Counted)
        → Gives left more (Some it)
        → IsAppliedBeside day it (Ok k) now own new known
        → next ≡ count_item it k counts
        → IsSoFar day told old (turn + 1) more next new known
    more-so_far {more} {next} {new} {known} it k gives a counted = record {
      front = so.front ++ it ∷ [];
      read = read-more told left more so.front it so.read gives;
      step = λ served stood.
          let was = a.kept.was_clean served in
          let before = so.step was stood in
          let step = a.step served (so.kept.still_stands was (stood, tt)) in (
            counted
                ∙ ((λ i. count_item it (step.0 i) (before.0 i))
                ∙ (ap (λ (f : Firm). count_item it (counted_of day f it) (counts_after day old.firm so.front none_counted)) before.1
                ∙ sym (counts_after-push day old.firm so.front it none_counted))),
            step.1
                ∙ (ap (λ (f : Firm). after_item day f it) before.1 ∙ sym (after_items-push day old.firm so.front it)),
          );
      room = below-more (turn + 1) (turn + 1 + 1) it k counts next so.room counted (omega arith);
      kept = kept-then so.kept a.kept;
      crash = λ is served stood.
          let before = so.crash (a.kept.was_sure is) served stood in
          let still = before.serves served tt in
          let stood_still = so.kept.still_stands still (stood, tt) in
          let made = a.crash is stood_still in
          leave-then (λ found was. was) (λ found made. next-front more it found gives still stood made) tt before
          (leave-as (λ fine. refl) (λ found is. is) (λ fine. (a.step (made.serves still refl) stood_still).1) made);
    }

    -- the import ends, and nothing more is applied
    pub ended-so_far : {bytes : Option (List ℕ)} {new : Seen} (known : Option (List FirmLine)) (more : Told) (e : ImportEnd)
        → e.reply ≡ counts → (old.stands → FirmSound old.firm) → IsStop e.end → (e.end ≡ stop.Done → Gives left more None)
        → (e.end ≡ stop.Refused (refusal.BadField field.Header) → LacksHeader left)
        → (e.end ≡ stop.Limit → IsTooLong bytes) → (e.end ≡ stop.Done → IsWithin bytes)
        → KeepsBeside (counted_stop e.end) now own new known
        → (new.clean → StandsBeside now own → new.firm ≡ now.firm)
        → (new.sure → now.clean → old.stands → StandsBeside now own
        → MayLeave (is_stopped e.end ≡ false) (IsAfterFirst day old.firm told) now.firm new.firm now new)
        → IsImported day told bytes e old new
    ended-so_far {bytes} {new} known more e reply sound stops done lacks limit within kept same crash = record {
      front = λ served stood.
          let was = kept.was_clean served in
          imports was stood new.firm (same served (so.kept.still_stands was (stood, tt)));
      stops = stops;
      header = λ is. read-lacks told left so.front so.read (lacks is);
      limit = limit;
      within = within;
      kept = kept-alone known (kept-then so.kept kept);
      crash = λ is served stood.
          let before = so.crash (kept.was_sure is) served stood in
          let still = before.serves served tt in
          leave-then (λ found was. was) (λ found was. was) tt before
          (crash is still stood (so.kept.still_stands still (stood, tt)));
      shut = λ is served stood.
          (now.firm, imports ((so.crash (kept.was_sure is) served stood).serves served tt) stood now.firm refl);
    }
      where
        imports : now.clean → old.stands → (f : Firm) → f ≡ now.firm → Imports day old.firm told e f
        imports served stood f is =
            let step = so.step served stood in
            record {
              front = so.front;
              first = read-first told left more so.front e.end so.read done;
              leaves = is ∙ step.1;
              counts = reply ∙ step.0;
              own = λ m. ap (of m) (is ∙ step.1) ∙ of-after_items m day old.firm so.front;
              sound = always-sound day old.firm so.front (sound stood);
            }

    -- before another item is read
    pub ended-here : {bytes : Option (List ℕ)} (more : Told) (e : ImportEnd) → e.reply ≡ counts
        → (old.stands → FirmSound old.firm) → ((n : ℕ) → n ≡ counted_stop e.end n) → IsStop e.end
        → (e.end ≡ stop.Done → Gives left more None)
        → (e.end ≡ stop.Refused (refusal.BadField field.Header) → LacksHeader left)
        → (e.end ≡ stop.Limit → IsTooLong bytes) → (e.end ≡ stop.Done → IsWithin bytes)
        → IsImported day told bytes e old now
    ended-here more e reply sound none stops done lacks limit within =
        ended-so_far own more e reply sound stops done lacks limit within
        (kept-as (λ is stood. none now.refusals) (kept-still (beside now own))) (λ served stood. refl)
        (λ is served stood beside. leave-still now.firm now)

    -- by a fault of the reading, or for want of memory
    pub unread-so_far : {bytes : Option (List ℕ)} (f : ReadFault) → (old.stands → FirmSound old.firm)
        → (f ≡ reading.BadHeader → LacksHeader left) → (f ≡ reading.Limit → IsTooLong bytes)
        → IsImported day told bytes (record { reply = counts; end = stop_at f }) old now
    unread-so_far reading.BadHeader sound lacks limit =
        ended-here left (record { reply = counts; end = stop.Refused (refusal.BadField field.Header) }) refl sound (λ n. refl) (inl refl)
        (λ is. absurd (cc)) (λ is. lacks refl) (λ is. absurd (cc)) (λ is. absurd (cc))
    unread-so_far reading.Limit sound lacks limit =
        ended-here left (record { reply = counts; end = stop.Limit }) refl sound (λ n. refl) tt
        (λ is. absurd (cc)) (λ is. absurd (cc)) (λ is. limit refl) (λ is. absurd (cc))
    unread-so_far reading.Reader sound lacks limit =
        ended-here left (record { reply = counts; end = stop.ReadFault }) refl sound (λ n. refl) tt
        (λ is. absurd (cc)) (λ is. absurd (cc)) (λ is. absurd (cc)) (λ is. absurd (cc))
    unread-so_far reading.Memory sound lacks limit =
        ended-here left (record { reply = counts; end = stop.Refused refusal.Memory }) refl sound (λ n. refl) (inr refl)
        (λ is. absurd (cc)) (λ is. absurd (cc)) (λ is. absurd (cc)) (λ is. absurd (cc))

    -- by a fault of the book, at the next item
    pub unapplied-so_far : {bytes : Option (List ℕ)} {new : Seen} {known : Option (List FirmLine)} (more : Told) (it : Item)
        (f : StoreFault) → (old.stands → FirmSound old.firm) → Gives left more (Some it)
        → IsAppliedBeside day it (Err f) now own new known
        → IsImported day told bytes
        (record { reply = counts; end = stop.Refused (refused_by f) }) old new
    unapplied-so_far more it f sound gives a =
        ended-so_far _ more (record { reply = counts; end = stop.Refused (refused_by f) }) refl sound (inr (fault-told f))
        (λ is. absurd (cc)) (λ is. absurd (not-header f is)) (λ is. absurd (cc)) (λ is. absurd (cc))
        (kept-as (λ is stood. fault-counted f now.refusals) a.kept) a.err
        (λ is served stood beside.
        leave-failed (λ fine. false≢true (sym fine ∙ fault-told f))
        (λ found made. next-front more it found gives served stood made) (a.crash is beside))

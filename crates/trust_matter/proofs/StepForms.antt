-- Forms of a step: edits of sound rows, what they move, and what an accepted ask has passed.
use Rattle.trust_matter.proofs.Names.{Against, AreInOrder, Ask, Asked, Bool, Caller, DepositState, Edit, Entry, Event, Head, IsBy, IsHeaded, IsRising, IsSome, IsStepOf, List, MayAdd, MayTake, MovesWithin, None, Numbered, OpenAsk, Option, Rows, Seat, Some, Sound, [], arith, as_made, backed-none, book_day, changed_by, changes_matter, common_steps, dated-append, dated-later, dated-with, entry_at, eqb, events_in, events_of, false, is_held_state, is_none, is_number, is_opening, is_purged, is_settled, is_some, is_unknown_to, is_zero, last_after, ledger, length, misses, nat_lt, nat_tests, next_number, not, not-bare, not-closed, number_named, opening, other_of, pending, pos, refl, role_in, rows-of, rule_against, seats_with, seats_without, settled, settlement_day, slice_get, sound-append, sound-with, target, true, unclosed-bare, within, ℕ, ℤ, ◌&&◌, ◌++◌, ◌+◌, ◌<◌, ◌∷◌, ◌≡◌, ◌≤◌, ◌⊎◌}
use Rattle.std.specs.Prelude.{◌||◌}
use Rattle.matter_rows.specs.declared.claim.Against.TheVariants as against
use Rattle.matter_rows.specs.declared.deposit.DepositState.TheVariants as deposit
use Rattle.matter_rows.proofs.Funding.{funded-added, funded-exchanged}
use Rattle.matter_rows.proofs.SeatOrder.{order-with, order-without}
use Rattle.matter_rows.specs.declared.act.Caller.TheVariants as caller
use Rattle.matter_parts.specs.declared.edit.Edit.TheVariants as edit
use Rattle.trust_matter.specs.declared.ask.Ask.TheVariants as ask

-- the seats of an open matter change
rows-seats : (h : Head) (seats new : List Seat) (es : List Entry) (last : ℕ) → Sound (rows-of (Some h) seats es)
    → h.closed ≡ None → h.last ≤ last → AreInOrder new → Sound (rows-of (Some (record h { last = last })) new es)
rows-seats h seats new es last s unclosed later seated = grind (arith, nat_tests, dated-later, not-closed, not-bare)

-- the matter is purged, once it was closed
pub rows-purge : (h : Head) (seats : List Seat) (es : List Entry) (day : ℕ) → Sound (rows-of (Some h) seats es) → IsSome h.closed → h.last ≤ day → Sound (changed_by (edit.Purge day) day (rows-of (Some h) seats es))
rows-purge h seats es day s closed later = grind (arith, nat_tests, backed-none)

-- What an edit moves.

past-all : (olds more : List Event) → slice_get (olds ++ more) (length olds) ≡ slice_get more 0
past-all [] more = refl
past-all (e ∷ olds) more = past-all olds more

-- an event or none, on no day before the first, and on none after the second
abbrev pub AreWithin : ℕ → ℕ → List Event → Type 0
AreWithin from to [] = Unit {0}
AreWithin from to (e ∷ []) = (from ≤ e.day) × (e.day ≤ to)
AreWithin from to (e ∷ d ∷ more) = ⊥

-- an event or none behind those of the entry that is exchanged
pub exchange-moves : (es : List Entry) (x : Numbered) (from to : ℕ) (more : List Event) → events_of x.entry ≡ events_in (entry_at es x.number) ++ more → AreWithin from to more → MovesWithin es (edit.Exchange x) from to
exchange-moves es x from to more is within = grind (arith, nat_tests, past-all, within)

-- What an accepted ask has passed.

pub not-false : (b : Bool) → not b ≡ false → b ≡ true
not-false b h = grind (arith, nat_tests)

pub none-is : {T : Type 0} (o : Option T) → is_some o ≡ false → o ≡ None
none-is h1 h = grind (arith, nat_tests)

pub some-is : {T : Type 0} (o : Option T) → is_none o ≡ false → is_some o ≡ true
some-is h1 h = grind (arith, nat_tests)

pub not-before : (day last : ℕ) → nat_lt day last ≡ false → last ≤ day
not-before day last h = grind (arith, nat_tests)

-- the number comes next, and there is room
pub next-is : (count n : ℕ) → misses (next_number count) (Some n) ≡ false → (count < 9_999) × (n ≡ count + 1)
next-is count n h = grind (arith, nat_tests, is_number, not-false, eqb)

pub held-is : (s : DepositState) → not (is_held_state s) ≡ false → s ≡ deposit.Held
held-is s h = grind (arith, nat_tests)

-- only the cashier may unclosed a matter; to others one without a head is unknown
pub head-there : (head : Option Head) (seats : List Seat) (es : List Entry) (c : Caller) (a : Ask) → IsHeaded head seats es → is_unknown_to c head seats a ≡ false → is_opening a ≡ false → is_some head ≡ true
head-there head seats es c a headed known other = grind (arith, nat_tests, not-false)

-- a claim comes under a rule by which a matter changes, whatever it is on
pub claim-changes : (on : Against) → changes_matter (rule_against on) ≡ true
claim-changes on = grind (arith, nat_tests)

-- the step of an ask
abbrev pub IsStep : Rows → Asked → Edit → ℕ → Type 0
IsStep rows a e last = IsStepOf rows (other_of a.ask (entry_at rows.entries (number_named a.ask))) (number_named a.ask) e last

abbrev pub asked : Caller → Ask → ℕ → Asked
asked c a day = record { caller = c; ask = a; day = day }

abbrev pub Stepped : Option Head → List Seat → List Entry → Asked → Edit → Type 0
Stepped head seats es a e = IsStep (rows-of head seats es) a e (last_after head e a.day)

-- an entry is added, on no day before the last
pub step-append : (h : Head) (seats : List Seat) (es : List Entry) (x : Numbered) (t n day : ℕ) → Sound (rows-of (Some h) seats es) → h.closed ≡ None → MayAdd es x.entry → x.number ≡ length es + 1 → h.last ≤ day → h.last ≤ book_day x.entry → IsBy day x.entry → IsRising x.entry → MovesWithin es (edit.Append x) h.last day → (target x.entry ≡ 0) ⊎ (target x.entry ≡ t) → IsStepOf (rows-of (Some h) seats es) t n (edit.Append x) day
step-append h seats es x t n day s unclosed may next later from by rising moves drawn =
    search (rows-of, sound-append, dated-append, not-closed, not-bare, funded-added)

-- an entry changes, on no day before the last; of a claim that was settled not the day of that
pub step-exchange : (h : Head) (seats : List Seat) (es : List Entry) (x : Numbered) (old : Entry) (t n day : ℕ) → Sound (rows-of (Some h) seats es) → h.closed ≡ None → MayTake es x.number old x.entry → as_made x.entry ≡ as_made old → (is_settled old ≡ true → settlement_day (Some x.entry) ≤ settlement_day (Some old)) → h.last ≤ day → IsBy day x.entry → IsRising x.entry → MovesWithin es (edit.Exchange x) h.last day → (target x.entry ≡ 0) ⊎ (target x.entry ≡ t) → x.number ≡ n → IsStepOf (rows-of (Some h) seats es) t n (edit.Exchange x) day
step-exchange h seats es x old t n day s unclosed may same settled later by rising moves drawn number = record {
  place = (refl, (old, record { there = may.at; same = same }));
  sound = record {
    backed = sound-with es x.number old x.entry s.backed may;
    seated = s.seated;
    headed = (
      dated-with h es x.number old x.entry day s.headed.0 may.at same later by rising,
      not-closed
          (record h { last = day }) h.closed _ unclosed,
    );
    bare = not-bare h.holder h.closed h.last day seats _ es _ s.bare unclosed;
    funded = funded-exchanged es x.number old x.entry s.backed.named s.funded may.at same may.named settled;
  };
  not_before = later;
  seen = refl;
  moves = moves;
  may = (old, may, drawn, number);
}

pub step-nothing : (h : Head) (seats : List Seat) (es : List Entry) (a : Asked) → Sound (rows-of (Some h) seats es) → Stepped (Some h) seats es a edit.Nothing
step-nothing h seats es a s = let same : h.last ≤ h.last = omega arith in assumption

pub step-unclosed : (seats : List Seat) (es : List Entry) (c : Caller) (o : OpenAsk) (day : ℕ) → Sound (rows-of None seats es) → Stepped None seats es (asked c (ask.OpenMatter o) day) (edit.Open (opening o day))
step-unclosed seats es c o day s = grind (arith, nat_tests)

pub step-seat : (h : Head) (seats : List Seat) (es : List Entry) (c : Caller) (new : Seat) (day : ℕ) → Sound (rows-of (Some h) seats es) → h.closed ≡ None → h.last ≤ day → role_in seats new.person ≡ None → Stepped (Some h) seats es (asked c (ask.AddSeat new) day) (edit.Seat new)
step-seat h seats es c new day s unclosed later free = search (rows-seats, seats_with, order-with)

pub step-unseat : (h : Head) (seats : List Seat) (es : List Entry) (c : Caller) (person : List ℕ) (day : ℕ) → Sound (rows-of (Some h) seats es) → h.closed ≡ None → h.last ≤ day → is_some (role_in seats person) ≡ true → Stepped (Some h) seats es (asked c (ask.DropSeat person) day) (edit.Unseat person)
step-unseat h seats es c person day s unclosed later seated = search (rows-seats, seats_without, order-without)

zero-is : (z : ℤ) → is_zero z ≡ true → z ≡ pos 0
zero-is z h = grind (arith, nat_tests)

both-zero : (y z : ℤ) → not (is_zero y && is_zero z) ≡ false → (y ≡ pos 0) × (z ≡ pos 0)
both-zero y z h = grind (arith, nat_tests, common_steps, zero-is)

pub step-close : (h : Head) (seats : List Seat) (es : List Entry) (c : Caller) (day : ℕ) → Sound (rows-of (Some h) seats es) → h.closed ≡ None → h.last ≤ day → not (is_zero (ledger es) && is_zero (pending es)) ≡ false → Stepped (Some h) seats es (asked c ask.CloseMatter day) (edit.Close day)
step-close h seats es c day s unclosed later empty = grind (arith, nat_tests, both-zero, dated-later, unclosed-bare)

pub either-false : (a b : Bool) → (a || b) ≡ false → (a ≡ false) × (b ≡ false)
either-false a b h = grind (arith, nat_tests)

pub step-purge : (h : Head) (seats : List Seat) (es : List Entry) (c : Caller) (day : ℕ) → Sound (rows-of (Some h) seats es) → is_purged (Some h) ≡ false → h.last ≤ day → (is_none h.closed || false) ≡ false → Stepped (Some h) seats es (asked c ask.Purge day) (edit.Purge day)
step-purge h seats es c day s kept later state = grind (arith, nat_tests, some-is, either-false, rows-purge)

-- What an accepted ask leaves of the head and the seats.
use Rattle.matter_laws.proofs.Names.{AllByRecursion, AreInOrder, Ask, Asked, Caller, Edit, Entry, Head, IsHeaded, List, None, OpenAsk, Option, Refusal, Rows, Seat, Some, Sound, [], after, ap, bytes_eq, bytes_eq-Decides, changed_by, comes_before, cond, edit_of, edit_on, entry_at, facts_of, false, false≢true, filter, head_after, is_changing, is_opening, is_repeat, is_some, is_unknown_to, last_after, last_of, number_named, opening, option_map, refl, refusal, role_in, rows-of, rows_after, seat_of, seats_with, seats_without, subst, sym, true, ℕ, ◌++◌, ◌∙◌, ◌∷◌, ◌≡◌, arith, ints, nat_tests, stub_rows, is_missing_for, is_of_another_kind_for}
use Rattle.matter_rows.specs.declared.entry.Entry.TheVariants as entry
use Rattle.matter_rows.proofs.Seating.{before-antisym, before-total, all-after, after-more, no-seat, bytes_eq-swap}
use Rattle.matter_parts.specs.declared.edit.Edit.TheVariants as edit
use Rattle.trust_matter.specs.declared.ask.Ask.TheVariants as ask
use Rattle.matter_laws.specs.HeadLaws.{IsOpened, OpeningOpens, IsClosed, ClosingCloses, HasOneMore, SeatIsAdded, IsUnseated, SeatIsDropped, PurgingPurges, DayIsLast, ReadsChangeNothing}
use Rattle.trust_matter.proofs.StepForms.{asked, claim-changes, head-there, none-is, some-is}
use Rattle.trust_matter.proofs.Table.{Passes, passes}

-- One seat more.

-- in order, all who do not come before a person without a seat come behind
apart-seats : (ss : List Seat) (p : List ℕ) → AreInOrder ss → role_in ss p ≡ None → ss ≡ filter (λ s. comes_before s.person p) ss ++ filter (λ s. comes_before p s.person) ss
apart-seats [] p order none = refl
apart-seats (s ∷ ss) p order none =
    let apart = no-seat s ss p none in
    elim (comes_before p s.person) as (λ b. comes_before p s.person ≡ b → s ∷ ss ≡ filter (λ t. comes_before t.person p) (s ∷ ss) ++ cond b (s ∷ filter (λ t. comes_before p t.person) ss) (filter (λ t. comes_before p t.person) ss)) [
      | true ↦ λ yes.
          let all : AllByRecursion (λ t. comes_before p t.person ≡ true) (s ∷ ss) = (yes, after-more p s.person ss yes order.0) in
          let none_before = (all-after p (s ∷ ss) all).0 in
          let rest = (all-after p ss all.1).1 in
          rw (none_before, rest) refl
      | false ↦ λ no.
          let yes : comes_before s.person p ≡ true = before-total p s.person no (bytes_eq-swap s.person p apart.0) in
          rw yes (ap (λ l. s ∷ l) (apart-seats ss p order.1 apart.1))
    ] refl

seat-more : (ss : List Seat) (new : Seat) → AreInOrder ss → role_in ss new.person ≡ None → HasOneMore ss new (seats_with ss new)
seat-more ss new order none = search ((apart-seats ss new.person order none))

-- One seat less.

same-person : (a b : List ℕ) → bytes_eq a b ≡ true → a ≡ b
same-person a b h = (bytes_eq-Decides a b).0 h

-- who comes behind a person is another
another : (p q : List ℕ) → comes_before p q ≡ true → bytes_eq q p ≡ false
another p q h =
    elim (bytes_eq q p) as (λ b. bytes_eq q p ≡ b → b ≡ false) [
      | true ↦ λ e.
          let P : List ℕ → Type 0 = λ r. comes_before p r ≡ true in
          let same = subst P (same-person q p e) h in
          absurd (false≢true (sym (before-antisym p p same) ∙ same))
      | false ↦ λ e. refl
    ] refl

-- of seats behind a person none is given up
none-dropped : (ss : List Seat) (p q : List ℕ) → bytes_eq p q ≡ true → AllByRecursion (λ t. comes_before p t.person ≡ true) ss → seats_without ss q ≡ ss
none-dropped [] p q same h = refl
none-dropped (s ∷ ss) p q same h =
    search ((same-person p q same), (another p s.person h.0), (none-dropped ss p q same h.1))

-- the seat of a person, among the others
record IsAmong (ss : List Seat) (p : List ℕ) : Type 0 where
  seat : Seat
  own : seat.person ≡ p
  among : HasOneMore (seats_without ss p) seat ss

seat-less : (ss : List Seat) (p : List ℕ) → AreInOrder ss → is_some (role_in ss p) ≡ true → IsAmong ss p
seat-less [] p order there = absurd (cc)
seat-less (s ∷ ss) p order there =
    elim (bytes_eq s.person p) as (λ b. bytes_eq s.person p ≡ b → is_some (option_map (λ (t : Seat). t.role) (cond b (Some s) (seat_of ss p))) ≡ true → IsAmong (s ∷ ss) p) [
      | true ↦ λ e g. record {
        seat = s;
        own = same-person s.person p e;
        among = record { before = []; behind = ss; were = rw e (none-dropped ss s.person p e order.0); are = refl };
      }
      | false ↦ λ e g.
          let more = seat-less ss p order.1 g in
          let l = more.among in
          record {
            seat = more.seat;
            own = more.own;
            among = record { before = s ∷ l.before; behind = l.behind; were = rw e (ap (λ x. s ∷ x) l.were); are = ap (λ x. s ∷ x) l.are };
          }
    ] refl there

-- An accepted ask.

-- no condition of the table holds of an ask that is accepted and no repeat
accepted-passes : (rows : Rows) (a : Asked) → is_repeat (facts_of rows a.ask) a ≡ false → refusal rows a ≡ None → Passes (facts_of rows a.ask) a
accepted-passes rows a new none = passes (facts_of rows a.ask) a (rw new at none)

-- the rows after it
accepted-after : (rows : Rows) (a : Asked) → is_repeat (facts_of rows a.ask) a ≡ false → refusal rows a ≡ None → (e : Edit) → edit_of a.ask (entry_at rows.entries (number_named a.ask)) a.day ≡ e → rows_after rows a ≡ changed_by e (last_after rows.head e a.day) rows
accepted-after rows a new none e is = grind (arith, ints, nat_tests, after, edit_on, changed_by, last_after)

-- the rows before an ask, and what has passed the table
abbrev AcceptedOf : Option Head → List Seat → List Entry → Caller → Ask → ℕ → Type 0
AcceptedOf head seats es who q day = Passes (facts_of (rows-of head seats es) q) (asked who q day)

-- the rows after an edit that was asked for
abbrev after-edit : Option Head → List Seat → List Entry → Edit → ℕ → Rows
after-edit head seats es e day = changed_by e (last_after head e day) (rows-of head seats es)

open-made : (head : Option Head) (seats : List Seat) (es : List Entry) (o : OpenAsk) (who : Caller) (day : ℕ) → Sound (rows-of head seats es) → AcceptedOf head seats es who (ask.OpenMatter o) day → IsOpened o day (after-edit head seats es (edit.Open (opening o day)) day)
open-made head seats es o who day s p = grind (arith, ints, nat_tests)

pub opening-opens : OpeningOpens
opening-opens o rows who day s none =
    grind (arith, ints, nat_tests, asked, accepted-after, opening, open-made, accepted-passes)

-- all asks but an opening are of a matter that has a head
with-head : (head : Option Head) (seats : List Seat) (es : List Entry) (who : Caller) (q : Ask) → IsHeaded head seats es → is_unknown_to who head seats q ≡ false → is_opening q ≡ false → (P : Option Head → Type 0) → ((h : Head) → P (Some h)) → P head
with-head head seats es who q headed known other x8 of = grind (arith, ints, nat_tests, head-there)

-- what holds of such a matter and the rows after the edit that was asked for
with-edit : (rows : Rows) (who : Caller) (q : Ask) (day : ℕ) (e : Edit) (R : Rows → Rows → Type 0) → Sound rows → is_repeat (facts_of rows q) (asked who q day) ≡ false → refusal rows (asked who q day) ≡ None → edit_of q (entry_at rows.entries (number_named q)) day ≡ e → is_opening q ≡ false → ((h : Head) → R (rows-of (Some h) rows.seats rows.entries) (after-edit (Some h) rows.seats rows.entries e day)) → R rows (rows_after rows (asked who q day))
with-edit rows who q day e R s new none is other of =
    let Q : Option Head → Type 0 = λ head. R (rows-of head rows.seats rows.entries) (after-edit head rows.seats rows.entries e day) in
    rw (accepted-after rows (asked who q day) new none e is)
    (with-head rows.head rows.seats rows.entries who q s.headed (accepted-passes rows (asked who q day) new none).seat other Q of)

pub closing-closes : ClosingCloses
closing-closes rows who day s none =
    with-edit rows who ask.CloseMatter day (edit.Close day) (λ before after. IsClosed day before after) s refl none refl refl (λ h. record { was = h; head = refl; closed = refl; seats = refl; entries = refl })

pub seat-is_added : SeatIsAdded
seat-is_added new rows who day s none =
    grind (arith, ints, nat_tests, accepted-passes, asked, none-is, role_in, with-edit, after, seat-more)

pub seat-is_dropped : SeatIsDropped
seat-is_dropped person rows who day s none =
    let p = accepted-passes rows (asked who (ask.DropSeat person) day) refl none in
    let less = seat-less rows.seats person s.seated (some-is (role_in rows.seats person) p.seat_taken) in
    with-edit rows who (ask.DropSeat person) day (edit.Unseat person) (λ before after. IsUnseated person day before after) s refl none refl refl (λ h. record { head = refl; seat = less.seat; own = less.own; seats = less.among; entries = refl })

pub purging-purges : PurgingPurges
purging-purges rows who day s none = grind (arith, ints, nat_tests, with-edit, after, stub_rows)

-- The last day.

-- the edit changes something of an open matter
abbrev IsWritten : Edit → Type 0
IsWritten edit.Nothing = ⊥
IsWritten (edit.Open o) = ⊥
IsWritten _ = Unit {0}

-- an ask that finds its entry of the kind that it is about, and changes the matter, writes something
written : (q : Ask) (o other : Option Entry) (day : ℕ) → is_missing_for q o other ≡ false
    → is_of_another_kind_for q o other ≡ false → is_changing q ≡ true → is_opening q ≡ false
    → IsWritten (edit_of q o day)
written q o other day there kind changing other_ask = grind (arith, ints, nat_tests)

-- after the edit the day is the last
abbrev SeenOn : ℕ → Edit → Option Head → Type 0
SeenOn day e head = last_of (head_after head e (last_after head e day)) ≡ day

seen-on : (h : Head) (e : Edit) (day : ℕ) → IsWritten e → SeenOn day e (Some h)
seen-on h e day is = grind (arith, ints, nat_tests)

-- an ask that changes the matter writes something on its day
seen-made : (head : Option Head) (seats : List Seat) (es : List Entry) (who : Caller) (q : Ask) (day : ℕ) → Sound (rows-of head seats es) → AcceptedOf head seats es who q day → is_changing q ≡ true → SeenOn day (edit_of q (entry_at es (number_named q)) day) head
seen-made None seats es who (ask.OpenMatter o) day s p changing = refl
seen-made None seats es who q day s p changing = grind (arith, ints, nat_tests, head-there)
seen-made (Some h) seats es who (ask.OpenMatter o) day s p changing = refl
seen-made (Some h) seats es who q day s p changing =
    grind (arith, ints, nat_tests, edit_of, entry_at, number_named, seen-on, written, facts_of, rows-of)

pub day-is_last : DayIsLast
day-is_last rows a s none changing new =
    grind (arith, ints, nat_tests, entry_at, accepted-after, seen-made, accepted-passes)

-- What only reads.

pub unchanged : (rows : Rows) (day : ℕ) (r : Option Refusal) → after r edit.Nothing day rows ≡ rows
unchanged rows day r = grind (arith, ints, nat_tests)

read-nothing : (rows : Rows) (who : Caller) (q : Ask) (day : ℕ) → is_changing q ≡ false → rows_after rows (asked who q day) ≡ rows
read-nothing rows who q day reading = grind (arith, ints, nat_tests, claim-changes, unchanged, refusal, asked)

pub reads-change_nothing : ReadsChangeNothing
reads-change_nothing rows a reading = read-nothing rows a.caller a.ask a.day reading

-- Lines that were filled are in the book behind the import of what was written.
use Rattle.desk_laws.proofs.Names.{◌≡◌, ◌∙◌, sym, ap, subst, ℕ, zero, suc, ◌+◌, ◌-◌, Bool, true, false, cond, ◌||◌, List, [], ◌∷◌, ◌++◌, Option, Some, None, refl, inl, inr, arith, eqb, pos, ◌-ℤ◌, Contains, filter, flat_map, int_eq, and_from, and_parts, eq-eqb, eqb-true, false≢true, or_cases, Contains-append_left, Line, DepositState, PaymentState, Entry, entry_at, is_purged, is_clearing_by, is_deposit_cleared_by, is_deposit_returned_by, is_line_again, is_payment_cleared_by, DatedEdit, Reason, IsSameLine, dated_by, first_reason, line_facts, line_on, matched, reasons, rows_after_line, EntryRow, Firm, HeadRow, Row, SeatRow, entries_among, of, rows_of, item_of_line, Item, booking_of, is_same_booking, Waiting, booked_by, deposit_bookings, entry_bookings, held_of, payment_bookings, row_bookings, with_reference, written, wait_apart, sure_of, front_apart, has_filled, filter_from, flat_map_has, later, map_from, own_of_items, after_item, after_items, FilledLinesAreInBook, items_of, solo_rows, ints, nat_tests, FirmSound, HasMatterNumbers, length, ◌<◌}
use Rattle.std.proofs.Common.{◌&&◌, ◌==◌, ℤ}
use Rattle.std.proofs.lemmas.Slice.Eq.{bytes_eq-Decides}
use Rattle.matter_rows.specs.declared.clearing.Clearing.{Clearing}
use Rattle.matter_rows.specs.declared.deposit.DepositState.TheVariants as deposit
use Rattle.matter_rows.specs.declared.payment.PaymentState.TheVariants as payment
use Rattle.matter_rows.specs.declared.entry.Entry.TheVariants as entry
use Rattle.trust_matter.specs.declared.line_verdict.LineEffect.TheVariants as told
use Rattle.statement_csv.specs.declared.item.Item.TheVariants as item
use Rattle.statement_lines.specs.declared.booking.Booking.{Booking}
use Rattle.statement_match.proofs.Again.{filled_is_booked}
use Rattle.statement_match.proofs.Writing.{written_is_filled}
use Rattle.statement_match.specs.Rule.{becomes}
use Rattle.statement_lines.specs.declared.line_outcome.LineOutcome.TheVariants as outcome
use Rattle.desk_laws.proofs.Awaiting.{line_unpurged, open_unpurged}
use Rattle.desk_laws.proofs.Doings.{repeat-later}
use Rattle.desk_laws.proofs.Once.{was-applied}
use Rattle.desk_laws.proofs.FilledLines.{IsReady, filled_ready, item_keeps, ready_behind, ready_counted, ready_item, ready_line}
use Rattle.trust_desk.proofs.OwnItems.{of-after_items, of-after_line}

-- What a line that comes again says of the bookings.

-- some line of the bank of the entry is this one
abbrev IsBooked : List Booking → Line → Type 0
IsBooked bookings line = (b : Booking) × Contains bookings b × (is_same_booking (booking_of line) b ≡ true)

same_booking : (c : Clearing) (amount : ℤ) (line : Line)
    → (is_clearing_by c line && int_eq amount line.amount) ≡ true
    → is_same_booking (booking_of line) (booked_by c amount) ≡ true
same_booking c amount line is = grind (arith, ints, nat_tests, and_parts, eq-eqb, eqb-true, bytes_eq-Decides, and_from)

deposit_booked : (amount : ℕ) (s : DepositState) (line : Line)
    → ((is_deposit_cleared_by s line && int_eq (pos amount) line.amount)
    || (is_deposit_returned_by s line && int_eq (pos 0 -ℤ pos amount) line.amount)) ≡ true
    → IsBooked (deposit_bookings amount s) line
deposit_booked amount (deposit.Cleared c) line is =
    elim (or_cases (is_clearing_by c line && int_eq (pos amount) line.amount) false is) [
      | inl h ↦ (booked_by c (pos amount), (0, omega arith, refl), same_booking c (pos amount) line h)
      | inr h ↦ absurd (false≢true h)
    ]
deposit_booked amount (deposit.Returned r) line is =
    elim (or_cases (is_clearing_by r.clearing line && int_eq (pos amount) line.amount)
    (is_clearing_by r.returning line && int_eq (pos 0 -ℤ pos amount) line.amount) is) [
      | inl h ↦ (booked_by r.clearing (pos amount), (0, omega arith, refl), same_booking r.clearing (pos amount) line h)
      | inr h ↦ (
        booked_by r.returning (pos 0 -ℤ pos amount),
        (1, omega arith, refl),
        same_booking r.returning (pos 0 -ℤ pos amount) line h,
      )
    ]
deposit_booked amount _ line is = absurd (false≢true is)

payment_booked : (amount : ℕ) (s : PaymentState) (line : Line)
    → (is_payment_cleared_by s line && int_eq (pos 0 -ℤ pos amount) line.amount) ≡ true
    → IsBooked (payment_bookings amount s) line
payment_booked amount (payment.Cleared c) line is = (
  booked_by c.clearing (pos 0 -ℤ pos amount),
  (0, omega arith, refl),
  same_booking c.clearing (pos 0 -ℤ pos amount) line is,
)
payment_booked amount _ line is = absurd (false≢true is)

-- an entry that had the line has it among its bookings
again_booked : (e : Entry) (line : Line) → is_line_again (Some e) line ≡ true → IsBooked (entry_bookings e) line
again_booked (entry.Deposit d) line is = deposit_booked d.amount d.state line is
again_booked (entry.Payment p) line is = payment_booked p.amount p.state line is
again_booked _ line is = absurd (false≢true is)

-- What an entry has booked the firm has.

entry_there : (es : List Entry) (n : ℕ) (e : Entry) → entry_at es n ≡ Some e → Contains es e
entry_there [] n e at = absurd (cc)
entry_there (x ∷ es) n e at =
    elim (eqb n 1) as (λ b. cond b (Some x) (entry_at es (n - 1)) ≡ Some e → Contains (x ∷ es) e) [
      | true ↦ λ is. let same : x ≡ e = cc in (0, omega arith, same)
      | false ↦ λ is. later x e es (entry_there es (n - 1) e is)
    ] at

row_there : (rows : List Row) (e : Entry) → Contains (entries_among rows) e
    → (n : ℕ) × Contains rows (EntryRow n e)
row_there [] e (k, lt, is) = absurd (omega arith)
row_there (HeadRow head ∷ rows) e there = grind (arith, ints, nat_tests, later, (row_there rows e there))
row_there (SeatRow seat ∷ rows) e there = grind (arith, ints, nat_tests, later, (row_there rows e there))
row_there (EntryRow n x ∷ rows) e (zero, lt, is) = (n, (zero, omega arith, ap (λ y. EntryRow n y) is))
row_there (EntryRow n x ∷ rows) e (suc k, lt, is) =
    grind (arith, ints, nat_tests, later, (row_there rows e (k, omega arith, is)))

firm_booked : (firm : Firm) (m n : ℕ) (e : Entry) (b : Booking) → entry_at (of m firm).entries n ≡ Some e
    → Contains (entry_bookings e) b → Contains (held_of firm).bookings b
unfolding held_of
firm_booked firm m n e b at booked =
    let row = row_there (rows_of m firm.rows) e (entry_there (of m firm).entries n e at) in
    let pair = map_from (λ (p : ℕ × Row). p.1) (filter (λ p. p.0 == m) firm.rows) (EntryRow row.0 e) row.1 in
    let there = (filter_from (λ (p : ℕ × Row). p.0 == m) firm.rows pair.0 pair.1).1 in
    let here : Contains (row_bookings pair.0) b =
    subst (λ (r : Row). Contains (row_bookings (pair.0.0, r)) b) (sym pair.2) booked in
    Contains-append_left (flat_map row_bookings firm.rows) _ b (flat_map_has row_bookings firm.rows pair.0 b there here)

-- Behind the import.

-- lines one behind the other
pub after_both : (today number : ℕ) (firm : Firm) (xs ys : List Line)
    → (k : ℕ) × (after_items today firm (items_of number (xs ++ ys))
    ≡ after_items today (after_items today firm (items_of number xs)) (items_of k ys))
after_both today number firm [] ys = (number, refl)
after_both today number firm (x ∷ xs) ys =
    after_both today (number + 1) (after_item today firm (item_of_line number x)) xs ys

items_unpurged : (m today : ℕ) (firm : Firm) (items : List Item) → is_purged (of m firm).head ≡ false
    → is_purged (of m (after_items today firm items)).head ≡ false
items_unpurged m today firm [] kept = kept
items_unpurged m today firm (it ∷ items) kept =
    grind (arith, ints, nat_tests, item_keeps, line_unpurged, of, (items_unpurged m today (after_item today firm it) items (item_keeps (λ rows. is_purged rows.head ≡ false) m today firm it (λ l is same. line_unpurged (of m firm) l today kept) kept)))

was_again : (b : Bool) (r : Option Reason) (d : DatedEdit) → cond b told.Repeat (matched r d) ≡ told.Repeat → b ≡ true
was_again b r d is = grind (arith, ints, nat_tests)

again_there : (o : Option Entry) (line : Line) → is_line_again o line ≡ true
    → (e : Entry) × (o ≡ Some e) × (is_line_again (Some e) line ≡ true)
again_there None line is = absurd (false≢true is)
again_there (Some e) line is = (e, refl, is)

-- behind a line that was ready, and whatever came then, the firm has it among its bookings
ready_booked : (today : ℕ) (firm : Firm) (x : Line) (w : Waiting) (items : List Item) (ready : IsReady today firm x w)
    → IsBooked (held_of (after_items today (after_item today firm (item.OfMatter (ready_line ready))) items)).bookings x
ready_booked today firm x w items ready =
    let m = ready.matter in
    let l = ready_line ready in
    let one = after_item today firm (item.OfMatter l) in
    let end = after_items today one items in
    let owns = own_of_items m today items in
    let rows : of m end ≡ solo_rows (rows_after_line (of m firm) l today) owns =
    of-after_items m today one items ∙ ap (λ rs. solo_rows rs owns) (of-after_line l today firm) in
    let open_now = open_unpurged (of m firm).head ready.stands.opened in
    let open_one : is_purged (of m one).head ≡ false =
    ap (λ rs. is_purged rs.head) (of-after_line l today firm) ∙ line_unpurged (of m firm) l today open_now in
    let open_end : is_purged (solo_rows (rows_after_line (of m firm) l today) owns).head ≡ false =
    ap (λ rs. is_purged rs.head) (sym rows) ∙ items_unpurged m today one items open_one in
    let applied = was-applied (line_on (of m firm) l today) (ready_counted today firm x w ready) in
    let same : IsSameLine l l = record { entry = refl; date = refl; bank_ref = refl; amount = refl } in
    let repeat : line_on (of m end) l today ≡ told.Repeat =
    ap (λ rs. line_on rs l today) rows ∙ repeat-later (of m firm) l l today today owns applied same open_end in
    let f = line_facts (of m end) l today in
    let again = was_again (is_line_again f.entry f.line) (first_reason (reasons f)) (dated_by f) repeat in
    let found = again_there (entry_at (of m end).entries ready.number) x again in
    let booked = again_booked found.0 x found.2 in
    (booked.0, firm_booked end m ready.number found.0 booked.0 found.1 booked.1, booked.2)

pub filled_is_in_book : (today later_day : ℕ) (firm : Firm) (lines : List Line) (line : Line) (reference : List ℕ)
    → FirmSound firm → HasMatterNumbers firm → Contains lines line → 0 < length line.bank_ref
    → becomes today (held_of firm) lines line ≡ outcome.Filled reference
    → becomes later_day (held_of (after_items today firm (items_of 1 (written today (held_of firm) lines)))) lines line
    ≡ outcome.InBook
filled_is_in_book today later_day firm lines line reference sound numbers there bank filled =
    let x = with_reference reference line in
    let split = has_filled today (held_of firm) lines line reference there filled in
    let before = after_items today firm (items_of 1 split.front) in
    let other = λ (y : Line) (y_there : Contains split.front y). front_apart today (held_of firm) lines split.front
    split.rest line y reference (wait_apart firm sound numbers) there filled split.is y_there in
    let found = sure_of today (held_of firm) lines line reference filled in
    let w = found.0 in
    let ready = ready_behind today 1 firm x w split.front
    (filled_ready today firm lines line reference w sound numbers found.1 found.2) other in
    let cut = after_both today 1 firm split.front (x ∷ split.rest) in
    let rest = items_of (cut.0 + 1) split.rest in
    let all : after_items today firm (items_of 1 (written today (held_of firm) lines))
    ≡ after_items today (after_item today before (item.OfMatter (ready_line ready))) rest =
    ap (λ ls. after_items today firm (items_of 1 ls)) split.is ∙ cut.1
    ∙ ap (λ it. after_items today (after_item today before it) rest) (ready_item today cut.0 before x w ready bank) in
    let booked = ready_booked today before x w rest ready in
    filled_is_booked today later_day (held_of firm)
    (held_of (after_items today firm (items_of 1 (written today (held_of firm) lines)))) lines line reference booked.0
    filled (subst (λ (new : Firm). Contains (held_of new).bookings booked.0) (sym all) booked.1) booked.2

pub filled_lines_are_in_book : FilledLinesAreInBook
filled_lines_are_in_book today later_day firm lines line x sound numbers there opened bank written_there =
    let wrote = written_is_filled today (held_of firm) lines line x opened written_there in
    filled_is_in_book today later_day firm lines line wrote.0 sound numbers there bank wrote.1

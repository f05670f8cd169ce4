-- No two entries that wait in a sound firm have one reference.
use Rattle.statement_match.proofs.Names.{◌≡◌, ◌∙◌, sym, ap, subst, ℕ, zero, suc, ◌+◌, ◌<◌, true, List, [], ◌∷◌, length, get_or, Option, Some, inl, inr, arith, Contains, nat_tests, Contains-append_cases, same_Some, Entry, EntryRow, Firm, HeadRow, Row, SeatRow, entry_pairs, head_pairs, of, pairs, put, seat_pairs, entry_named, named, reference_text, Waiting, filter_has, entry_waiting, held_of, row_waiting, HasMatterNumbers, NoneIsNamedTwiceByFirms, WaitApart, ints}
use Rattle.std.specs.Prelude.{◌==◌}
use Rattle.trust_base.specs.Limits.{IsEntryNo, IsMatterNo}
use Rattle.matter_rows.specs.Rows.{Rows, entry_at}
use Rattle.matter_rows.specs.declared.head.Head.{Head}
use Rattle.matter_rows.specs.declared.seat.Seat.{Seat}
use Rattle.matter_rows.proofs.Collected.{entry-at-place}
use Rattle.matter_rows.proofs.Entries.{within}
use Rattle.firm_rows.specs.FirmSound.{FirmSound}
use Rattle.firm_rows.proofs.Joined.{own-put}
use Rattle.statement_csv.proofs.NamedFacts.{named-found}
use Rattle.statement_match.proofs.Waits.{by_waiting, none_there, row_of, the_one}
use Rattle.statement_match.proofs.Writing.{none_is_named_twice}

-- The rows of a matter.

no_head : (m n : ℕ) (e : Entry) (head : Option Head) → Contains (head_pairs m head) (m, EntryRow n e) → ⊥
no_head m n e head x4 = grind (arith, ints, nat_tests)

no_seat : (m n : ℕ) (e : Entry) (seats : List Seat) → Contains (seat_pairs m seats) (m, EntryRow n e) → ⊥
no_seat m n e [] (k, lt, is) = omega arith
no_seat m n e (seat ∷ seats) (zero, lt, is) = grind (arith, ints, nat_tests)
no_seat m n e (seat ∷ seats) (suc k, lt, is) = no_seat m n e seats (k, omega arith, is)

-- the place of an entry's row among the rows of entries, which are numbered from a number on
entry_place : (m first n : ℕ) (e : Entry) (es : List Entry) → Contains (entry_pairs m first es) (m, EntryRow n e)
    → (i : ℕ) × (first + i ≡ n) × (i < length es) × (e ≡ get_or es i e)
entry_place m first n e [] (k, lt, is) = absurd (omega arith)
entry_place m first n e (x ∷ es) (zero, lt, is) = grind (arith, ints, nat_tests)
entry_place m first n e (x ∷ es) (suc k, lt, is) =
    let more = entry_place m (first + 1) n e es (k, omega arith, is) in
    let number = more.1 in
    let below = more.2 in
    (suc more.0, omega (arith, number), omega (arith, below), more.3)

in_pairs : (m n : ℕ) (e : Entry) (rows : Rows) → Contains (pairs m rows) (m, EntryRow n e)
    → entry_at rows.entries n ≡ Some e
in_pairs m n e rows there =
    elim (Contains-append_cases (head_pairs m rows.head) _ (m, EntryRow n e) there) [
      | inl h ↦ absurd (no_head m n e rows.head h)
      | inr h ↦ elim (Contains-append_cases (seat_pairs m rows.seats) _ (m, EntryRow n e) h) [
        | inl g ↦ absurd (no_seat m n e rows.seats g)
        | inr g ↦
            let place = entry_place m 1 n e rows.entries g in
            let start = place.1 in
            let number : place.0 + 1 ≡ n = omega (arith, start) in
            ap (entry_at rows.entries) (sym number) ∙ entry-at-place rows.entries place.0 e place.2 place.3
      ]
    ]

-- The entry of a row.

-- the entry of a row of a sound firm is the one with its number among the matter's
pub entry_of_row : (firm : Firm) (m n : ℕ) (e : Entry) → FirmSound firm → Contains firm.rows (m, EntryRow n e)
    → entry_at (of m firm).entries n ≡ Some e
entry_of_row firm m n e sound there =
    let Has = λ (rows : List (ℕ × Row)). Contains rows (m, EntryRow n e) in
    let own : (m == m) ≡ true = grind (arith, nat_tests) in
    let placed = subst Has (sym (sound.in_order.rows m)) there in
    let kept = filter_has (λ (p : ℕ × Row). p.0 == m) (put m (of m firm) firm.rows) (m, EntryRow n e) own placed in
    in_pairs m n e (of m firm) (subst Has (own-put m (of m firm) firm.rows) kept)

-- and its number is one that an entry may have
entry_number : (firm : Firm) (m n : ℕ) (e : Entry) → FirmSound firm → entry_at (of m firm).entries n ≡ Some e
    → IsEntryNo n
entry_number firm m n e sound at = grind (arith, ints, nat_tests, within, of)

-- The entry that waits.

-- an entry waits once, under its reference
pub entry_once : (m n : ℕ) (e : Entry) (w v : Waiting) → Contains (entry_waiting m n e) w
    → Contains (entry_waiting m n e) v → (w ≡ v) × (w.reference ≡ reference_text m n)
entry_once m n e w v first second = grind (arith, ints, nat_tests, by_waiting, the_one)

-- the entry that waits, of a matter under its number
pub record IsOfEntry (firm : Firm) (w : Waiting) : Type 0 where
  pub matter : ℕ
  pub number : ℕ
  pub made : Entry
  pub is_matter : IsMatterNo matter
  pub is_number : IsEntryNo number
  pub there : entry_at (of matter firm).entries number ≡ Some made
  pub waits : Contains (entry_waiting matter number made) w
  pub is : w.reference ≡ reference_text matter number

of_row : (firm : Firm) (m : ℕ) (row : Row) (w : Waiting) → FirmSound firm → IsMatterNo m
    → Contains firm.rows (m, row) → Contains (row_waiting (m, row)) w → IsOfEntry firm w
of_row firm m (HeadRow head) w sound is_matter there waits = absurd (none_there w waits)
of_row firm m (SeatRow seat) w sound is_matter there waits = absurd (none_there w waits)
of_row firm m (EntryRow n e) w sound is_matter there waits =
    let at = entry_of_row firm m n e sound there in
    grind (arith, ints, nat_tests, entry_number, entry_once)

pub of_entry : (firm : Firm) (w : Waiting) → FirmSound firm → HasMatterNumbers firm
    → Contains (held_of firm).waiting w → IsOfEntry firm w
of_entry firm w sound numbers there =
    let found = row_of firm w there in
    of_row firm found.0.0 found.0.1 w sound (numbers found.0.0 found.0.1 found.1) found.1 found.2

-- No two have one reference.

-- one reference names one entry
pub same_named : (m n k j : ℕ) → IsMatterNo m → IsEntryNo n → IsMatterNo k → IsEntryNo j
    → reference_text m n ≡ reference_text k j → (m ≡ k) × (n ≡ j)
same_named m n k j m_is n_is k_is j_is same =
    let both : Some (named m n) ≡ Some (named k j) =
    sym (named-found m n m_is n_is) ∙ ap entry_named same ∙ named-found k j k_is j_is in
    grind (arith, ints, nat_tests, named)

pub wait_apart : WaitApart
wait_apart firm sound numbers w v w_there v_there same =
    let a = of_entry firm w sound numbers w_there in
    let b = of_entry firm v sound numbers v_there in
    let names = same_named a.matter a.number b.matter b.number a.is_matter a.is_number b.is_matter b.is_number
    (sym a.is ∙ same ∙ b.is) in
    let there = rw (names.0, names.1) at a.there in
    let made = same_Some a.made b.made (sym there ∙ b.there) in
    (entry_once b.matter b.number b.made w v (rw (names.0, names.1, made) at a.waits) b.waits).0

pub none_is_named_twice_by_firms : NoneIsNamedTwiceByFirms
none_is_named_twice_by_firms today firm lines i k d x reference sound numbers li lk differ filled there is =
    none_is_named_twice today (held_of firm) lines i k d x reference (wait_apart firm sound numbers) li lk differ filled
    there is

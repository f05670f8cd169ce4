-- Each movement of the journal is listed once.
use Rattle.firm_periods.proofs.Names.{◌≡◌, ℕ, ◌+◌, ◌-◌, Bool, true, false, cond, List, [], ◌∷◌, ◌++◌, map, Option, Some, None, refl, sym, ap, ◌∙◌, append-nil, arith, ◌==◌, ◌&&◌, filter, flat_map, nat_tests, map-append, flat_map-append, Head, Seat, Entry, Rows, Event, events_of, FirmLine, Row, HeadRow, SeatRow, EntryRow, of, pairs, head_pairs, seat_pairs, entry_pairs, passing, own-put}
use Rattle.std.proofs.lemmas.List.Elements.{filter-append}
use Rattle.matter_rows.specs.Rows.{entry_at}
use Rattle.matter_rows.specs.Events.{events_in}
use Rattle.matter_rows.specs.declared.entry.Entry.TheVariants as entry
use Rattle.matter_rows.specs.declared.deposit.Deposit.{Deposit}
use Rattle.matter_rows.specs.declared.payment.Payment.{Payment}
use Rattle.firm_rows.specs.Journal.{is_of_entry, is_of_firm, line_event}
use Rattle.firm_periods.specs.declared.moved.Moved.{Moved}
use Rattle.firm_periods.specs.declared.moved.NamedMove.{NamedMove}
use Rattle.firm_periods.specs.Named.{moves_of, event_in, event_named, client_of, named, named_in, own_named, AlwaysListedOnce}
use Rattle.firm_periods.proofs.Named.{moves-events}

filter-true : {A : Type 0} (xs : List A) → filter (λ x. true) xs ≡ xs
filter-true [] = refl
filter-true (x ∷ xs) = ap (λ ys. x ∷ ys) (filter-true xs)

entry_at-zero : (es : List Entry) → entry_at es 0 ≡ None
entry_at-zero [] = refl
entry_at-zero (e ∷ es) = entry_at-zero es

module _ (m n : ℕ) where
  abbrev mine : NamedMove → Bool
  mine v = is_of_entry m n v.owner

  abbrev told : List NamedMove → List Event
  told vs = map event_named (filter mine vs)

  -- what a row says of the entry
  abbrev row_events : ℕ × Row → List Event
  row_events (k, HeadRow h) = []
  row_events (k, SeatRow s) = []
  row_events (k, EntryRow j e) = cond (k == m && j == n) (events_of e) []

  deposit-told : (c : Option (List ℕ)) (k j : ℕ) (d : Deposit) (b : Bool) → (k == m && j == n) ≡ b → (vs : List Moved) → told (flat_map (named c k j (entry.Deposit d)) vs) ≡ cond b (map event_in vs) []
  deposit-told c k j d true is [] = refl
  deposit-told c k j d false is [] = refl
  deposit-told c k j d true is (v ∷ vs) = rw is (ap (λ es. event_in v ∷ es) (deposit-told c k j d true is vs))
  deposit-told c k j d false is (v ∷ vs) = rw is (deposit-told c k j d false is vs)

  payment-told : (c : Option (List ℕ)) (k j : ℕ) (p : Payment) (b : Bool) → (k == m && j == n) ≡ b → (vs : List Moved) → told (flat_map (named c k j (entry.Payment p)) vs) ≡ cond b (map event_in vs) []
  payment-told c k j p true is [] = refl
  payment-told c k j p false is [] = refl
  payment-told c k j p true is (v ∷ vs) = rw is (ap (λ es. event_in v ∷ es) (payment-told c k j p true is vs))
  payment-told c k j p false is (v ∷ vs) = rw is (payment-told c k j p false is vs)

  nothing : (b : Bool) → [] ≡ cond {A = List Event} b [] []
  nothing true = refl
  nothing false = refl

  entry-told : (c : Option (List ℕ)) (k j : ℕ) (e : Entry) → told (flat_map (named c k j e) (filter (λ v. true) (moves_of e))) ≡ cond (k == m && j == n) (events_of e) []
  unfolding events_of
  entry-told c k j (entry.Deposit d) =
      ap (λ (vs : List Moved). told (flat_map (named c k j (entry.Deposit d)) vs)) (filter-true (moves_of (entry.Deposit d)))
      ∙ (deposit-told c k j d (k == m && j == n) refl (moves_of (entry.Deposit d)) ∙ ap (λ (es : List Event). cond (k == m && j == n) es []) (moves-events (entry.Deposit d)))
  entry-told c k j (entry.Payment p) =
      ap (λ (vs : List Moved). told (flat_map (named c k j (entry.Payment p)) vs)) (filter-true (moves_of (entry.Payment p)))
      ∙ (payment-told c k j p (k == m && j == n) refl (moves_of (entry.Payment p)) ∙ ap (λ (es : List Event). cond (k == m && j == n) es []) (moves-events (entry.Payment p)))
  entry-told c k j (entry.Fee f) = nothing (k == m && j == n)
  entry-told c k j (entry.Claim q) = nothing (k == m && j == n)

  told-append : (xs ys : List NamedMove) → told (xs ++ ys) ≡ told xs ++ told ys
  told-append xs ys = ap (map event_named) (filter-append mine xs ys) ∙ map-append event_named (filter mine xs) (filter mine ys)

  rows-told : (c : Option (List ℕ)) (xs : List (ℕ × Row)) → told (named_in (λ e. filter (λ v. true) (moves_of e)) c xs) ≡ flat_map row_events xs
  rows-told c [] = refl
  rows-told c ((k, HeadRow h) ∷ xs) = rows-told (client_of h.holder) xs
  rows-told c ((k, SeatRow s) ∷ xs) = rows-told c xs
  rows-told c ((k, EntryRow j e) ∷ xs) =
      told-append (flat_map (named c k j e) (filter (λ v. true) (moves_of e))) (named_in (λ e. filter (λ v. true) (moves_of e)) c xs)
      ∙ (λ i. entry-told c k j e i ++ rows-told c xs i)

  -- the rows of other matters say nothing of it
  passed : (xs : List (ℕ × Row)) → flat_map row_events (passing (λ x. x == m) xs) ≡ flat_map row_events xs
  passed [] = refl
  passed ((k, HeadRow h) ∷ xs) = cases (k == m) (passed xs)
    where
      cases : (b : Bool) → flat_map row_events (passing (λ x. x == m) xs) ≡ flat_map row_events xs → flat_map row_events (cond b ((k, HeadRow h) ∷ passing (λ x. x == m) xs) (passing (λ x. x == m) xs)) ≡ flat_map row_events xs
      cases true more = more
      cases false more = more
  passed ((k, SeatRow s) ∷ xs) = cases (k == m) (passed xs)
    where
      cases : (b : Bool) → flat_map row_events (passing (λ x. x == m) xs) ≡ flat_map row_events xs → flat_map row_events (cond b ((k, SeatRow s) ∷ passing (λ x. x == m) xs) (passing (λ x. x == m) xs)) ≡ flat_map row_events xs
      cases true more = more
      cases false more = more
  passed ((k, EntryRow j e) ∷ xs) = cases (k == m) refl (passed xs)
    where
      cases : (b : Bool) → (k == m) ≡ b → flat_map row_events (passing (λ x. x == m) xs) ≡ flat_map row_events xs → flat_map row_events (cond b ((k, EntryRow j e) ∷ passing (λ x. x == m) xs) (passing (λ x. x == m) xs)) ≡ cond (b && j == n) (events_of e) [] ++ flat_map row_events xs
      cases true is more = (λ i. cond (is i && j == n) (events_of e) [] ++ more i)
      cases false is more = more

  -- the rows of the matter say what the entry says
  heads-none : (o : Option Head) → flat_map row_events (head_pairs m o) ≡ []
  heads-none None = refl
  heads-none (Some h) = refl

  seats-none : (ss : List Seat) (rest : List (ℕ × Row)) → flat_map row_events (seat_pairs m ss ++ rest) ≡ flat_map row_events rest
  seats-none [] rest = refl
  seats-none (s ∷ ss) rest = seats-none ss rest

  itself : (m == m) ≡ true
  itself = grind (arith, nat_tests)

  entries-at : (k : ℕ) (es : List Entry) → flat_map row_events (entry_pairs m (k + 1) es) ≡ events_in (entry_at es (n - k))
  entries-at k [] = refl
  entries-at k (e ∷ es) = cases (k + 1 == n) refl (n - k == 1) refl (entries-at (k + 1) es)
    where
      cases : (b : Bool) → (k + 1 == n) ≡ b → (d : Bool) → (n - k == 1) ≡ d → flat_map row_events (entry_pairs m ((k + 1) + 1) es) ≡ events_in (entry_at es (n - (k + 1))) → flat_map row_events (entry_pairs m (k + 1) (e ∷ es)) ≡ events_in (cond d (Some e) (entry_at es ((n - k) - 1)))
      cases true is true at more =
          let past : n - (k + 1) ≡ 0 = grind (arith, nat_tests) in
          let none : flat_map row_events (entry_pairs m ((k + 1) + 1) es) ≡ [] = more ∙ ap events_in (ap (entry_at es) past ∙ entry_at-zero es) in
          (λ i. cond (itself i && is i) (events_of e) [] ++ none i) ∙ append-nil (events_of e)
      cases false is false at more =
          let step : n - (k + 1) ≡ (n - k) - 1 = omega arith in
          (λ i. cond (itself i && is i) (events_of e) [] ++ flat_map row_events (entry_pairs m ((k + 1) + 1) es)) ∙ (more ∙ ap (λ j. events_in (entry_at es j)) step)
      cases true is false at more = absurd (grind (arith, nat_tests))
      cases false is true at more = absurd (grind (arith, nat_tests))

  pairs-at : (rows : Rows) → flat_map row_events (pairs m rows) ≡ events_in (entry_at rows.entries n)
  pairs-at rows =
      flat_map-append row_events (head_pairs m rows.head) (seat_pairs m rows.seats ++ entry_pairs m 1 rows.entries)
      ∙ ((λ i. heads-none rows.head i ++ seats-none rows.seats (entry_pairs m 1 rows.entries) i)
      ∙ (entries-at 0 rows.entries ∙ ap (λ j. events_in (entry_at rows.entries j)) (let e : n - 0 ≡ n = omega arith in e)))

  none-own : (ls : List FirmLine) → told (map own_named ls) ≡ []
  none-own [] = refl
  none-own (l ∷ ls) = none-own ls

-- The firm's own.

abbrev of_firm : NamedMove → Bool
of_firm v = is_of_firm v.owner

firm-deposit : (c : Option (List ℕ)) (k j : ℕ) (d : Deposit) (vs : List Moved) → filter of_firm (flat_map (named c k j (entry.Deposit d)) vs) ≡ []
firm-deposit c k j d [] = refl
firm-deposit c k j d (v ∷ vs) = firm-deposit c k j d vs

firm-payment : (c : Option (List ℕ)) (k j : ℕ) (p : Payment) (vs : List Moved) → filter of_firm (flat_map (named c k j (entry.Payment p)) vs) ≡ []
firm-payment c k j p [] = refl
firm-payment c k j p (v ∷ vs) = firm-payment c k j p vs

firm-entry : (c : Option (List ℕ)) (k j : ℕ) (e : Entry) → filter of_firm (flat_map (named c k j e) (filter (λ v. true) (moves_of e))) ≡ []
firm-entry c k j (entry.Deposit d) = firm-deposit c k j d (filter (λ v. true) (moves_of (entry.Deposit d)))
firm-entry c k j (entry.Payment p) = firm-payment c k j p (filter (λ v. true) (moves_of (entry.Payment p)))
firm-entry c k j (entry.Fee f) = refl
firm-entry c k j (entry.Claim q) = refl

firm-rows : (c : Option (List ℕ)) (xs : List (ℕ × Row)) → filter of_firm (named_in (λ e. filter (λ v. true) (moves_of e)) c xs) ≡ []
firm-rows c [] = refl
firm-rows c ((k, HeadRow h) ∷ xs) = firm-rows (client_of h.holder) xs
firm-rows c ((k, SeatRow s) ∷ xs) = firm-rows c xs
firm-rows c ((k, EntryRow j e) ∷ xs) = filter-append of_firm (flat_map (named c k j e) (filter (λ v. true) (moves_of e))) (named_in (λ e. filter (λ v. true) (moves_of e)) c xs) ∙ (λ i. firm-entry c k j e i ++ firm-rows c xs i)

firm-lines : (ls : List FirmLine) → map event_named (filter of_firm (map own_named ls)) ≡ map line_event ls
firm-lines [] = refl
firm-lines (l ∷ ls) = ap (λ es. line_event l ∷ es) (firm-lines ls)

-- All together.

pub listed-once : AlwaysListedOnce
listed-once firm sound = record {
  entries = λ m n.
      let own : passing (λ x. x == m) firm.rows ≡ pairs m (of m firm) = ap (passing (λ x. x == m)) (sym (sound.in_order.rows m)) ∙ own-put m (of m firm) firm.rows in
      told-append m n (named_in (λ e. filter (λ v. true) (moves_of e)) None firm.rows) (map own_named (filter (λ l. true) firm.firm_lines))
      ∙ ((λ i. rows-told m n None firm.rows i ++ none-own m n (filter (λ l. true) firm.firm_lines) i)
      ∙ (append-nil (flat_map (row_events m n) firm.rows)
      ∙ (sym (passed m n firm.rows)
      ∙ (ap (flat_map (row_events m n)) own
      ∙ (pairs-at m n (of m firm) ∙ sym (sound.events m n))))));
  own =
      ap (map event_named) (filter-append of_firm (named_in (λ e. filter (λ v. true) (moves_of e)) None firm.rows) (map own_named (filter (λ l. true) firm.firm_lines)))
      ∙ (ap (λ (vs : List NamedMove). map event_named (vs ++ filter of_firm (map own_named (filter (λ l. true) firm.firm_lines)))) (firm-rows None firm.rows)
      ∙ (firm-lines (filter (λ l. true) firm.firm_lines) ∙ (ap (map line_event) (filter-true firm.firm_lines) ∙ sym sound.own)));
}

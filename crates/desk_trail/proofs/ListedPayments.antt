-- The payments that are listed in a period are those issued in it, each once.
use Rattle.std.proofs.Common.{◌≡◌, ℕ, zero, suc, ◌+◌, ◌-◌, ◌≤◌, Bool, true, false, cond, ◌&&◌, ◌==◌, List, [], ◌∷◌, ◌++◌, length, map, Option, Some, None, refl, sym, ap, ◌∙◌, subst, append-nil, arith, Contains, filter, flat_map}
use Rattle.std.proofs.lemmas.Bool.Decides.{nat_tests}
use Rattle.std.proofs.lemmas.Grind.{flat_map-append}
use Rattle.std.proofs.lemmas.List.{length-map, nil_from_length}
use Rattle.std.proofs.lemmas.List.Elements.{filter-append}
use Rattle.trust_base.specs.Periods.{Span}
use Rattle.matter_rows.specs.declared.entry.Entry.{Entry}
use Rattle.matter_rows.specs.declared.entry.Entry.TheVariants as entry
use Rattle.matter_rows.specs.declared.head.Head.{Head}
use Rattle.matter_rows.specs.declared.payment.Payment.{Payment}
use Rattle.matter_rows.specs.declared.payment.PaymentState.{PaymentState}
use Rattle.matter_rows.specs.declared.payment.PaymentState.TheVariants as payment
use Rattle.matter_rows.specs.declared.seat.Seat.{Seat}
use Rattle.matter_rows.specs.Rows.{Rows, entry_at}
use Rattle.trail_laws.specs.Signed.{days_of_issue, issue_days}
use Rattle.firm_rows.proofs.Joined.{own-put, passing}
use Rattle.firm_rows.specs.declared.matter_act.MatterAct.{MatterAct}
use Rattle.firm_rows.specs.Firm.{EntryRow, Firm, HeadRow, Row, SeatRow, entry_pairs, head_pairs, of, pairs, seat_pairs}
use Rattle.firm_rows.specs.FirmSound.{FirmSound}
use Rattle.firm_figures.specs.Doubles.{in_order, put_in_order}
use Rattle.firm_periods.specs.Approvals.{approvals, approved_by, approver_in, is_in_period, is_issued_earlier, issued_in_row, issued_of_entry, issued_payment}
use Rattle.firm_periods.specs.declared.approvals_sink.IssuedPayment.{IssuedPayment}
use Rattle.statement_lines.proofs.Members.{filter_from, filter_has}
use Rattle.desk_trail.specs.Approvers.{IssuesAreListed, is_of_payment}

-- Of a list that is put in order at most one item passes a test: then the same one still does.

module _ {X : Type 0} (lt : X → X → Bool) (p : X → Bool) where
  put-another : (x : X) (ys : List X) → p x ≡ false → filter p (put_in_order lt x ys) ≡ filter p ys
  put-another x [] fails = rw fails refl
  put-another x (y ∷ ys) fails = cases (lt y x) (put-another x ys fails)
    where
      cases : (b : Bool) → filter p (put_in_order lt x ys) ≡ filter p ys → filter p (cond b (y ∷ put_in_order lt x ys) (x ∷ y ∷ ys)) ≡ filter p (y ∷ ys)
      cases true more = ap (λ zs. cond (p y) (y ∷ zs) zs) more
      cases false more = rw fails refl

  put-only : (x : X) (ys : List X) → filter p ys ≡ [] → filter p (put_in_order lt x ys) ≡ filter p (x ∷ [])
  put-only x [] none = refl
  put-only x (y ∷ ys) none = cases (lt y x) (p y) refl none (put-only x ys)
    where
      cases : (b c : Bool) → p y ≡ c → cond c (y ∷ filter p ys) (filter p ys) ≡ [] → (filter p ys ≡ [] → filter p (put_in_order lt x ys) ≡ filter p (x ∷ [])) → filter p (cond b (y ∷ put_in_order lt x ys) (x ∷ y ∷ ys)) ≡ filter p (x ∷ [])
      cases b true is none more = absurd (cc)
      cases true false is none more = rw is (more none)
      cases false false is none more = rw is (ap (λ zs. cond (p x) (x ∷ zs) zs) none)

  order-one : (xs : List X) → length (filter p xs) ≤ 1 → filter p (in_order lt xs) ≡ filter p xs
  order-one [] few = refl
  order-one (x ∷ xs) few = cases (p x) refl few (order-one xs)
    where
      cases : (b : Bool) → p x ≡ b → length (cond b (x ∷ filter p xs) (filter p xs)) ≤ 1 → (length (filter p xs) ≤ 1 → filter p (in_order lt xs) ≡ filter p xs) → filter p (put_in_order lt x (in_order lt xs)) ≡ filter p (x ∷ xs)
      cases true is few more =
          let none : filter p xs ≡ [] = nil_from_length (filter p xs) (omega (arith, few)) in
          let least : length (filter p xs) ≤ 1 = omega (arith, few) in
          put-only x (in_order lt xs) (more least ∙ none) ∙ sym (ap (λ zs. cond (p x) (x ∷ zs) zs) none)
      cases false is few more = put-another x (in_order lt xs) is ∙ (more few ∙ sym (ap (λ b. cond b (x ∷ filter p xs) (filter p xs)) is))

-- The lines of one entry.

module _ (s : Span) (m n : ℕ) where
  abbrev mine : IssuedPayment → Bool
  mine = is_of_payment m n

  abbrev lines_of : Option Entry → List IssuedPayment
  lines_of None = []
  lines_of (Some e) = issued_of_entry s m n e

  -- what a row says of the entry
  abbrev row_lines : ℕ × Row → List IssuedPayment
  row_lines (k, HeadRow h) = []
  row_lines (k, SeatRow seat) = []
  row_lines (k, EntryRow j e) = cond (k == m && j == n) (issued_of_entry s k j e) []

  payment-lines : (k j : ℕ) (p : Payment) (b : Bool) → (k == m && j == n) ≡ b → (days : List ℕ) → filter mine (map (issued_payment k j p) days) ≡ cond b (map (issued_payment k j p) days) []
  payment-lines k j p true is [] = refl
  payment-lines k j p false is [] = refl
  payment-lines k j p true is (day ∷ days) = rw is (ap (λ vs. issued_payment k j p day ∷ vs) (payment-lines k j p true is days))
  payment-lines k j p false is (day ∷ days) = rw is (payment-lines k j p false is days)

  nothing : (b : Bool) → [] ≡ cond {A = List IssuedPayment} b [] []
  nothing true = refl
  nothing false = refl

  entry-lines : (k j : ℕ) (e : Entry) → filter mine (issued_of_entry s k j e) ≡ cond (k == m && j == n) (issued_of_entry s k j e) []
  entry-lines k j (entry.Deposit d) = nothing (k == m && j == n)
  entry-lines k j (entry.Payment p) = payment-lines k j p (k == m && j == n) refl (filter (is_in_period s) (issue_days p.state))
  entry-lines k j (entry.Fee f) = nothing (k == m && j == n)
  entry-lines k j (entry.Claim c) = nothing (k == m && j == n)

  rows-lines : (xs : List (ℕ × Row)) → filter mine (flat_map (issued_in_row s) xs) ≡ flat_map row_lines xs
  rows-lines [] = refl
  rows-lines ((k, HeadRow h) ∷ xs) = rows-lines xs
  rows-lines ((k, SeatRow seat) ∷ xs) = rows-lines xs
  rows-lines ((k, EntryRow j e) ∷ xs) =
      filter-append mine (issued_of_entry s k j e) (flat_map (issued_in_row s) xs)
      ∙ (λ i. entry-lines k j e i ++ rows-lines xs i)

  -- the rows of other matters say nothing of it
  passed : (xs : List (ℕ × Row)) → flat_map row_lines (passing (λ x. x == m) xs) ≡ flat_map row_lines xs
  passed [] = refl
  passed ((k, HeadRow h) ∷ xs) = cases (k == m) (passed xs)
    where
      cases : (b : Bool) → flat_map row_lines (passing (λ x. x == m) xs) ≡ flat_map row_lines xs → flat_map row_lines (cond b ((k, HeadRow h) ∷ passing (λ x. x == m) xs) (passing (λ x. x == m) xs)) ≡ flat_map row_lines xs
      cases true more = more
      cases false more = more
  passed ((k, SeatRow seat) ∷ xs) = cases (k == m) (passed xs)
    where
      cases : (b : Bool) → flat_map row_lines (passing (λ x. x == m) xs) ≡ flat_map row_lines xs → flat_map row_lines (cond b ((k, SeatRow seat) ∷ passing (λ x. x == m) xs) (passing (λ x. x == m) xs)) ≡ flat_map row_lines xs
      cases true more = more
      cases false more = more
  passed ((k, EntryRow j e) ∷ xs) = cases (k == m) refl (passed xs)
    where
      cases : (b : Bool) → (k == m) ≡ b → flat_map row_lines (passing (λ x. x == m) xs) ≡ flat_map row_lines xs → flat_map row_lines (cond b ((k, EntryRow j e) ∷ passing (λ x. x == m) xs) (passing (λ x. x == m) xs)) ≡ cond (b && j == n) (issued_of_entry s k j e) [] ++ flat_map row_lines xs
      cases true is more = (λ i. cond (is i && j == n) (issued_of_entry s k j e) [] ++ more i)
      cases false is more = more

  -- the rows of the matter say what the entry says
  heads-none : (o : Option Head) → flat_map row_lines (head_pairs m o) ≡ []
  heads-none None = refl
  heads-none (Some h) = refl

  seats-none : (seats : List Seat) (rest : List (ℕ × Row)) → flat_map row_lines (seat_pairs m seats ++ rest) ≡ flat_map row_lines rest
  seats-none [] rest = refl
  seats-none (seat ∷ seats) rest = seats-none seats rest

  itself : (m == m) ≡ true
  itself = grind (arith, nat_tests)

  entry_at-zero : (es : List Entry) → entry_at es 0 ≡ None
  entry_at-zero [] = refl
  entry_at-zero (e ∷ es) = entry_at-zero es

  entries-at : (k : ℕ) (es : List Entry) → flat_map row_lines (entry_pairs m (k + 1) es) ≡ lines_of (entry_at es (n - k))
  entries-at k [] = refl
  entries-at k (e ∷ es) = cases (k + 1 == n) refl (n - k == 1) refl (entries-at (k + 1) es)
    where
      cases : (b : Bool) → (k + 1 == n) ≡ b → (d : Bool) → (n - k == 1) ≡ d → flat_map row_lines (entry_pairs m ((k + 1) + 1) es) ≡ lines_of (entry_at es (n - (k + 1))) → flat_map row_lines (entry_pairs m (k + 1) (e ∷ es)) ≡ lines_of (cond d (Some e) (entry_at es ((n - k) - 1)))
      cases true is true at more =
          let number : k + 1 ≡ n = grind (arith, nat_tests) in
          let past : n - (k + 1) ≡ 0 = omega (arith, number) in
          let none : flat_map row_lines (entry_pairs m ((k + 1) + 1) es) ≡ [] = more ∙ ap lines_of (ap (entry_at es) past ∙ entry_at-zero es) in
          (λ i. cond (itself i && is i) (issued_of_entry s m (number i) e) [] ++ none i) ∙ append-nil (issued_of_entry s m n e)
      cases false is false at more =
          let step : n - (k + 1) ≡ (n - k) - 1 = omega arith in
          (λ i. cond (itself i && is i) (issued_of_entry s m (k + 1) e) [] ++ flat_map row_lines (entry_pairs m ((k + 1) + 1) es)) ∙ (more ∙ ap (λ j. lines_of (entry_at es j)) step)
      cases true is false at more = absurd (grind (arith, nat_tests))
      cases false is true at more = absurd (grind (arith, nat_tests))

  pairs-at : (rows : Rows) → flat_map row_lines (pairs m rows) ≡ lines_of (entry_at rows.entries n)
  pairs-at rows =
      flat_map-append row_lines (head_pairs m rows.head) (seat_pairs m rows.seats ++ entry_pairs m 1 rows.entries)
      ∙ ((λ i. heads-none rows.head i ++ seats-none rows.seats (entry_pairs m 1 rows.entries) i)
      ∙ (entries-at 0 rows.entries ∙ ap (λ j. lines_of (entry_at rows.entries j)) (let e : n - 0 ≡ n = omega arith in e)))

  firm-lines : (firm : Firm) → FirmSound firm → filter mine (flat_map (issued_in_row s) firm.rows) ≡ lines_of (entry_at (of m firm).entries n)
  firm-lines firm sound =
      let own : passing (λ x. x == m) firm.rows ≡ pairs m (of m firm) = ap (passing (λ x. x == m)) (sym (sound.in_order.rows m)) ∙ own-put m (of m firm) firm.rows in
      rows-lines firm.rows ∙ (sym (passed firm.rows) ∙ (ap (flat_map row_lines) own ∙ pairs-at (of m firm)))

  -- An entry has at most one day of issue, so at most one line.

  one : (p : Payment) (day : ℕ) (b : Bool) → length (map (issued_payment m n p) (cond b (day ∷ []) [])) ≤ 1
  one p day true = omega arith
  one p day false = omega arith

  payment-one : (p : Payment) (state : PaymentState) → length (map (issued_payment m n p) (filter (is_in_period s) (issue_days state))) ≤ 1
  payment-one p payment.Proposed = omega arith
  payment-one p (payment.Issued day) = one p day (is_in_period s day)
  payment-one p (payment.Cleared c) = one p c.issued (is_in_period s c.issued)
  payment-one p (payment.Voided v) = one p v.issued (is_in_period s v.issued)
  payment-one p payment.Declined = omega arith

  at-most-one : (o : Option Entry) → length (lines_of o) ≤ 1
  at-most-one None = omega arith
  at-most-one (Some (entry.Deposit d)) = omega arith
  at-most-one (Some (entry.Payment p)) = payment-one p p.state
  at-most-one (Some (entry.Fee f)) = omega arith
  at-most-one (Some (entry.Claim c)) = omega arith

  -- With who approved it, and in order.

  approved-lines : (acts : List MatterAct) (vs : List IssuedPayment) → filter mine (map (approved_by acts) vs) ≡ map (approved_by acts) (filter mine vs)
  approved-lines acts [] = refl
  approved-lines acts (v ∷ vs) = cases (mine v) (approved-lines acts vs)
    where
      cases : (b : Bool) → filter mine (map (approved_by acts) vs) ≡ map (approved_by acts) (filter mine vs) → cond b (approved_by acts v ∷ filter mine (map (approved_by acts) vs)) (filter mine (map (approved_by acts) vs)) ≡ map (approved_by acts) (cond b (v ∷ filter mine vs) (filter mine vs))
      cases true more = ap (λ ws. approved_by acts v ∷ ws) more
      cases false more = more

  -- the lines in the order of the rows, and those of the entry
  abbrev unordered : Firm → List IssuedPayment
  unordered firm = map (approved_by firm.acts) (flat_map (issued_in_row s) firm.rows)

  abbrev entry_lines : Firm → List IssuedPayment
  entry_lines firm = lines_of (entry_at (of m firm).entries n)

  listed-at : (firm : Firm) → FirmSound firm → filter mine (approvals s firm) ≡ map (approved_by firm.acts) (entry_lines firm)
  listed-at firm sound = order-one is_issued_earlier mine (unordered firm) (subst (λ (vs : List IssuedPayment). length vs ≤ 1) (sym is) few) ∙ is
    where
      is : filter mine (unordered firm) ≡ map (approved_by firm.acts) (entry_lines firm)
      is = approved-lines firm.acts (flat_map (issued_in_row s) firm.rows) ∙ ap (map (approved_by firm.acts)) (firm-lines firm sound)

      few : length (map (approved_by firm.acts) (entry_lines firm)) ≤ 1
      few = let long = length-map (entry_lines firm) (approved_by firm.acts) in let most = at-most-one (entry_at (of m firm).entries n) in omega (arith, long, most)

  -- Its days.

  payment-days : (acts : List MatterAct) (p : Payment) (days : List ℕ) → map (λ (v : IssuedPayment). v.issued) (map (approved_by acts) (map (issued_payment m n p) days)) ≡ days
  payment-days acts p [] = refl
  payment-days acts p (day ∷ days) = ap (λ ds. day ∷ ds) (payment-days acts p days)

  lines-days : (acts : List MatterAct) (o : Option Entry) → map (λ (v : IssuedPayment). v.issued) (map (approved_by acts) (lines_of o)) ≡ filter (is_in_period s) (days_of_issue o)
  lines-days acts None = refl
  lines-days acts (Some (entry.Deposit d)) = refl
  lines-days acts (Some (entry.Payment p)) = payment-days acts p (filter (is_in_period s) (issue_days p.state))
  lines-days acts (Some (entry.Fee f)) = refl
  lines-days acts (Some (entry.Claim c)) = refl

  -- What stands in its line.

  record StandsAt (acts : List MatterAct) (o : Option Entry) (v : IssuedPayment) : Type 0 where
    payment : o ≡ Some (entry.Payment v.payment)
    issued : days_of_issue o ≡ v.issued ∷ []
    approver : v.approver ≡ approver_in acts m n

  only-day : (d day : ℕ) → Contains (d ∷ []) day → d ∷ [] ≡ day ∷ []
  only-day d day (zero, lt, is) = ap (λ x. x ∷ []) is
  only-day d day (suc k, lt, is) = absurd (omega (arith, lt))

  one-day : (state : PaymentState) (day : ℕ) → Contains (issue_days state) day → issue_days state ≡ day ∷ []
  one-day payment.Proposed day (k, lt, is) = absurd (omega (arith, lt))
  one-day (payment.Issued d) day there = only-day d day there
  one-day (payment.Cleared c) day there = only-day c.issued day there
  one-day (payment.Voided v) day there = only-day v.issued day there
  one-day payment.Declined day (k, lt, is) = absurd (omega (arith, lt))

  payment-line : (acts : List MatterAct) (p : Payment) (days : List ℕ) (v : IssuedPayment) → Contains (map (approved_by acts) (map (issued_payment m n p) days)) v
      → (p ≡ v.payment) × Contains days v.issued × (v.approver ≡ approver_in acts m n)
  payment-line acts p [] v (k, lt, is) = absurd (omega (arith, lt))
  payment-line acts p (day ∷ days) v (zero, lt, is) =
      (ap (λ (w : IssuedPayment). w.payment) is, (zero, omega arith, ap (λ (w : IssuedPayment). w.issued) is), ap (λ (w : IssuedPayment). w.approver) (sym is))
  payment-line acts p (day ∷ days) v (suc k, lt, is) =
      let more = payment-line acts p days v (k, omega (arith, lt), is) in
      let below = more.1.1 in
      (more.0, (suc more.1.0, omega (arith, below), more.1.2), more.2)

  line-at : (acts : List MatterAct) (o : Option Entry) (v : IssuedPayment) → Contains (map (approved_by acts) (lines_of o)) v → StandsAt acts o v
  line-at acts None v (k, lt, is) = absurd (omega (arith, lt))
  line-at acts (Some (entry.Deposit d)) v (k, lt, is) = absurd (omega (arith, lt))
  line-at acts (Some (entry.Payment p)) v there =
      let stands = payment-line acts p (filter (is_in_period s) (issue_days p.state)) v there in
      let day = filter_from (is_in_period s) (issue_days p.state) v.issued stands.1 in
      record {
        payment = ap (λ (x : Payment). Some (entry.Payment x)) stands.0;
        issued = one-day p.state v.issued day.1;
        approver = stands.2;
      }
  line-at acts (Some (entry.Fee f)) v (k, lt, is) = absurd (omega (arith, lt))
  line-at acts (Some (entry.Claim c)) v (k, lt, is) = absurd (omega (arith, lt))

-- All together.

-- a line has the payment of its entry, its one day of issue, and who approved it
pub record IsOfEntry (firm : Firm) (v : IssuedPayment) : Type 0 where
  pub payment : entry_at (of v.matter firm).entries v.number ≡ Some (entry.Payment v.payment)
  pub issued : days_of_issue (entry_at (of v.matter firm).entries v.number) ≡ v.issued ∷ []
  pub approver : v.approver ≡ approver_in firm.acts v.matter v.number

pub of-entry : (s : Span) (firm : Firm) (v : IssuedPayment) → FirmSound firm → Contains (approvals s firm) v → IsOfEntry firm v
of-entry s firm v sound there = record { payment = stands.payment; issued = stands.issued; approver = stands.approver }
  where
    own : is_of_payment v.matter v.number v ≡ true
    own = grind (arith, nat_tests)

    stands : StandsAt s v.matter v.number firm.acts (entry_at (of v.matter firm).entries v.number) v
    stands =
        line-at s v.matter v.number firm.acts (entry_at (of v.matter firm).entries v.number) v
        (subst (λ (vs : List IssuedPayment). Contains vs v) (listed-at s v.matter v.number firm sound)
        (filter_has (is_of_payment v.matter v.number) (approvals s firm) v own there))

pub issues-are_listed : IssuesAreListed
issues-are_listed s firm sound = record {
  days = λ m n. ap (map (λ (v : IssuedPayment). v.issued)) (listed-at s m n firm sound) ∙ lines-days s m n firm.acts (entry_at (of m firm).entries n);
  payments = λ v there. (of-entry s firm v sound there).payment;
}

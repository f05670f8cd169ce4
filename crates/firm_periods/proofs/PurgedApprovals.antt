-- A purge changes no approvals of a period in which no purged matter was open.
use Rattle.firm_periods.proofs.Names.{◌≡◌, ℕ, suc, ◌+◌, Bool, true, false, cond, List, [], ◌∷◌, ◌++◌, Option, Some, None, refl, sym, ap, ◌∙◌, arith, nat_lt, flat_map, nat_tests, AllByRecursion, all-map, Covered, IsBy, days_of, Head, Seat, Entry, Rows, Edit, changed_by, Row, HeadRow, SeatRow, EntryRow, Firm, acted, acts_without, after_change, after_edit, purged_by, with_acts, of, pairs, put, head_pairs, seat_pairs, entry_pairs, FirmSound, IsPurge, passing, flat_map-append, in_order}
use Rattle.std.proofs.Common.{inl, inr, fold, map}
use Rattle.std.proofs.lemmas.Bool.{cases_Bool}
use Rattle.std.specs.Prelude.{◌==◌, ◌≢◌}
use Rattle.trust_base.specs.Periods.{Span}
use Rattle.matter_rows.specs.declared.act.Caller.{Caller}
use Rattle.matter_rows.specs.declared.entry.Entry.TheVariants as entry
use Rattle.matter_rows.specs.declared.payment.Payment.{Payment}
use Rattle.trust_matter.specs.edit.Edit.TheVariants as edit
use Rattle.firm_rows.specs.declared.matter_act.MatterAct.{MatterAct}
use Rattle.firm_figures.proofs.OpenedAfter.{IsLater}
use Rattle.firm_periods.specs.declared.approvals_sink.IssuedPayment.{IssuedPayment}
use Rattle.firm_periods.specs.Approvals.{PurgeChangesNoApprovalLeft, approved_by, approver_in, approves_in, is_issued_earlier, issued_in_row, issued_of_entry, issued_payment}
use Rattle.firm_periods.proofs.PurgedMoves.{apart-within, flat-same, less-apart, more-apart, none-apart, passes}

-- Who approved a payment of another matter.

abbrev told : ℕ → ℕ → Option Caller → List MatterAct → Option Caller
told k n who acts = fold (λ w (a : MatterAct). cond (approves_in k n a) (Some a.act.caller) w) who acts

not-approved : (m k n : ℕ) (a : MatterAct) → k ≢ m → (a.matter == m) ≡ true → approves_in k n a ≡ false
not-approved m k n a apart own = grind (arith, nat_tests)

told-without : (m k n : ℕ) (who : Option Caller) (acts : List MatterAct) → k ≢ m
    → told k n who (acts_without m acts) ≡ told k n who acts
told-without m k n who [] apart = refl
told-without m k n who (a ∷ acts) apart = elim (cases_Bool (a.matter == m)) [
  | inl own ↦
      rw own (told-without m k n who acts apart
      ∙ ap (λ b. told k n (cond b (Some a.act.caller) who) acts) (sym (not-approved m k n a apart own)))
  | inr other ↦ rw other (told-without m k n (cond (approves_in k n a) (Some a.act.caller) who) acts apart)
]

-- The payments of one row, each with who approved it.

module _ (s : Span) where
  abbrev row_approved : List MatterAct → ℕ × Row → List IssuedPayment
  row_approved acts q = map (approved_by acts) (issued_in_row s q)

  days-same : (m k n : ℕ) (p : Payment) (acts : List MatterAct) (days : List ℕ) → k ≢ m
      → map (approved_by (acts_without m acts)) (map (issued_payment k n p) days)
      ≡ map (approved_by acts) (map (issued_payment k n p) days)
  days-same m k n p acts [] apart = refl
  days-same m k n p acts (d ∷ days) apart = λ i.
      record (issued_payment k n p d) { approver = told-without m k n None acts apart i }
      ∷ days-same m k n p acts days apart i

  row-same : (m : ℕ) (acts : List MatterAct) (q : ℕ × Row) → q.0 ≢ m
      → row_approved (acts_without m acts) q ≡ row_approved acts q
  row-same m acts (k, HeadRow h) apart = refl
  row-same m acts (k, SeatRow t) apart = refl
  row-same m acts (k, EntryRow n (entry.Deposit d)) apart = refl
  row-same m acts (k, EntryRow n (entry.Payment p)) apart = days-same m k n p acts _ apart
  row-same m acts (k, EntryRow n (entry.Fee f)) apart = refl
  row-same m acts (k, EntryRow n (entry.Claim c)) apart = refl

  -- The rows of a matter that issued nothing in the period.

  abbrev IsIdle : Entry → Type 0
  IsIdle e = (m n : ℕ) → issued_of_entry s m n e ≡ []

  idle-before : (k : ℕ) → s.from ≡ suc k → (e : Entry) → IsBy k e → IsIdle e
  unfolding days_of
  idle-before k from (entry.Deposit d) is m n = refl
  idle-before k from (entry.Payment p) is m n = grind (arith, nat_tests)
  idle-before k from (entry.Fee f) is m n = refl
  idle-before k from (entry.Claim c) is m n = refl

  idle-later : (e : Entry) → IsLater s.to e → IsIdle e
  idle-later (entry.Deposit d) is m n = refl
  idle-later (entry.Payment p) is m n = grind (arith, nat_tests, is.made, is.rising)
  idle-later (entry.Fee f) is m n = refl
  idle-later (entry.Claim c) is m n = refl

  module _ (acts : List MatterAct) where
    abbrev lines : List (ℕ × Row) → List IssuedPayment
    lines xs = flat_map (row_approved acts) xs

    head-none : (m : ℕ) (o : Option Head) (rest : List (ℕ × Row)) → lines (head_pairs m o ++ rest) ≡ lines rest
    head-none m None rest = refl
    head-none m (Some h) rest = refl

    seats-none : (m : ℕ) (ss : List Seat) (rest : List (ℕ × Row)) → lines (seat_pairs m ss ++ rest) ≡ lines rest
    seats-none m [] rest = refl
    seats-none m (t ∷ ss) rest = seats-none m ss rest

    entries-none : (m n : ℕ) (es : List Entry) → AllByRecursion IsIdle es → lines (entry_pairs m n es) ≡ []
    entries-none m n [] none = refl
    entries-none m n (e ∷ es) none = λ i. map (approved_by acts) (none.0 m n i) ++ entries-none m (n + 1) es none.1 i

    pairs-none : (m : ℕ) (rows : Rows) → AllByRecursion IsIdle rows.entries → lines (pairs m rows) ≡ []
    pairs-none m rows none =
        head-none m rows.head (seat_pairs m rows.seats ++ entry_pairs m 1 rows.entries)
        ∙ (seats-none m rows.seats (entry_pairs m 1 rows.entries) ∙ entries-none m 1 rows.entries none)

    put-none : (m : ℕ) (rows : Rows) (xs : List (ℕ × Row)) → AllByRecursion IsIdle rows.entries
        → lines (put m rows xs) ≡ lines (passing (λ x. nat_lt x m) xs) ++ lines (passing (λ x. nat_lt m x) xs)
    put-none m rows xs none =
        flat_map-append (row_approved acts) (passing (λ x. nat_lt x m) xs) (pairs m rows ++ passing (λ x. nat_lt m x) xs)
        ∙ ap (λ vs. lines (passing (λ x. nat_lt x m) xs) ++ vs)
        (flat_map-append (row_approved acts) (pairs m rows) (passing (λ x. nat_lt m x) xs)
        ∙ ap (λ vs. vs ++ lines (passing (λ x. nat_lt m x) xs)) (pairs-none m rows none))

  -- of all rows at once, or of each
  map-flat : (acts : List MatterAct) (xs : List (ℕ × Row))
      → map (approved_by acts) (flat_map (issued_in_row s) xs) ≡ lines acts xs
  map-flat acts [] = refl
  map-flat acts (q ∷ xs) = map-both (issued_in_row s q) ∙ ap (λ vs. row_approved acts q ++ vs) (map-flat acts xs)
    where
      map-both : (vs : List IssuedPayment)
          → map (approved_by acts) (vs ++ flat_map (issued_in_row s) xs)
          ≡ map (approved_by acts) vs ++ map (approved_by acts) (flat_map (issued_in_row s) xs)
      map-both [] = refl
      map-both (v ∷ vs) = ap (λ us. approved_by acts v ∷ us) (map-both vs)

  module _ (m day last : ℕ) (firm : Firm) (sound : FirmSound firm) (none : AllByRecursion IsIdle (of m firm).entries) where
    abbrev left : Rows
    left = changed_by (edit.Purge day) last (of m firm)

    abbrev fewer : List MatterAct
    fewer = acts_without m firm.acts

    others : (t : ℕ → Bool) → ((a : ℕ) → t a ≡ true → a ≢ m)
        → lines fewer (passing t firm.rows) ≡ lines firm.acts (passing t firm.rows)
    others t apart =
        flat-same (row_approved fewer) (row_approved firm.acts) (passing t firm.rows)
        (all-map (λ q. t q.0 ≡ true) (λ q. row_approved fewer q ≡ row_approved firm.acts q) (passing t firm.rows)
        (λ q is. row-same m firm.acts q (apart q.0 is)) (passes t firm.rows))

    pub same-lines : lines fewer (purged_by m left firm).rows ≡ lines firm.acts firm.rows
    same-lines =
        put-none fewer m left firm.rows tt
        ∙ ((λ i. others (λ x. nat_lt x m) (λ a is. less-apart a m is) i
        ++ others (λ x. nat_lt m x) (λ a is. more-apart a m is) i)
        ∙ (sym (put-none firm.acts m (of m firm) firm.rows none) ∙ ap (lines firm.acts) (sound.in_order.rows m)))

pub approvals-left : Covered → PurgeChangesNoApprovalLeft
approvals-left law s m change firm sound purge whole =
    let left : Rows = changed_by (edit.Purge purge.day) change.last (of m firm) in
    let same : after_change m change firm ≡ with_acts (acts_without m firm.acts) (purged_by m left firm) =
    ap (λ (e : Edit). acted m e change.act (after_edit m e change.last firm)) purge.clears in
    let none = none-apart s (IsIdle s) (of m firm) (sound.matters m) (apart-within s m change firm purge whole)
    (idle-before s) (idle-later s) in
    ap (λ (f : Firm). in_order is_issued_earlier (map (approved_by f.acts) (flat_map (issued_in_row s) f.rows))) same
    ∙ ap (in_order is_issued_earlier)
    (map-flat s (acts_without m firm.acts) (purged_by m left firm).rows
    ∙ (same-lines s m purge.day change.last firm sound none ∙ sym (map-flat s firm.acts firm.rows)))

-- Purging a matter changes no list of clients as of a day on which it was not open.
use Rattle.figure_laws.proofs.Names.{◌≡◌, ℕ, ◌+◌, ◌≤◌, Bool, true, false, not, List, [], ◌∷◌, ◌++◌, map, Option, Some, None, refl, sym, ap, ◌∙◌, arith, cond, ◌&&◌, nat_lt, nat_le, filter, nat_tests, Head, Seat, Entry, Rows, purged_head, Covered, Edit, changed_by, Row, HeadRow, SeatRow, EntryRow, Firm, FirmSound, acted, acts_without, after_change, after_edit, purged_by, with_acts, of, pairs, head_pairs, seat_pairs, entry_pairs, put, IsClosedBy, IsOpenedAfter, Sound, is_by, sum_of}
use Rattle.std.proofs.Common.{ℤ, pos, inl, inr, ◌⊎◌, ◌<◌}
use Rattle.trust_matter.specs.edit.Edit.TheVariants as edit
use Rattle.firm_rows.proofs.Changed.{each-matter, of-purged_by, of_other-purged_by}
use Rattle.firm_figures.specs.Clients.{client_in, client_line, client_lines, is_listed, ledger_as_of, open_heads}
use Rattle.figure_laws.specs.Purging.{PurgeChangesNoClientLeft}
use Rattle.firm_figures.proofs.OneMatter.{as-shares}
use Rattle.figure_laws.proofs.PurgedFigures.{closed-adds}
use Rattle.firm_figures.proofs.ClosedBy.{apart-left}
use Rattle.firm_figures.proofs.OpenedAfter.{moves-none, opened-later}
use Rattle.firm_figures.proofs.Shares.{ledger_by}

module _ (p : ℕ) where
  open-append : (xs ys : List (ℕ × Row)) → open_heads p (xs ++ ys) ≡ open_heads p xs ++ open_heads p ys
  open-append [] ys = refl
  open-append ((m, HeadRow h) ∷ xs) ys = cases (is_listed p h) (open-append xs ys)
    where
      cases : (b : Bool) → open_heads p (xs ++ ys) ≡ open_heads p xs ++ open_heads p ys → cond b ((m, h) ∷ open_heads p (xs ++ ys)) (open_heads p (xs ++ ys)) ≡ cond b ((m, h) ∷ open_heads p xs) (open_heads p xs) ++ open_heads p ys
      cases true more = ap (λ hs. (m, h) ∷ hs) more
      cases false more = more
  open-append ((m, SeatRow s) ∷ xs) ys = open-append xs ys
  open-append ((m, EntryRow n e) ∷ xs) ys = open-append xs ys

  entries-none : (m n : ℕ) (es : List Entry) → open_heads p (entry_pairs m n es) ≡ []
  entries-none m n [] = refl
  entries-none m n (e ∷ es) = entries-none m (n + 1) es

  seats-none : (m : ℕ) (ss : List Seat) (es : List Entry) → open_heads p (seat_pairs m ss ++ entry_pairs m 1 es) ≡ []
  seats-none m [] es = entries-none m 1 es
  seats-none m (s ∷ ss) es = seats-none m ss es

  not-both : (a b c : Bool) → b ≡ true → ((a && not b) && c) ≡ false
  not-both a b c is = grind arith

  by-day : (d : ℕ) → d ≤ p → nat_le d p ≡ true
  by-day d le = grind (arith, nat_tests)

  -- a matter was closed by the day, or opened after it
  abbrev IsApart : Option Head → Type 0
  IsApart o = IsClosedBy p o ⊎ IsOpenedAfter p o

  not-opened : (a b c : Bool) → a ≡ false → ((a && not b) && c) ≡ false
  not-opened a b c is = grind arith

  by-none : (n : ℕ) → p < n → nat_le n p ≡ false
  by-none n lt = grind (arith, nat_tests)

  unlisted : (h : Head) → IsApart (Some h) → is_listed p h ≡ false
  unlisted h (inl closed) = not-both (nat_le h.opened p) (is_by p h.closed) _ (ap (is_by p) closed.1.0 ∙ by-day closed.0 closed.1.1)
  unlisted h (inr opened) = not-opened (nat_le h.opened p) (is_by p h.closed) _ (by-none h.opened opened)

  head-none : (m : ℕ) (o : Option Head) → IsApart o → open_heads p (head_pairs m o) ≡ []
  head-none m None apart = refl
  head-none m (Some h) apart = cases (is_listed p h) (unlisted h apart)
    where
      cases : (b : Bool) → b ≡ false → cond {A = List (ℕ × Head)} b ((m, h) ∷ []) [] ≡ []
      cases true is = absurd (cc)
      cases false is = refl

  pairs-none : (m : ℕ) (rows : Rows) → IsApart rows.head → open_heads p (pairs m rows) ≡ []
  pairs-none m rows closed =
      open-append (head_pairs m rows.head) (seat_pairs m rows.seats ++ entry_pairs m 1 rows.entries)
      ∙ (λ i. head-none m rows.head closed i ++ seats-none m rows.seats rows.entries i)

  -- what is put for such a matter has no head in the list
  open-put : (m : ℕ) (rows : Rows) (xs : List (ℕ × Row)) → IsApart rows.head → open_heads p (put m rows xs) ≡ open_heads p (filter (λ q. nat_lt q.0 m) xs) ++ open_heads p (filter (λ q. nat_lt m q.0) xs)
  open-put m rows xs closed =
      open-append (filter (λ q. nat_lt q.0 m) xs) (pairs m rows ++ filter (λ q. nat_lt m q.0) xs)
      ∙ ap (λ hs. open_heads p (filter (λ q. nat_lt q.0 m) xs) ++ hs)
      (open-append (pairs m rows) (filter (λ q. nat_lt m q.0) xs) ∙ ap (λ hs. hs ++ open_heads p (filter (λ q. nat_lt m q.0) xs)) (pairs-none m rows closed))

  apart-still : (day last : ℕ) (o : Option Head) → IsApart o → IsApart (purged_head o day last)
  apart-still day last None apart = apart
  apart-still day last (Some h) (inl closed) = inl closed
  apart-still day last (Some h) (inr opened) = inr opened

  -- its entries had moved nothing that is left
  apart-moves : Covered → (rows : Rows) → Sound rows → IsApart rows.head → sum_of (ledger_by p) rows.entries ≡ pos 0
  apart-moves law rows sound (inl closed) = (closed-adds p law rows sound closed).moved
  apart-moves law rows sound (inr opened) = moves-none p rows.entries (opened-later p rows sound opened)

  module _ (law : Covered) (m day last : ℕ) (firm : Firm) (sound : FirmSound firm) (apart : IsApart (of m firm).head) where
    abbrev left : Rows
    left = changed_by (edit.Purge day) last (of m firm)

    abbrev after : Firm
    after = purged_by m left firm

    same-heads : open_heads p after.rows ≡ open_heads p firm.rows
    same-heads =
        open-put m left firm.rows (apart-still day last (of m firm).head apart)
        ∙ (sym (open-put m (of m firm) firm.rows apart) ∙ ap (open_heads p) (sound.in_order.rows m))

    same-ledger : (k : ℕ) → ledger_as_of p (of k after).entries ≡ ledger_as_of p (of k firm).entries
    same-ledger =
        each-matter (λ k. ledger_as_of p (of k after).entries ≡ ledger_as_of p (of k firm).entries) m
        (ap (λ (r : Rows). ledger_as_of p r.entries) (of-purged_by m left firm) ∙ sym (as-shares p (of m firm).entries ∙ apart-moves law (of m firm) (sound.matters m) apart))
        (λ k apart. ap (λ (r : Rows). ledger_as_of p r.entries) (of_other-purged_by k m left firm apart))

    each : (hs : List (ℕ × Head)) → map (client_line p after) hs ≡ map (client_line p firm) hs
    each [] = refl
    each ((k, h) ∷ hs) = λ i. record { matter = k; client = client_in h.holder; ledger = same-ledger k i } ∷ each hs i

    pub same-lines : client_lines p after ≡ client_lines p firm
    same-lines = ap (map (client_line p after)) same-heads ∙ each (open_heads p firm.rows)

pub no_client-left : Covered → PurgeChangesNoClientLeft
no_client-left law p m change firm sound purge whole =
    let left : Rows = changed_by (edit.Purge purge.day) change.last (of m firm) in
    let same : after_change m change firm ≡ with_acts (acts_without m firm.acts) (purged_by m left firm) =
    ap (λ (e : Edit). acted m e change.act (after_edit m e change.last firm)) purge.clears in
    ap (client_lines p) same ∙ same-lines p law m purge.day change.last firm sound (apart-left p m change firm purge whole)

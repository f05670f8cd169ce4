-- Purging changes no figure of a day that is not before the close.
use Rattle.figure_laws.proofs.Names.{◌≡◌, ℕ, ◌≤◌, true, List, [], ◌∷◌, Option, Some, None, refl, sym, ap, ◌∙◌, subst, arith, ℤ, pos, ◌+ℤ◌, ◌-ℤ◌, nat_le, AllByRecursion, option_map, ints, nat_tests, Head, Entry, Rows, held_share, total_share, pending_share, held, total, ledger, pending, events_of, days_of, IsBy, IsHeaded, IsAtRest, IsAtRestIfClosed, Sound, Covered, sum_of, Row, Firm, of, FirmSound, entries_in, transit, outstanding, journal, own_by, ledgers, exceptions, matched, early, figures, figures_on, closing_on, Edit, changed_by, purged_by, with_acts, acts_without, acted, after_change, after_edit, IsClosedBy, PurgeChangesNoFigure, sum-agree, of_row, rows-entries, all-entries, transit_share, outstanding_share, IsClear, sound-cleared}
use Rattle.trust_matter.specs.edit.Edit.TheVariants as edit
use Rattle.firm_figures.proofs.Shares.{ledger_by, matched_by, early_by, transit-shares, outstanding-shares, ledger-shares, matched-shares, early-shares}
use Rattle.figure_laws.proofs.DifferenceTold.{journal-ledgers}
use Rattle.firm_figures.proofs.ClosedBy.{pending-least, all-pending-least, all-later}
use Rattle.firm_rows.proofs.Changed.{each-matter, of-purged_by, of_other-purged_by}

-- A sum over all entries where those of one matter add nothing, before and after.
module _ (g : Entry → ℤ) (m : ℕ) (rows : Rows) (firm : Firm) (empty : rows.entries ≡ []) (nothing : sum_of g (of m firm).entries ≡ pos 0) where
  abbrev cleared : Firm
  cleared = purged_by m rows firm

  at-each : (k : ℕ) → sum_of g (of k cleared).entries ≡ sum_of g (of k firm).entries
  at-each =
      each-matter (λ k. sum_of g (of k cleared).entries ≡ sum_of g (of k firm).entries) m
      (ap (λ (r : Rows). sum_of g r.entries) (of-purged_by m rows firm) ∙ (ap (sum_of g) empty ∙ sym nothing))
      (λ k apart. ap (λ (r : Rows). sum_of g r.entries) (of_other-purged_by k m rows firm apart))

  pub sum-cleared : sum_of g (entries_in cleared.rows) ≡ sum_of g (entries_in firm.rows)
  sum-cleared =
      all-entries g cleared.rows
      ∙ (sum-agree (λ (q : ℕ × Row). q.0) (λ q. of_row g q.1) cleared.rows (λ (q : ℕ × Row). q.0) (λ q. of_row g q.1) firm.rows (λ k. rows-entries g k cleared.rows ∙ (at-each k ∙ sym (rows-entries g k firm.rows)))
      ∙ sym (all-entries g firm.rows))

-- What the entries of a matter add where all their days are by p.
module _ (p : ℕ) where
  pub by : (a : ℕ) → a ≤ p → nat_le a p ≡ true
  by a le = grind (arith, nat_tests)

  -- what waits by the day waits still, what moved is the ledger's, and what the bank had is the total, but for what was
  -- issued; nothing is early
  pub record IsToldBy (e : Entry) : Type 0 where
    pub transit : transit_share p e ≡ held_share e
    pub moved : ledger_by p e ≡ total_share e +ℤ held_share e
    pub banked : matched_by p e ≡ total_share e +ℤ outstanding_share p e
    pub early : early_by p e ≡ pos 0
    pub out : pending_share e ≡ pos 0 → outstanding_share p e ≡ pos 0

  entry-told : (e : Entry) → IsBy p e → IsToldBy e
  unfolding held_share total_share pending_share events_of days_of
  entry-told e days = grind (arith, ints, nat_tests)

  -- All entries of the matter.

  pub record AreToldBy (es : List Entry) : Type 0 where
    pub transit : sum_of (transit_share p) es ≡ held es
    pub moved : sum_of (ledger_by p) es ≡ ledger es
    pub banked : sum_of (matched_by p) es ≡ total es +ℤ sum_of (outstanding_share p) es
    pub early : sum_of (early_by p) es ≡ pos 0

  entries-told : (es : List Entry) → AllByRecursion (IsBy p) es → AreToldBy es
  entries-told [] all = record { transit = refl; moved = refl; banked = refl; early = refl }
  entries-told (e ∷ es) all =
      let one = entry-told e all.0 in
      let more = entries-told es all.1 in
      record {
        transit = omega (arith, ints, one.transit, more.transit);
        moved = omega (arith, ints, one.moved, more.moved);
        banked = omega (arith, ints, one.banked, more.banked);
        early = omega (arith, ints, one.early, more.early);
      }

  -- no payment is proposed or issued, and so none is outstanding
  none-out : (es : List Entry) → AllByRecursion (IsBy p) es → pending es ≡ pos 0 → sum_of (outstanding_share p) es ≡ pos 0
  none-out [] all none = refl
  none-out (e ∷ es) all none =
      let here : pending_share e ≡ pos 0 = omega (arith, ints, none, pending-least e, all-pending-least es) in
      let rest : pending es ≡ pos 0 = omega (arith, ints, none, pending-least e, all-pending-least es) in
      omega (arith, ints, (entry-told e all.0).out here, none-out es all.1 rest)

  -- A matter that was closed by the day.

  pub record AddsNothing (es : List Entry) : Type 0 where
    pub transit : sum_of (transit_share p) es ≡ pos 0
    pub outstanding : sum_of (outstanding_share p) es ≡ pos 0
    pub moved : sum_of (ledger_by p) es ≡ pos 0
    pub banked : sum_of (matched_by p) es ≡ pos 0
    pub early : sum_of (early_by p) es ≡ pos 0

  pub at-rest : (h : Head) (day : ℕ) (rows : Rows) → Covered → Sound rows → IsAtRest h day rows.entries → day ≤ p → AddsNothing rows.entries
  at-rest h day rows law sound rest le =
      let all = all-later p day rows.entries le rest.by_close in
      let told = entries-told rows.entries all in
      let least = law rows.entries sound.backed in
      let out = none-out rows.entries all rest.none_waits in
      let empty = rest.empty in
      let held_none : held rows.entries ≡ pos 0 = omega (arith, ints, empty, least.held, least.total) in
      let total_none : total rows.entries ≡ pos 0 = omega (arith, ints, empty, held_none) in
      record {
        transit = told.transit ∙ held_none;
        outstanding = out;
        moved = told.moved ∙ empty;
        banked = omega (arith, ints, told.banked, total_none, out);
        early = told.early;
      }

  pub closed-adds : Covered → (rows : Rows) → Sound rows → IsClosedBy p rows.head → AddsNothing rows.entries
  closed-adds law rows sound closed = cases rows.head sound.headed closed
    where
      with_day : (h : Head) (c : Option ℕ) → IsAtRestIfClosed h c rows.entries → (day : ℕ) → c ≡ Some day → day ≤ p → AddsNothing rows.entries
      with_day h None rest day is le = absurd (cc)
      with_day h (Some close) rest day is le = let same : close ≡ day = cc in at-rest h close rows law sound rest (omega (arith, same, le))

      cases : (o : Option Head) → IsHeaded o rows.seats rows.entries → IsClosedBy p o → AddsNothing rows.entries
      cases None headed closed = absurd (let none = closed.1.0 in (cc))
      cases (Some h) headed closed = with_day h h.closed headed.1 closed.0 closed.1.0 closed.1.1

  -- The figures.

  module _ (law : Covered) (m : ℕ) (rows : Rows) (firm : Firm) (sound : FirmSound firm) (closed : IsClosedBy p (of m firm).head) (is : IsClear rows) where
    abbrev after : Firm
    after = purged_by m rows firm

    nothing : AddsNothing (of m firm).entries
    nothing = closed-adds law (of m firm) (sound.matters m) closed

    same-transit : transit p after ≡ transit p firm
    same-transit = transit-shares p after ∙ (sum-cleared (transit_share p) m rows firm is.none nothing.transit ∙ sym (transit-shares p firm))

    same-outstanding : outstanding p after ≡ outstanding p firm
    same-outstanding = outstanding-shares p after ∙ (sum-cleared (outstanding_share p) m rows firm is.none nothing.outstanding ∙ sym (outstanding-shares p firm))

    same-ledgers : ledgers p after ≡ ledgers p firm
    same-ledgers = ap (λ z. z +ℤ own_by p firm) (ledger-shares p after ∙ (sum-cleared (ledger_by p) m rows firm is.none nothing.moved ∙ sym (ledger-shares p firm)))

    same-matched : matched p after ≡ matched p firm
    same-matched = matched-shares p after ∙ (sum-cleared (matched_by p) m rows firm is.none nothing.banked ∙ sym (matched-shares p firm))

    same-early : early p after ≡ early p firm
    same-early = early-shares p after ∙ (sum-cleared (early_by p) m rows firm is.none nothing.early ∙ sym (early-shares p firm))

    -- both are the ledgers, for the firm is sound before and after
    same-journal : journal p after ≡ journal p firm
    same-journal = journal-ledgers p after (sound-cleared m rows firm sound is) ∙ (same-ledgers ∙ sym (journal-ledgers p firm sound))

    pub same-figures : (closing : ℤ) → figures p closing after ≡ figures p closing firm
    same-figures closing = λ i. record {
      closing = closing;
      transit = same-transit i;
      outstanding = same-outstanding i;
      adjusted = (closing +ℤ same-transit i) -ℤ same-outstanding i;
      journal = same-journal i;
      ledgers = same-ledgers i;
      difference = ((closing +ℤ same-transit i) -ℤ same-outstanding i) -ℤ same-journal i;
      exceptions = exceptions p firm;
      early = same-early i;
      gap = ((closing -ℤ same-matched i) -ℤ own_by p firm) -ℤ exceptions p firm;
    }

pub purge-changes-no_figure : Covered → PurgeChangesNoFigure
purge-changes-no_figure law p m change firm sound closed purge =
    let left : Rows = changed_by (edit.Purge purge.day) change.last (of m firm) in
    let same : after_change m change firm ≡ with_acts (acts_without m firm.acts) (purged_by m left firm) =
    ap (λ (e : Edit). acted m e change.act (after_edit m e change.last firm)) purge.clears in
    let clear : IsClear left = record { none = refl; sound = subst (λ (e : Edit). Sound (changed_by e change.last (of m firm))) purge.clears purge.fits.sound } in
    ap (figures_on p) same ∙ cases left clear (closing_on p firm.balances)
  where
    cases : (left : Rows) → IsClear left → (o : Option ℤ) → option_map (λ closing. figures p closing (purged_by m left firm)) o ≡ option_map (λ closing. figures p closing firm) o
    cases left clear None = refl
    cases left clear (Some closing) = ap Some (same-figures p law m left firm sound closed clear closing)

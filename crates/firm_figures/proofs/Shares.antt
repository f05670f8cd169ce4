-- Each figure is a sum of what the entries add to it.
use Rattle.firm_figures.proofs.Names.{◌≡◌, ℕ, cond, ℤ, pos, filter, flat_map, Entry, entry_amount, Event, events_of, sum_of, Firm, entries_in, is_in_transit, is_outstanding, lines_of, is_event_by, is_matched_by, is_early, transit, outstanding, matched, early, transit_share, outstanding_share, sum-filter, sum-flat, ◌∙◌}

-- What each entry adds to a figure.
module _ (p : ℕ) where
  abbrev pub event_by : Event → ℤ
  event_by e = cond (is_event_by p e) e.amount (pos 0)

  abbrev pub ledger_by : Entry → ℤ
  ledger_by e = sum_of event_by (events_of e)

  abbrev pub matched_by : Entry → ℤ
  matched_by e = sum_of (λ l. cond (is_matched_by p l) l.amount (pos 0)) (lines_of e)

  abbrev pub early_by : Entry → ℤ
  early_by e = sum_of (λ l. cond (is_early p l) l.amount (pos 0)) (lines_of e)

  -- Each figure is a sum of shares.

  pub transit-shares : (firm : Firm) → transit p firm ≡ sum_of (transit_share p) (entries_in firm.rows)
  transit-shares firm = sum-filter (is_in_transit p) (λ e. pos (entry_amount e)) (entries_in firm.rows)

  pub outstanding-shares : (firm : Firm) → outstanding p firm ≡ sum_of (outstanding_share p) (entries_in firm.rows)
  outstanding-shares firm = sum-filter (is_outstanding p) (λ e. pos (entry_amount e)) (entries_in firm.rows)

  pub ledger-shares : (firm : Firm) → sum_of (λ e. e.amount) (filter (is_event_by p) (flat_map events_of (entries_in firm.rows))) ≡ sum_of ledger_by (entries_in firm.rows)
  ledger-shares firm = sum-filter (is_event_by p) (λ e. e.amount) (flat_map events_of (entries_in firm.rows)) ∙ sum-flat events_of event_by (entries_in firm.rows)

  pub matched-shares : (firm : Firm) → matched p firm ≡ sum_of matched_by (entries_in firm.rows)
  matched-shares firm = sum-filter (is_matched_by p) (λ l. l.amount) (flat_map lines_of (entries_in firm.rows)) ∙ sum-flat lines_of (λ l. cond (is_matched_by p l) l.amount (pos 0)) (entries_in firm.rows)

  pub early-shares : (firm : Firm) → early p firm ≡ sum_of early_by (entries_in firm.rows)
  early-shares firm = sum-filter (is_early p) (λ l. l.amount) (flat_map lines_of (entries_in firm.rows)) ∙ sum-flat lines_of (λ l. cond (is_early p l) l.amount (pos 0)) (entries_in firm.rows)

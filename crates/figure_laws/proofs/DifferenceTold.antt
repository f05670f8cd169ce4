-- The journal is the ledgers, and the difference is told.
use Rattle.figure_laws.proofs.Names.{◌≡◌, ℕ, List, [], ◌∷◌, Option, Some, None, refl, sym, ◌∙◌, subst, arith, ℤ, pos, ◌+ℤ◌, ◌-ℤ◌, AllByRecursion, ints, nat_tests, Head, Entry, Rows, events_of, IsRising, IsHeaded, Sound, Movement, FirmLine, sum_of, Row, Firm, of, FirmSound, entries_in, is_moved_by, is_dated_by, journal, ledgers, AlwaysAgree, transit_share, outstanding_share, sum-filter, sum-agree, of_row, rows-entries, all-entries, agree}
use Rattle.firm_figures.proofs.Shares.{event_by, ledger_by, matched_by, early_by, transit-shares, outstanding-shares, ledger-shares, matched-shares, early-shares}

module _ (p : ℕ) where
  -- The journal is the ledgers.

  pub journal-ledgers : (firm : Firm) → FirmSound firm → journal p firm ≡ ledgers p firm
  journal-ledgers firm sound =
      let moved = sum-filter (is_moved_by p) (λ (v : Movement). v.amount) firm.movements in
      let told = agree (event_by p) firm sound in
      let rows = all-entries (ledger_by p) firm.rows in
      let own = sum-filter (is_dated_by p) (λ (l : FirmLine). l.amount) firm.firm_lines in
      omega (arith, ints, moved, told, rows, own, ledger-shares p firm)

  -- One entry: what waits, less what the books have, is what came early, less what the bank had.

  abbrev untold : Entry → ℤ
  untold e = ((transit_share p e -ℤ outstanding_share p e) -ℤ ledger_by p e) +ℤ (matched_by p e -ℤ early_by p e)

  entry-told : (e : Entry) → IsRising e → untold e ≡ pos 0
  unfolding events_of
  entry-told e up = grind (arith, ints, nat_tests)

  entries-told : (es : List Entry) → AllByRecursion IsRising es → sum_of untold es ≡ pos 0
  entries-told [] up = refl
  entries-told (e ∷ es) up = omega (arith, ints, entry-told e up.0, entries-told es up.1)

  -- no entry of a sound matter changes before an earlier change
  rising : (rows : Rows) → Sound rows → AllByRecursion IsRising rows.entries
  rising rows sound = cases rows.head sound.headed
    where
      cases : (o : Option Head) → IsHeaded o rows.seats rows.entries → AllByRecursion IsRising rows.entries
      cases None headed = subst (λ (es : List Entry). AllByRecursion IsRising es) (sym headed.1) tt
      cases (Some h) headed = headed.0.changed

  -- All entries.

  all-told : (firm : Firm) → FirmSound firm → sum_of untold (entries_in firm.rows) ≡ pos 0
  all-told firm sound =
      all-entries untold firm.rows
      ∙ sum-agree (λ q. q.0) (λ q. of_row untold q.1) firm.rows (λ (q : ℕ × Row). q.0) (λ q. of_row untold q.1) [] (λ m. rows-entries untold m firm.rows ∙ entries-told (of m firm).entries (rising (of m firm) (sound.matters m)))

  parts : (es : List Entry) → sum_of untold es ≡ ((sum_of (transit_share p) es -ℤ sum_of (outstanding_share p) es) -ℤ sum_of (ledger_by p) es) +ℤ (sum_of (matched_by p) es -ℤ sum_of (early_by p) es)
  parts [] = refl
  parts (e ∷ es) = omega (arith, ints, parts es)

pub always-agree : AlwaysAgree
always-agree p closing firm sound =
    let same = journal-ledgers p firm sound in
    let told = all-told p firm sound in
    let whole = parts p (entries_in firm.rows) in
    record {
      journal = same;
      difference = omega (arith, ints, same, told, whole, transit-shares p firm, outstanding-shares p firm, ledger-shares p firm, matched-shares p firm, early-shares p firm);
    }

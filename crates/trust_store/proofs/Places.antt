-- What a binary search finds among lines in their order, and what a book of lists keeps then.
use Rattle.trust_store.proofs.Names.{◌≡◌, ◌≢◌, ℕ, ◌<◌, ◌++◌, ◌∷◌, ◌+ℤ◌, None, List, [], length, get_or, Result, Ok, Err, IfOk, IfErr, sym, subst, arith, IsStrictlySortedBy, IsSearchInRange, IsBinarySearchResult, line_cmp, Line, Movement, FirmLine, BalanceRow, IsOwnBalance, balance_of, balance_cmp, with_balance, kept_balance, Firm, empty_firm, with_line, without_line, own_movement, FirmSound, found-at, absent-at, rises, KeptMatter, AreKept, firm_of, StandsAt, WouldStandAt}
use Rattle.std.proofs.Common.{insert}
use Rattle.trust_base.proofs.LineFacts.{line_total, line_same}
use Rattle.firm_rows.proofs.Balances.{balance_total, none-tied}
use Rattle.firm_rows.proofs.Lines.{match-sound, stray-stays-sound}
use Rattle.firm_rows.proofs.OwnLines.{own_line-sound, statement-sound}

module _ (line : Line) (lines : List Line) (up : IsStrictlySortedBy line_cmp lines) where
  stands : (i : ℕ) → i < length lines → get_or lines i line ≡ line → StandsAt line lines i
  stands i within is =
      let found = found-at line_cmp line_total line_same line lines i line up within is in
      record { within = within; with = found.0; without = found.1 }

  pub found-line : (r : Result ℕ ℕ) → IsSearchInRange r (length lines) → IsBinarySearchResult (λ x. line_cmp x line) lines r → IfOk r (StandsAt line lines)
  found-line (Ok i) within is = stands i within (line_same (get_or lines i line) line (is line))
  found-line (Err i) within is = tt

  pub absent-line : (r : Result ℕ ℕ) → IsSearchInRange r (length lines) → IsBinarySearchResult (λ x. line_cmp x line) lines r → IfErr r (WouldStandAt line lines)
  absent-line (Ok i) within is = tt
  absent-line (Err i) within is =
      let parted = is (rises line_cmp line_total line lines up) in
      let absent = absent-at line_cmp line_total line lines i within (λ j d lt. parted.0 j d (omega arith) lt) (λ j d le lt. parted.1 j d le lt) in
      record { within = within; with = absent.0; without = absent.1 }

-- What a book of lists keeps.

-- a book without rows
pub nothing_kept : (ks : List KeptMatter) (moves : List Movement) (own : List FirmLine) (lines : List Line) (balances : List BalanceRow) → ks ≡ [] → moves ≡ [] → own ≡ [] → lines ≡ [] → balances ≡ [] → FirmSound empty_firm → AreKept ks moves own lines balances
nothing_kept ks moves own lines balances a b c d e sound = grind (arith, firm_of)

module _ (ks : List KeptMatter) (moves : List Movement) (own : List FirmLine) (lines : List Line) (balances : List BalanceRow) (kept : AreKept ks moves own lines balances) where
  abbrev firm : Firm
  firm = firm_of ks moves own lines balances

  pub kept_with_line : (line : Line) (after : List Line) → after ≡ with_line line lines → AreKept ks moves own after balances
  kept_with_line line after is = record {
    matters = kept.matters;
    firm = subst (λ (ls : List Line). FirmSound (firm_of ks moves own ls balances)) (sym is) (stray-stays-sound line firm kept.firm);
  }

  pub kept_without_line : (line : Line) (after : List Line) → after ≡ without_line line lines → AreKept ks moves own after balances
  kept_without_line line after is = record {
    matters = kept.matters;
    firm = subst (λ (ls : List Line). FirmSound (firm_of ks moves own ls balances)) (sym is) (match-sound line firm kept.firm);
  }

  pub kept_with_balance : (row : BalanceRow) (after : List BalanceRow) → after ≡ with_balance row balances → AreKept ks moves own lines after
  kept_with_balance row after is = record {
    matters = kept.matters;
    firm = subst (λ (rows : List BalanceRow). FirmSound (firm_of ks moves own lines rows)) (sym is) (statement-sound row firm kept.firm);
  }

  pub kept_with_own : (l : FirmLine) (moves' : List Movement) (own' : List FirmLine) → IsOwnBalance (balance_of own +ℤ l.amount) → moves' ≡ moves ++ own_movement l ∷ [] → own' ≡ own ++ l ∷ [] → AreKept ks moves' own' lines balances
  kept_with_own l moves' own' may moved booked = record {
    matters = kept.matters;
    firm = subst FirmSound (λ i. firm_of ks (sym moved i) (sym booked i) lines balances) (own_line-sound l firm kept.firm may);
  }

-- What a binary search finds among balances.

module _ (row : BalanceRow) (rows : List BalanceRow) (up : IsStrictlySortedBy balance_cmp rows) where
  pub found-balance : (r : Result ℕ ℕ) → IsSearchInRange r (length rows) → IsBinarySearchResult (λ x. balance_cmp x row) rows r → IfOk r (λ i. kept_balance row.kind row.day rows ≢ None)
  found-balance (Ok i) within is = λ none. none-tied row rows i row none within (is row)
  found-balance (Err i) within is = tt

  pub absent-balance : (r : Result ℕ ℕ) → IsSearchInRange r (length rows) → IsBinarySearchResult (λ x. balance_cmp x row) rows r → IfErr r (λ i. with_balance row rows ≡ insert rows i row)
  absent-balance (Ok i) within is = tt
  absent-balance (Err i) within is =
      let parted = is (rises balance_cmp balance_total row rows up) in
      (absent-at balance_cmp balance_total row rows i within (λ j d lt. parted.0 j d (omega arith) lt) (λ j d le lt. parted.1 j d le lt)).0

-- What a reconciliation's sink keeps of the rows of a firm.
use Rattle.figure_laws.proofs.Names.{arith, ◌≡◌, ℕ, List, [], ◌∷◌, Option, Some, None, refl, sym, ap, ◌∙◌, subst, ◌||◌, list_any, option_map, Line, Movement, FirmLine, BalanceRow, Row, Firm, none_listed, with_row_listed, with_exception_listed, no_issued, with_row_issued, doubles_in, AreClosings, no_balances, with_balance_kept, PeriodKept, is_period_purged, is_purged_after, whole_period, with_row_purged, with_row, with_movement, with_own, with_exception, with_balance_told, all_taken, finished}
use Rattle.std.proofs.Common.{fold}
use Rattle.firm_figures.specs.declared.figures.ReconciliationFigures.{ReconciliationFigures}
use Rattle.firm_figures.specs.Reconciliations.{ReconciliationKept, nothing_kept, with_row_kept, with_movement_kept, with_own_kept, with_exception_kept, with_balance_noted, all_kept, kept_with, kept_told, reconciled}
use Rattle.figure_laws.specs.Kept.{ReconciliationIsKept}
use Rattle.figure_laws.proofs.FigureSizes.{figures-told}
use Rattle.figure_laws.proofs.Listing.{lists-kept}
use Rattle.figure_laws.proofs.IssuedRows.{issued-kept}
use Rattle.figure_laws.proofs.OpeningRows.{openings-kept}

rows-kept : (s : ReconciliationKept) (xs : List (ℕ × Row)) → fold with_row_kept s xs ≡ record s { figures = fold with_row s.figures xs; lists = fold with_row_listed s.lists xs; issued = fold with_row_issued s.issued xs; period = fold with_row_purged s.period xs }
rows-kept s [] = refl
rows-kept s (x ∷ xs) = rows-kept (with_row_kept s x) xs

movements-kept : (s : ReconciliationKept) (xs : List Movement) → fold with_movement_kept s xs ≡ record s { figures = fold with_movement s.figures xs }
movements-kept s [] = refl
movements-kept s (x ∷ xs) = movements-kept (with_movement_kept s x) xs

own-kept : (s : ReconciliationKept) (xs : List FirmLine) → fold with_own_kept s xs ≡ record s { figures = fold with_own s.figures xs }
own-kept s [] = refl
own-kept s (x ∷ xs) = own-kept (with_own_kept s x) xs

exceptions-kept : (s : ReconciliationKept) (xs : List Line) → fold with_exception_kept s xs ≡ record s { figures = fold with_exception s.figures xs; lists = fold with_exception_listed s.lists xs }
exceptions-kept s [] = refl
exceptions-kept s (x ∷ xs) = exceptions-kept (with_exception_kept s x) xs

balances-kept : (s : ReconciliationKept) (xs : List BalanceRow) → fold with_balance_noted s xs ≡ record s { figures = fold with_balance_told s.figures xs; balances = fold with_balance_kept s.balances xs }
balances-kept s [] = refl
balances-kept s (x ∷ xs) = balances-kept (with_balance_noted s x) xs

-- each part is kept as it is by itself
abbrev parts : ℕ → Firm → ReconciliationKept
parts p firm = record {
  figures = all_taken p firm;
  lists = fold with_exception_listed (fold with_row_listed (none_listed p) firm.rows) firm.exceptions;
  issued = fold with_row_issued (no_issued p) firm.rows;
  balances = fold with_balance_kept (no_balances p) firm.balances;
  period = fold with_row_purged (whole_period p) firm.rows;
}

in-parts : (p : ℕ) (firm : Firm) → all_kept p firm ≡ parts p firm
in-parts p firm = grind (arith, rows-kept, nothing_kept, movements-kept, own-kept, exceptions-kept, balances-kept)

-- the same lists beside whatever figures
with-lists : (p : ℕ) (firm : Firm) (figures : ReconciliationFigures) → kept_with (parts p firm) figures ≡ reconciled p firm figures
with-lists p firm figures = grind (arith, lists-kept, doubles_in, issued-kept, openings-kept)

beside : (p : ℕ) (firm : Firm) (found : Option ReconciliationFigures) → option_map (kept_with (parts p firm)) found ≡ option_map (reconciled p firm) found
beside p firm None = refl
beside p firm (Some figures) = ap (λ r. Some r) (with-lists p firm figures)

-- a matter is found purged where one of the rows is
purged-kept : (s : PeriodKept) (xs : List (ℕ × Row)) → (fold with_row_purged s xs).purged ≡ (list_any (is_purged_after s.day) xs || s.purged)
purged-kept s [] = refl
purged-kept s (x ∷ xs) = grind (arith, (purged-kept (with_row_purged s x) xs))

period-kept : (p : ℕ) (firm : Firm) → (fold with_row_purged (whole_period p) firm.rows).purged ≡ is_period_purged p firm
unfolding is_period_purged
period-kept p firm = grind (arith, purged-kept)

pub reconciliation-kept : ReconciliationIsKept
reconciliation-kept p firm sound is = record {
  told =
      ap kept_told (in-parts p firm)
      ∙ (beside p firm (finished (all_taken p firm)) ∙ ap (option_map (reconciled p firm)) (figures-told p firm sound is));
  rising = subst (λ (s : ReconciliationKept). AreClosings s.balances.closings) (sym (in-parts p firm)) ((openings-kept p firm.balances).rising sound.in_order.balances);
  purged = ap (λ (s : ReconciliationKept). s.period.purged) (in-parts p firm) ∙ period-kept p firm;
}

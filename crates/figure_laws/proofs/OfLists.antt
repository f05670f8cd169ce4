-- The figures and lists of rows in memory.
use Rattle.figure_laws.proofs.Names.{◌≡◌, ℕ, List, Row, FirmLine, IsInOrder, no_trial, with_trial_row, with_trial_own, Option, Some, None, sym, ap, ◌∙◌, subst, fold, option_map, ℤ, IsCountable, AreCountable, IsRowInRange, IsFirmLineInRange, Firm, FirmSound, AreClosings, AlwaysAgree, closing_on, figures, trial_total}
use Rattle.std.proofs.Common.{Result, Ok, Err, IfOk, IfSome}
use Rattle.firm_rows.specs.Handing.{AreHanded}
use Rattle.figure_laws.specs.Agree.{FiguresAgree}
use Rattle.firm_figures.specs.Lists.{TrialKept, trial_of, trial_sum, Retained}
use Rattle.figure_laws.specs.OfLists.{SinksGiveTheSame}
use Rattle.firm_figures.specs.Reconciliations.{ReconciliationKept, ReconciliationTold, all_kept, kept_told, reconciled, reconciliation_on, told}
use Rattle.firm_figures.specs.declared.figures.ReconciliationFigures.{ReconciliationFigures}
use Rattle.firm_figures.specs.declared.reconciliation.Reconciliation.{Reconciliation}
use Rattle.figure_laws.proofs.Lists.{journal-kept, retention-kept}
use Rattle.figure_laws.proofs.ReconciliationRows.{reconciliation-kept}
use Rattle.figure_laws.proofs.Trial.{trial-kept, total-kept}

pub sinks-give-the-same : SinksGiveTheSame
sinks-give-the-same day today firm sound is =
    let trial = trial-kept firm sound.in_order is.rows is.firm_lines in
    record {
      reconciliation = (reconciliation-kept day firm sound is).told;
      trial = trial;
      total = ap trial_sum trial ∙ total-kept firm sound is.rows is.firm_lines;
      journal = journal-kept firm.movements is.movements;
      retention = ap (λ (s : Retained). s.lines) (retention-kept today firm);
    }

-- what a sink that got all rows of a sound firm gives is the firm's reconciliation
pub reconciled-all : {E : Type 0} (day : ℕ) (firm : Firm) (kept : ReconciliationKept) (result : Result (Option Reconciliation) E) → kept ≡ all_kept day firm → FirmSound firm → IsCountable firm → (AreClosings kept.balances.closings → IfOk result (λ found. option_map told found ≡ kept_told kept)) → IfOk result (λ found. option_map told found ≡ reconciliation_on day firm)
reconciled-all day firm kept result all sound is gives =
    let law = reconciliation-kept day firm sound is in
    let closings = subst (λ (s : ReconciliationKept). AreClosings s.balances.closings) (sym all) law.rising in
    subst (λ r. IfOk result (λ found. option_map told found ≡ r)) (ap kept_told all ∙ law.told) (gives closings)

abbrev figures_in : ReconciliationFigures → Option ReconciliationTold → ReconciliationFigures
figures_in none None = none
figures_in none (Some told) = told.figures

-- the figures of a firm's reconciliation are those of some closing balance
figures-told : AlwaysAgree → (day : ℕ) (firm : Firm) → FirmSound firm → (r : Reconciliation) (closing : Option ℤ) → option_map told (Some r) ≡ option_map (reconciled day firm) (option_map (λ z. figures day z firm) closing) → FiguresAgree r.figures
figures-told law day firm sound r None is = absurd (cc)
figures-told law day firm sound r (Some z) is =
    let same : r.figures ≡ figures day z firm = ap (figures_in r.figures) is in
    subst FiguresAgree (sym same) (law day z firm sound)

pub agreed : {E : Type 0} → AlwaysAgree → (day : ℕ) (firm : Firm) → FirmSound firm → (result : Result (Option Reconciliation) E) → IfOk result (λ found. option_map told found ≡ reconciliation_on day firm) → IfOk result (λ found. IfSome found (λ r. FiguresAgree r.figures))
agreed law day firm sound (Err e) is = is
agreed law day firm sound (Ok None) is = tt
agreed law day firm sound (Ok (Some r)) is = figures-told law day firm sound r (closing_on day firm.balances) is

-- what a sink that got all rows and own lines of a firm keeps
module _ (firm : Firm) (rows : List (ℕ × Row)) (lines : List FirmLine) (new some all : TrialKept) (same : firm.rows ≡ rows) (also : firm.firm_lines ≡ lines) where
  module _ {E : Type 0} {done : Unit {0}} (begun : new ≡ no_trial) (first : AreHanded {E = E} with_trial_row IsRowInRange rows (Ok done) new some) (then : AreHanded {E = E} with_trial_own IsFirmLineInRange lines (Ok done) some all) where
    few : AreCountable IsRowInRange firm.rows
    few = subst (AreCountable IsRowInRange) (sym same) first.countable

    few_lines : AreCountable IsFirmLineInRange firm.firm_lines
    few_lines = subst (AreCountable IsFirmLineInRange) (sym also) then.countable

    pub trial-all : IsInOrder firm → all ≡ trial_of firm
    trial-all order =
        then.all
        ∙ ((λ i. fold with_trial_own (first.all i) (sym also i))
        ∙ ((λ i. fold with_trial_own (fold with_trial_row (begun i) (sym same i)) firm.firm_lines) ∙ trial-kept firm order few few_lines))

    pub trial-total : FirmSound firm → trial_sum all ≡ trial_total firm
    trial-total sound = ap trial_sum (trial-all sound.in_order) ∙ total-kept firm sound few few_lines

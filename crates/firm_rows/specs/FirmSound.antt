-- What is true of a firm's rows at every moment.
use Rattle.std.specs.Prelude.{◌≡◌, ◌≢◌, ◌↔◌, ◌==◌, ℕ, ◌≤◌, List, [], ◌∷◌, ◌++◌, map, take, pos, ◌+ℤ◌, ◌≤ℤ◌, Ok, if◌then◌else◌}
use Rattle.std.specs.List.{filter, AllByRecursion}
use Rattle.std.specs.List.Sorted.{IsStrictlySortedBy}
use Rattle.trust_base.specs.LineOrder.{line_cmp}
use Rattle.trust_base.specs.declared.line.Line.{Line}
use Rattle.matter_rows.specs.declared.act.Act.{Act}
use Rattle.trust_matter.specs.Changes.{acts_by}
use Rattle.trust_matter.specs.edit.Edit.TheVariants as edit
use Rattle.trust_matter.specs.declared.bank_line.BankLine.{BankLine}
use Rattle.trust_matter.specs.declared.line_verdict.LineVerdict.{LineVerdict}
use Rattle.trust_matter.specs.Rows.{entry_at, last_of}
use Rattle.trust_matter.specs.Balances.{ledger}
use Rattle.trust_matter.specs.Events.{events_in}
use Rattle.trust_matter.specs.Sound.{AreRising, Sound}
use Rattle.trust_matter.specs.LineStep.{LineDecides}
use Rattle.firm_rows.specs.declared.dismissal.Dismissal.{Dismissal}
use Rattle.firm_rows.specs.declared.matter_act.MatterAct.{MatterAct}
use Rattle.firm_rows.specs.declared.ledger.Verdict.{Verdict}
use Rattle.firm_rows.specs.declared.ledger.BalanceKind.{BalanceKind}
use Rattle.firm_rows.specs.FirmLines.{balance_of, StaysWithin, balance_cmp, firm_verdict, kept_balance, balance_verdict}
use Rattle.firm_rows.specs.Firm.{Firm, of, put, is_of_matter, acts_of, with_acts, with_dismissals, after_edit}
use Rattle.firm_rows.specs.FirmChange.{FirmChange, OfMatter, Repeated, Unmatched, Dismissed, OfFirm, OfBalance, after, rows_after, FitsFirm, by_line, by_firm_line, by_balance}
use Rattle.firm_rows.specs.Journal.{events_moved, firm_events, line_event, days_moved, moved_for, ledger_sum, journal_sum}

-- the rows of each matter stand together and in order, matters by number; the exceptions are sorted, each line once;
-- the balances are sorted, one for each kind and day
pub record IsInOrder (firm : Firm) : Type 0 where
  pub rows : (m : ℕ) → put m (of m firm) firm.rows ≡ firm.rows
  pub exceptions : IsStrictlySortedBy line_cmp firm.exceptions
  pub balances : IsStrictlySortedBy balance_cmp firm.balances

-- a matter's movements are in order of day, none after the matter's last day
pub record AreMovedInTime (m : ℕ) (firm : Firm) : Type 0 where
  pub rising : AreRising 0 (days_moved m firm.movements)
  pub by_last : AllByRecursion (λ day. day ≤ last_of (of m firm).head) (days_moved m firm.movements)

-- the rows are in order, and each matter is sound; the movements of each entry are its events, each once and in order;
-- all other movements are those of the firm's own lines, one each and in order; a matter's movements are in order of
-- day, add up to its ledger, and never to less than zero along the list; the firm's own lines add up to a permitted
-- balance all along their list
pub record FirmSound (firm : Firm) : Type 0 where
  pub in_order : IsInOrder firm
  pub matters : (m : ℕ) → Sound (of m firm)
  pub events : (m n : ℕ) → events_moved m n firm.movements ≡ events_in (entry_at (of m firm).entries n)
  pub own : firm_events firm.movements ≡ map line_event firm.firm_lines
  pub in_time : (m : ℕ) → AreMovedInTime m firm
  pub ledgers : (m : ℕ) → moved_for m firm.movements ≡ ledger (of m firm).entries
  pub covered : (m k : ℕ) → pos 0 ≤ℤ moved_for m (take k firm.movements)
  pub within : StaysWithin firm.firm_lines

-- A change of the firm changes the rows of the matter that it names, and of no other.

abbrev pub ChangesOne : Type 0
ChangesOne = (n : ℕ) (change : FirmChange) (firm : Firm) → of n (after change firm) ≡ rows_after n change (of n firm)

-- Soundness and order are preserved.

-- a change that fits leaves a sound firm sound
abbrev pub StaysSound : Type 0
StaysSound = (change : FirmChange) (firm : Firm) → FirmSound firm → FitsFirm firm change → FirmSound (after change firm)

-- rows that are in order stay so after every change
abbrev pub StaysInOrder : Type 0
StaysInOrder = (change : FirmChange) (firm : Firm) → IsInOrder firm → IsInOrder (after change firm)

-- What a purge removes from the movements.

-- none of the matter's movements is left
abbrev pub PurgedMovesNothing : Type 0
PurgedMovesNothing =
    (m day last : ℕ) (firm : Firm)
    → filter (λ v. is_of_matter m v.owner) (after_edit m (edit.Purge day) last firm).movements ≡ []

-- the movements of every other matter stay, in their order
abbrev pub PurgeLeavesOthers : Type 0
PurgeLeavesOthers =
    (n m day last : ℕ) (firm : Firm) → n ≢ m
    → filter (λ v. is_of_matter n v.owner) (after_edit m (edit.Purge day) last firm).movements
    ≡ filter (λ v. is_of_matter n v.owner) firm.movements

-- What a change of the firm makes of the acts of one matter.

abbrev pub acts_after : ℕ → FirmChange → List Act → List Act
acts_after n (OfMatter m line change) acts = if n == m then acts_by change.edit change.act acts else acts
acts_after n (Repeated line) acts = acts
acts_after n (Unmatched line) acts = acts
acts_after n (Dismissed day line) acts = acts
acts_after n (OfFirm line) acts = acts
acts_after n (OfBalance kind line) acts = acts

-- a change of a matter adds its act to that matter's, a purge removes these, and no other matter's acts change
abbrev pub ActsOfOneChange : Type 0
ActsOfOneChange =
    (n : ℕ) (change : FirmChange) (firm : Firm)
    → acts_of n (after change firm) ≡ acts_after n change (acts_of n firm)

-- Acts decide nothing.

-- whatever the acts are: a firm is sound without them or not at all, a change fits it or not, and makes of its other
-- rows what it makes of them without acts
pub record ActsDecideNothing (acts : List MatterAct) (change : FirmChange) (firm : Firm) : Type 0 where
  pub sound : FirmSound (with_acts acts firm) ↔ FirmSound firm
  pub fits : FitsFirm (with_acts acts firm) change ↔ FitsFirm firm change
  pub after : with_acts [] (after change (with_acts acts firm)) ≡ with_acts [] (after change firm)

-- What a change of the firm makes of the dismissals.

abbrev pub dismissals_after : FirmChange → List Dismissal → List Dismissal
dismissals_after (OfMatter m line change) dismissals = dismissals
dismissals_after (Repeated line) dismissals = dismissals
dismissals_after (Unmatched line) dismissals = dismissals
dismissals_after (Dismissed day line) dismissals = dismissals ++ record { day = day; line = line } ∷ []
dismissals_after (OfFirm line) dismissals = dismissals
dismissals_after (OfBalance kind line) dismissals = dismissals

-- dismissing a line adds it, with its day, and no other change adds or removes any: a purge leaves them
abbrev pub DismissalsOfOneChange : Type 0
DismissalsOfOneChange =
    (change : FirmChange) (firm : Firm) → (after change firm).dismissals ≡ dismissals_after change firm.dismissals

-- Dismissals decide nothing.

-- whatever the dismissals are: a firm is sound without them or not at all, a change fits it or not, and makes of its
-- other rows what it makes of them without dismissals
pub record DismissalsDecideNothing (dismissals : List Dismissal) (change : FirmChange) (firm : Firm) : Type 0 where
  pub sound : FirmSound (with_dismissals dismissals firm) ↔ FirmSound firm
  pub fits : FitsFirm (with_dismissals dismissals firm) change ↔ FitsFirm firm change
  pub after : with_dismissals [] (after change (with_dismissals dismissals firm)) ≡ with_dismissals [] (after change firm)

-- Every verdict on a line is a change that fits.

-- the verdict on the line, on some business day, from its matter's rows
abbrev pub IsVerdictOn : Firm → BankLine → LineVerdict → Type 0
IsVerdictOn firm l v = (today : ℕ) × LineDecides (of l.matter firm) l today (Ok v)

-- the verdict on a line of the firm's own, on some business day, from the firm's ledger
abbrev pub IsFirmVerdict : Firm → Line → Verdict → Type 0
IsFirmVerdict firm line v = (today : ℕ) × (v ≡ firm_verdict firm.firm_lines line today)

-- the verdict on a balance, on some business day, from the balances on file
abbrev pub IsBalanceVerdict : Firm → BalanceKind → Line → Verdict → Type 0
IsBalanceVerdict firm kind line v =
    (today : ℕ) × (v ≡ balance_verdict (kept_balance kind line.date firm.balances) line today)

-- the verdict on a line that names an entry may be applied; so may those on a line of the firm's own and on a balance
abbrev pub LineFits : Type 0
LineFits = (firm : Firm) (l : BankLine) (v : LineVerdict) → IsVerdictOn firm l v → FitsFirm firm (by_line l v)

abbrev pub FirmLineFits : Type 0
FirmLineFits =
    (firm : Firm) (line : Line) (v : Verdict) → IsFirmVerdict firm line v → FitsFirm firm (by_firm_line line v)

abbrev pub BalanceFits : Type 0
BalanceFits =
    (firm : Firm) (kind : BalanceKind) (line : Line) (v : Verdict) → IsBalanceVerdict firm kind line v
    → FitsFirm firm (by_balance kind line v)

-- No client's money pays another's debt.

-- the ledgers of all matters add up to at least zero, and so do the movements all along their list; all movements
-- together are the ledgers, including the firm's own
pub record IsSolvent (firm : Firm) : Type 0 where
  pub ledgers : pos 0 ≤ℤ ledger_sum firm
  pub journal : (k : ℕ) → pos 0 ≤ℤ journal_sum (take k firm.movements)
  pub agree : journal_sum firm.movements ≡ ledger_sum firm +ℤ balance_of firm.firm_lines

abbrev pub SoundIsSolvent : Type 0
SoundIsSolvent = (firm : Firm) → FirmSound firm → IsSolvent firm

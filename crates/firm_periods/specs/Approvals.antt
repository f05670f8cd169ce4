-- The payments issued in a period, each with the caller who approved it.
use Rattle.std.specs.Prelude.{◌≡◌, ℕ, Bool, false, ◌&&◌, ◌||◌, ◌==◌, nat_le, cond, List, [], ◌∷◌, ◌++◌, Option, Some, None, fold, map}
use Rattle.std.specs.List.{filter, flat_map}
use Rattle.std.specs.Ordering.{is_lt, nat_cmp}
use Rattle.trust_base.specs.Periods.{Span}
use Rattle.matter_rows.specs.declared.act.Caller.{Caller}
use Rattle.matter_rows.specs.declared.payment.Payment.{Payment}
use Rattle.matter_rows.specs.declared.entry.Entry.{Entry}
use Rattle.matter_rows.specs.declared.entry.Entry.TheVariants as entry
use Rattle.trail_laws.specs.Signed.{approves, is_approval, issue_days}
use Rattle.trust_matter.specs.Changes.{MatterChange}
use Rattle.firm_rows.specs.declared.matter_act.MatterAct.{MatterAct}
use Rattle.firm_rows.specs.Firm.{Row, HeadRow, SeatRow, EntryRow, Firm, after_change}
use Rattle.firm_rows.specs.FirmSound.{FirmSound}
use Rattle.firm_figures.specs.Doubles.{in_order}
use Rattle.firm_figures.specs.Purged.{IsPurge}
use Rattle.firm_periods.specs.Named.{is_head_purged_within, is_purged_within}
use Rattle.firm_periods.specs.declared.approvals_sink.IssuedPayment.{IssuedPayment}

-- Who approved.

-- the act approves entry n of matter m
abbrev pub approves_in : ℕ → ℕ → MatterAct → Bool
approves_in m n a = approves n a.act && a.matter == m

-- who approved entry n of matter m: the caller of the last act that says so, of which there is at most one; none where
-- no act does, as of what was approved before acts were kept
abbrev pub approver_in : List MatterAct → ℕ → ℕ → Option Caller
approver_in acts m n = fold (λ who a. cond (approves_in m n a) (Some a.act.caller) who) None acts

-- The payments issued in a period, also those that were voided since.

abbrev pub is_in_period : Span → ℕ → Bool
is_in_period s day = nat_le s.from day && nat_le day s.to

-- a payment, on the day of its issue if that is in the period
abbrev pub issued_payment : ℕ → ℕ → Payment → ℕ → IssuedPayment
issued_payment m n p day = record { matter = m; number = n; issued = day; payment = p; approver = None }

abbrev pub issued_of_entry : Span → ℕ → ℕ → Entry → List IssuedPayment
issued_of_entry s m n (entry.Deposit d) = []
issued_of_entry s m n (entry.Payment p) = map (issued_payment m n p) (filter (is_in_period s) (issue_days p.state))
issued_of_entry s m n (entry.Fee f) = []
issued_of_entry s m n (entry.Claim c) = []

abbrev pub issued_in_row : Span → ℕ × Row → List IssuedPayment
issued_in_row s (m, HeadRow h) = []
issued_in_row s (m, SeatRow seat) = []
issued_in_row s (m, EntryRow n e) = issued_of_entry s m n e

-- with who approved it
abbrev pub approved_by : List MatterAct → IssuedPayment → IssuedPayment
approved_by acts v = record v { approver = approver_in acts v.matter v.number }

abbrev pub is_issued_earlier : IssuedPayment → IssuedPayment → Bool
is_issued_earlier a b = is_lt (nat_cmp a.issued b.issued)

-- by the day of issue, on one day in the order of the rows; each with who approved it
abbrev pub approvals : Span → Firm → List IssuedPayment
approvals s firm = in_order is_issued_earlier (map (approved_by firm.acts) (flat_map (issued_in_row s) firm.rows))

-- How they are built.

-- what the sink stores: the acts of approval, and the payments
pub record ApprovalsKept : Type 0 where
  pub period : Span
  pub acts : List MatterAct
  pub lines : List IssuedPayment
  pub purged : Bool

abbrev pub no_approvals : Span → ApprovalsKept
no_approvals s = record { period = s; acts = []; lines = []; purged = false }

abbrev pub with_approval : ApprovalsKept → MatterAct → ApprovalsKept
with_approval s a = record s { acts = s.acts ++ cond (is_approval a.act.deed) (a ∷ []) [] }

abbrev pub with_issued_row : ApprovalsKept → ℕ × Row → ApprovalsKept
with_issued_row s (m, HeadRow h) = record s {
  purged = is_head_purged_within s.period h || s.purged;
}
with_issued_row s (m, SeatRow seat) = s
with_issued_row s (m, EntryRow n e) = record s { lines = s.lines ++ issued_of_entry s.period m n e }

-- of all acts, then all rows of a firm
abbrev pub approvals_kept : Span → Firm → ApprovalsKept
approvals_kept s firm = fold with_issued_row (fold with_approval (no_approvals s) firm.acts) firm.rows

-- what is stored, each payment with who approved it, by the day of issue
abbrev pub approvals_of : ApprovalsKept → List IssuedPayment
approvals_of s = in_order is_issued_earlier (map (approved_by s.acts) s.lines)

-- what the sink stores makes that list; and whether it is cut by a purge
pub record AreApprovalsKept (s : Span) (firm : Firm) : Type 0 where
  pub lines : approvals_of (approvals_kept s firm) ≡ approvals s firm
  pub purged : (approvals_kept s firm).purged ≡ is_purged_within s firm

abbrev pub ApprovalsAreKept : Type 0
ApprovalsAreKept = (s : Span) (firm : Firm) → AreApprovalsKept s firm

-- What a purge leaves.

-- purging a matter of a sound firm changes nothing of the approvals of a period if no purged matter was open in it
abbrev pub PurgeChangesNoApprovalLeft : Type 0
PurgeChangesNoApprovalLeft =
    (s : Span) (m : ℕ) (change : MatterChange) (firm : Firm)
    → FirmSound firm → IsPurge m firm change → is_purged_within s (after_change m change firm) ≡ false
    → approvals s (after_change m change firm) ≡ approvals s firm

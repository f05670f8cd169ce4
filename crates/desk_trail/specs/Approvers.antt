-- The approvals of a period: each payment that was issued in it is listed once, and names the caller of its one act of
-- approval.
use Rattle.std.specs.Prelude.{◌≡◌, ℕ, Bool, ◌&&◌, ◌==◌, List, [], ◌∷◌, map, Some, None}
use Rattle.std.specs.List.{Contains, filter}
use Rattle.trust_base.specs.Periods.{Span}
use Rattle.matter_rows.specs.declared.entry.Entry.TheVariants as entry
use Rattle.matter_rows.specs.declared.seat.Seat.{Seat}
use Rattle.matter_rows.specs.Rows.{entry_at}
use Rattle.trail_laws.specs.Signed.{IsApprovedOnce, days_of_issue}
use Rattle.firm_rows.specs.Firm.{Firm, acts_of, empty_firm, of}
use Rattle.firm_rows.specs.FirmSound.{FirmSound}
use Rattle.firm_periods.specs.Approvals.{approvals, is_in_period}
use Rattle.firm_periods.specs.declared.approvals_sink.IssuedPayment.{IssuedPayment}
use Rattle.desk_laws.specs.OnceOnly.{DayRun}
use Rattle.desk_trail.specs.SignedRuns.{RunsSoundlyOn}

-- Which payments are listed.

-- the line is of entry n of matter m
abbrev pub is_of_payment : ℕ → ℕ → IssuedPayment → Bool
is_of_payment m n v = v.matter == m && v.number == n

-- an entry is listed on those of its days of issue that are in the period, so once or not at all; and each line has the
-- payment of its entry
pub record AreIssuesListed (s : Span) (firm : Firm) : Type 0 where
  pub days : (m n : ℕ)
      → map (λ v. v.issued) (filter (is_of_payment m n) (approvals s firm))
      ≡ filter (is_in_period s) (days_of_issue (entry_at (of m firm).entries n))
  pub payments : (v : IssuedPayment) → Contains (approvals s firm) v
      → entry_at (of v.matter firm).entries v.number ≡ Some (entry.Payment v.payment)

abbrev pub IssuesAreListed : Type 0
IssuesAreListed = (s : Span) (firm : Firm) → FirmSound firm → AreIssuesListed s firm

-- Who approved them.

-- a listed payment has exactly one act of approval, on the day of its issue, by a person who had a lawyer's seat then.
-- That person is named
pub record IsApproverNamed (seats : List Seat) (firm : Firm) (v : IssuedPayment) : Type 0 where
  pub approved : IsApprovedOnce seats v.number v.issued (acts_of v.matter firm)
  pub named : v.approver ≡ Some approved.act.caller

-- in a book that was empty, this is so of each listed payment
abbrev pub ApproversAreNamed : Type 0
ApproversAreNamed =
    (firm : Firm) (runs : List DayRun) (s : Span) (v : IssuedPayment) → RunsSoundlyOn empty_firm runs firm
    → Contains (approvals s firm) v → IsApproverNamed [] firm v

-- in one that is older than its acts, this is so of each listed payment that was not issued before; seats count from
-- those of that time
abbrev pub LaterApproversAreNamed : Type 0
LaterApproversAreNamed =
    (first firm : Firm) (runs : List DayRun) (s : Span) (v : IssuedPayment) → FirmSound first
    → acts_of v.matter first ≡ [] → RunsSoundlyOn first runs firm
    → days_of_issue (entry_at (of v.matter first).entries v.number) ≡ [] → Contains (approvals s firm) v
    → IsApproverNamed (of v.matter first).seats firm v

-- one that was issued before has no act of approval, and so nobody is named
abbrev pub EarlierApproversAreUnknown : Type 0
EarlierApproversAreUnknown =
    (first firm : Firm) (runs : List DayRun) (s : Span) (v : IssuedPayment) (day : ℕ) → FirmSound first
    → acts_of v.matter first ≡ [] → RunsSoundlyOn first runs firm
    → days_of_issue (entry_at (of v.matter first).entries v.number) ≡ day ∷ [] → Contains (approvals s firm) v
    → v.approver ≡ None

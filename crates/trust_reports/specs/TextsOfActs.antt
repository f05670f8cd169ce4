-- How the trail and the approvals of a period are printed.
use Rattle.std.specs.Prelude.{ℕ, Bool, true, false, not, ◌==◌, List, [], ◌∷◌, ◌++◌, codes, flat_map, map, Option, Some, None}
use Rattle.std.specs.List.{list_any}
use Rattle.trust_base.specs.Periods.{Span}
use Rattle.trust_base.specs.Texts.{amount_text, day_text, matter_text}
use Rattle.matter_rows.specs.declared.act.Caller.{Caller}
use Rattle.matter_rows.specs.declared.act.Caller.TheVariants as caller
use Rattle.matter_rows.specs.declared.act.Deed.{Deed}
use Rattle.matter_rows.specs.declared.act.Deed.TheVariants as deed
use Rattle.matter_rows.specs.declared.seat.Role.{Role}
use Rattle.matter_rows.specs.declared.seat.Role.TheVariants as role
use Rattle.trail_laws.specs.Signed.{begins_with_opening}
use Rattle.firm_rows.specs.declared.dismissal.Dismissal.{Dismissal}
use Rattle.firm_rows.specs.declared.matter_act.MatterAct.{MatterAct}
use Rattle.firm_periods.specs.declared.approvals_sink.IssuedPayment.{IssuedPayment}
use Rattle.trust_reports.specs.Texts.{caller_text, further, heading, line, place_text, reference_text}
use Rattle.trust_reports.specs.TextsOfLedgers.{end_fields, payment_names}
use Rattle.trust_reports.specs.TextsOfLists.{exception_line}
use Rattle.trust_reports.specs.TextsOfPeriods.{period_heading}

-- An act.

abbrev pub role_text : Role → List ℕ
role_text role.Client = codes "CLIENT"
role_text role.Lawyer = codes "LAWYER"

-- what was done, and what the entry does not say: whose seat it is, or the client's part
abbrev pub deed_fields : Deed → List (List ℕ)
deed_fields (deed.Opened lawyer) = codes "OPENED" ∷ lawyer ∷ []
deed_fields (deed.Seated seat) = codes "SEATED" ∷ seat.person ∷ role_text seat.role ∷ []
deed_fields (deed.Unseated person) = codes "UNSEATED" ∷ person ∷ []
deed_fields deed.Closed = codes "CLOSED" ∷ []
deed_fields deed.Deposited = codes "DEPOSITED" ∷ []
deed_fields deed.Cancelled = codes "CANCELLED" ∷ []
deed_fields deed.Cleared = codes "CLEARED" ∷ []
deed_fields deed.Returned = codes "RETURNED" ∷ []
deed_fields deed.Proposed = codes "PROPOSED" ∷ []
deed_fields deed.Approved = codes "APPROVED" ∷ []
deed_fields deed.Declined = codes "DECLINED" ∷ []
deed_fields deed.Withdrawn = codes "WITHDRAWN" ∷ []
deed_fields deed.Voided = codes "VOIDED" ∷ []
deed_fields deed.Earned = codes "EARNED" ∷ []
deed_fields deed.Disputed = codes "DISPUTED" ∷ []
deed_fields deed.Claimed = codes "CLAIMED" ∷ []
deed_fields (deed.Offered part) = codes "OFFERED" ∷ amount_text part ∷ []
deed_fields deed.Accepted = codes "ACCEPTED" ∷ []
deed_fields deed.Awarded = codes "AWARDED" ∷ []

-- its business day, the matter or the entry, who did it, and what was done
abbrev pub act_line : MatterAct → List ℕ
act_line a =
    line (day_text a.act.day)
    (place_text a.matter a.act.entry ∷ caller_text a.act.caller ∷ deed_fields a.act.deed)

-- A dismissal.

-- its business day, a dash where an act has its place, the cashier, what was done, and the line as the exceptions have it
abbrev pub dismissal_line : Dismissal → List ℕ
dismissal_line d =
    day_text d.day
    ++ (flat_map further (codes "-" ∷ caller_text caller.Cashier ∷ codes "DISMISSED" ∷ [])
    ++ further (exception_line d.line))

-- Acts that begin late.

-- a line where they begin later than what they are of
abbrev pub earlier_text : Bool → List ℕ
earlier_text true = line (codes "EARLIER ACTS ARE NOT RECORDED") []
earlier_text false = []

-- The trail: the acts in the order of acceptance, and behind them the dismissals in theirs. The line above them stands
-- where they begin later than some matter.

abbrev pub trail_text : ℕ → Bool → List MatterAct → List Dismissal → List ℕ
trail_text today late acts dismissals =
    heading (codes "TRAIL") today
    ++ (earlier_text late ++ (flat_map act_line acts ++ flat_map dismissal_line dismissals))

-- The trail of a matter. Its acts begin late where they do not begin with its opening.

abbrev pub begins_late : List MatterAct → Bool
begins_late acts = not (begins_with_opening (map (λ (a : MatterAct). a.act) acts))

abbrev pub matter_trail_text : ℕ → ℕ → List MatterAct → List ℕ
matter_trail_text today m acts =
    line (codes "TRAIL") (matter_text m ∷ day_text today ∷ [])
    ++ (earlier_text (begins_late acts) ++ flat_map act_line acts)

-- The approvals of a period.

-- a row of the trail that can't be read may be an act of this matter: it names it, or no matter
abbrev pub may_be_of : ℕ → Option ℕ → Bool
may_be_of m None = true
may_be_of m (Some named) = named == m

-- an act of the matter may be among those that can't be read
abbrev pub is_unread : List (Option ℕ) → ℕ → Bool
is_unread unread m = list_any (may_be_of m) unread

-- who approved; where no act says so, a question mark if one of the matter may be unread, and otherwise a dash
abbrev pub approver_text : Bool → Option Caller → List ℕ
approver_text unread (Some who) = caller_text who
approver_text true None = codes "?"
approver_text false None = codes "-"

-- the day of issue, the entry, the amount, who approved it, what became of it, and the payment's names
abbrev pub approval_line : List (Option ℕ) → IssuedPayment → List ℕ
approval_line unread v =
    line (day_text v.issued)
    (reference_text v.matter v.number ∷ amount_text v.payment.amount
    ∷ approver_text (is_unread unread v.matter) v.approver
    ∷ (end_fields v.payment.state ++ payment_names v.payment))

-- the payments, given the matters that the unread rows of the trail name
abbrev pub approvals_text : Span → List IssuedPayment → List (Option ℕ) → List ℕ
approvals_text s lines unread = period_heading (codes "APPROVALS") s ++ flat_map (approval_line unread) lines

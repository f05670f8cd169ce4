-- Laws: who had a seat when, whether each act was allowed, and that each payment that was issued has its approval.
use Rattle.std.specs.Prelude.{◌≡◌, ℕ, Bool, true, false, ◌&&◌, List, [], ◌∷◌, ◌++◌, map, fold, Option, Some, None, option_to_list}
use Rattle.std.specs.List.{AllByRecursion, filter}
use Rattle.trust_base.specs.declared.refusal.Refusal.{Refusal}
use Rattle.trust_base.specs.declared.refusal.Rule.{Rule}
use Rattle.trust_base.specs.declared.refusal.Rule.TheVariants as rule
use Rattle.matter_rows.specs.declared.act.Act.{Act}
use Rattle.matter_rows.specs.declared.act.Caller.{Caller}
use Rattle.matter_rows.specs.declared.act.Caller.TheVariants as caller
use Rattle.matter_rows.specs.declared.act.Deed.{Deed}
use Rattle.matter_rows.specs.declared.act.Deed.TheVariants as deed
use Rattle.matter_rows.specs.declared.entry.Entry.{Entry}
use Rattle.matter_rows.specs.declared.entry.Entry.TheVariants as entry
use Rattle.matter_rows.specs.declared.payment.PaymentState.{PaymentState}
use Rattle.matter_rows.specs.declared.seat.Role.TheVariants as role
use Rattle.matter_rows.specs.declared.seat.Seat.{Seat}
use Rattle.matter_rows.specs.Events.{issued_on}
use Rattle.matter_rows.specs.Rows.{Rows, entry_at, is_number, role_in, seats_with, seats_without}
use Rattle.matter_rows.specs.Sound.{Sound}
use Rattle.matter_parts.specs.declared.edit.Edit.{Edit}
use Rattle.matter_parts.specs.declared.edit.Edit.TheVariants as edit
use Rattle.trust_matter.specs.declared.ask.Ask.{Ask}
use Rattle.trust_matter.specs.Acts.{deed_of}
use Rattle.trust_matter.specs.Laws.{Doing, AnAsk, ALine}
use Rattle.trust_matter.specs.Policy.{allows, rule_of}
use Rattle.trust_matter.specs.Step.{refusal, edit_on, HasAmount}
use Rattle.trail_laws.specs.Dossier.{Dossier, no_dossier, dossier_after_step, dossier_after_run}

-- When the acts begin.

-- what a matter had when its acts begin: its seats, and for each entry number the days on which a payment was issued
pub record Beginning : Type 0 where
  pub seats : List Seat
  pub issued : ℕ → List ℕ

-- nothing, as of a matter that was never opened
abbrev pub nothing_before : Beginning
nothing_before = record { seats = []; issued = λ n. [] }

pub record IsNothing (b : Beginning) : Type 0 where
  pub seats : b.seats ≡ []
  pub issued : (n : ℕ) → b.issued n ≡ []

abbrev pub is_opened_by : Deed → Bool
is_opened_by (deed.Opened lawyer) = true
is_opened_by _ = false

-- the first act is the opening of the matter
abbrev pub begins_with_opening : List Act → Bool
begins_with_opening [] = false
begins_with_opening (act ∷ acts) = is_opened_by act.deed

-- a purge, which leaves nothing, is where the acts begin anew
abbrev pub begun_by : Edit → Beginning → Beginning
begun_by edit.Nothing b = b
begun_by (edit.Open opening) b = b
begun_by (edit.Seat seat) b = b
begun_by (edit.Unseat person) b = b
begun_by (edit.Close day) b = b
begun_by (edit.Purge day) b = nothing_before
begun_by (edit.Append entry) b = b
begun_by (edit.Exchange entry) b = b

abbrev pub begun_after : Option Refusal → Edit → Beginning → Beginning
begun_after None e b = begun_by e b
begun_after (Some r) e b = b

-- where the acts begin that stand in the dossier after a step
abbrev pub beginning_after : Dossier → Doing → Beginning → Beginning
beginning_after p (AnAsk a) b = begun_after (refusal p.rows a) (edit_on p.rows a) b
beginning_after p (ALine l today) b = b

-- The seats.

abbrev pub seats_by_deed : List Seat → Deed → List Seat
seats_by_deed seats (deed.Opened lawyer) = record { person = lawyer; role = role.Lawyer } ∷ []
seats_by_deed seats (deed.Seated seat) = seats_with seats seat
seats_by_deed seats (deed.Unseated person) = seats_without seats person
seats_by_deed seats _ = seats

-- the seats after an act
abbrev pub seats_by : List Seat → Act → List Seat
seats_by seats act = seats_by_deed seats act.deed

-- the matter's seats are those that its acts left
abbrev pub AreSeated : Beginning → Dossier → Type 0
AreSeated b p = fold seats_by b.seats p.acts ≡ p.rows.seats

abbrev pub SeatsFollowActs : Type 0
SeatsFollowActs =
    (b : Beginning) (p : Dossier) (step : Doing) → AreSeated b p
    → AreSeated (beginning_after p step b) (dossier_after_step p step)

-- The policy.

-- the rule under which a deed is asked for; what the bank clears and takes back is for the cashier to book
abbrev pub rule_done : Deed → Rule
rule_done (deed.Opened lawyer) = rule.Office
rule_done (deed.Seated seat) = rule.Office
rule_done (deed.Unseated person) = rule.Office
rule_done deed.Closed = rule.Office
rule_done deed.Deposited = rule.Office
rule_done deed.Cancelled = rule.Office
rule_done deed.Cleared = rule.Office
rule_done deed.Returned = rule.Office
rule_done deed.Proposed = rule.Propose
rule_done deed.Approved = rule.Sign
rule_done deed.Declined = rule.Sign
rule_done deed.Withdrawn = rule.Propose
rule_done deed.Voided = rule.Sign
rule_done deed.Earned = rule.Sign
rule_done deed.Disputed = rule.Dispute
rule_done deed.Claimed = rule.Claim
rule_done (deed.Offered part) = rule.Sign
rule_done deed.Accepted = rule.Dispute
rule_done deed.Awarded = rule.Office

-- it is the rule of the ask of that deed
abbrev pub RuleIsOfAsk : Type 0
RuleIsOfAsk = (q : Ask) (d : Deed) → deed_of q ≡ Some d → rule_done d ≡ rule_of q

-- with these seats the policy allows the act to its caller
abbrev pub is_allowed : List Seat → Act → Bool
is_allowed seats act = allows seats act.caller (rule_done act.deed)

-- each act was allowed with the seats of its own moment
abbrev pub AreAllowed : List Seat → List Act → Type 0
AreAllowed seats [] = Unit {0}
AreAllowed seats (act ∷ acts) = (is_allowed seats act ≡ true) × AreAllowed (seats_by seats act) acts

abbrev pub ActsStayAllowed : Type 0
ActsStayAllowed =
    (b : Beginning) (p : Dossier) (step : Doing) → AreSeated b p → AreAllowed b.seats p.acts
    → AreAllowed (beginning_after p step b).seats (dossier_after_step p step).acts

abbrev pub is_approval : Deed → Bool
is_approval deed.Approved = true
is_approval _ = false

-- the caller is a person who has a lawyer's seat
pub record HasLawyersSeat (seats : List Seat) (who : Caller) : Type 0 where
  pub person : List ℕ
  pub is : who ≡ caller.Person person
  pub role : role_in seats person ≡ Some role.Lawyer

-- an approval is allowed only to one who has a lawyer's seat
abbrev pub LawyersApprove : Type 0
LawyersApprove =
    (seats : List Seat) (act : Act) → is_allowed seats act ≡ true → is_approval act.deed ≡ true
    → HasLawyersSeat seats act.caller

-- The approvals.

-- the day on which a payment was issued, if it was
abbrev pub issue_days : PaymentState → List ℕ
issue_days s = option_to_list (issued_on s)

-- of anything else there is none
abbrev pub days_of_issue : Option Entry → List ℕ
days_of_issue None = []
days_of_issue (Some (entry.Deposit d)) = []
days_of_issue (Some (entry.Payment p)) = issue_days p.state
days_of_issue (Some (entry.Fee f)) = []
days_of_issue (Some (entry.Claim c)) = []

-- the act is an approval of entry n
abbrev pub approves : ℕ → Act → Bool
approves n act = is_approval act.deed && is_number act.entry n

-- the days on which entry n was approved
abbrev pub days_of_approval : ℕ → List Act → List ℕ
days_of_approval n acts = map (λ (act : Act). act.day) (filter (approves n) acts)

-- the seats are those that the acts left, each act was allowed, and each payment that is or was issued has exactly one
-- approval, on the day of its issue, unless it was issued before the acts begin; nothing was before an opening
pub record IsSigned (b : Beginning) (p : Dossier) : Type 0 where
  pub seats : AreSeated b p
  pub allowed : AreAllowed b.seats p.acts
  pub issued : (n : ℕ) → b.issued n ++ days_of_approval n p.acts ≡ days_of_issue (entry_at p.rows.entries n)
  pub opened : begins_with_opening p.acts ≡ true → IsNothing b

-- among the acts entry n has one approval, on the day, by a person who had a lawyer's seat then
pub record IsApprovedOnce (seats : List Seat) (n day : ℕ) (acts : List Act) : Type 0 where
  pub before : List Act
  pub act : Act
  pub behind : List Act
  pub among : acts ≡ before ++ act ∷ behind
  pub entry : act.entry ≡ Some n
  pub is : is_approval act.deed ≡ true
  pub on_day : act.day ≡ day
  pub lawyer : HasLawyersSeat (fold seats_by seats before) act.caller
  pub none_before : days_of_approval n before ≡ []
  pub none_behind : days_of_approval n behind ≡ []

-- in a signed dossier this is so of each payment that was not issued before the acts begin, and is or was issued
abbrev pub IssuesAreApproved : Type 0
IssuesAreApproved =
    (b : Beginning) (p : Dossier) (n day : ℕ) → IsSigned b p → b.issued n ≡ []
    → days_of_issue (entry_at p.rows.entries n) ≡ day ∷ [] → IsApprovedOnce b.seats n day p.acts

-- what the rows themselves say of the time before the acts begin
abbrev pub beginning_of : Rows → Beginning
beginning_of rows = record { seats = rows.seats; issued = λ n. days_of_issue (entry_at rows.entries n) }

-- rows without acts are signed, whatever they are
abbrev pub NoActsAreSigned : Type 0
NoActsAreSigned = (rows : Rows) → IsSigned (beginning_of rows) (record { rows = rows; acts = [] })

-- each step keeps the dossier of sound rows signed
abbrev pub StepsKeepSigned : Type 0
StepsKeepSigned =
    (b : Beginning) (p : Dossier) (step : Doing) → Sound p.rows → IsSigned b p
    → IsSigned (beginning_after p step b) (dossier_after_step p step)

-- the amount in an ask, if any, is in range
abbrev pub HasItsAmount : Doing → Type 0
HasItsAmount (AnAsk a) = HasAmount a.ask
HasItsAmount (ALine l today) = Unit {0}

-- where the acts begin that stand in the dossier after a run of steps
abbrev pub beginning_after_run : Dossier → List Doing → Beginning → Beginning
beginning_after_run p [] b = b
beginning_after_run p (step ∷ run) b = beginning_after_run (dossier_after_step p step) run (beginning_after p step b)

-- so does each run
abbrev pub RunsKeepSigned : Type 0
RunsKeepSigned =
    (b : Beginning) (p : Dossier) (run : List Doing) → AllByRecursion HasItsAmount run → Sound p.rows → IsSigned b p
    → IsSigned (beginning_after_run p run b) (dossier_after_run p run)

-- after every run from a matter that was never opened its dossier is signed
abbrev pub RunsAreSigned : Type 0
RunsAreSigned =
    (run : List Doing) → AllByRecursion HasItsAmount run → IsSigned nothing_before (dossier_after_run no_dossier run)

-- Who may ask what: a set of pairs of standing and rule, and the rule of each ask.
use Rattle.std.specs.Prelude.{Bool, true, false, ◌&&◌, List, [], ◌∷◌, Option, Some, None}
use Rattle.std.specs.List.{list_any}
use Rattle.std.specs.Option.{option_map}
use Rattle.trust_base.specs.declared.refusal.Rule.{Rule}
use Rattle.trust_base.specs.declared.refusal.Rule.TheVariants as rule
use Rattle.matter_rows.specs.declared.seat.Role.{Role}
use Rattle.matter_rows.specs.declared.seat.Role.TheVariants as role
use Rattle.matter_rows.specs.declared.seat.Seat.{Seat}
use Rattle.matter_rows.specs.declared.claim.Against.{Against}
use Rattle.matter_rows.specs.declared.claim.Against.TheVariants as against
use Rattle.matter_rows.specs.Rows.{role_in}
use Rattle.matter_rows.specs.declared.act.Caller.{Caller}
use Rattle.matter_rows.specs.declared.act.Caller.TheVariants as caller
use Rattle.trust_matter.specs.declared.ask.Ask.{Ask}
use Rattle.trust_matter.specs.declared.ask.Ask.TheVariants as ask

-- what a caller is to a matter
pub data Standing : Type 0 where
  Client : Standing
  Lawyer : Standing
  Cashier : Standing

-- a client disputes a fee; a claim on what is available is for a lawyer or the cashier
abbrev pub rule_against : Against → Rule
rule_against (against.General claimant) = rule.Claim
rule_against (against.Fee k) = rule.Dispute

-- the rule that an ask comes under
abbrev pub rule_of : Ask → Rule
rule_of (ask.OpenMatter a) = rule.Office
rule_of (ask.AddSeat s) = rule.Office
rule_of (ask.DropSeat p) = rule.Office
rule_of (ask.Deposit a) = rule.Office
rule_of (ask.CancelDeposit n) = rule.Office
rule_of (ask.Propose a) = rule.Propose
rule_of (ask.Approve n) = rule.Sign
rule_of (ask.Decline n) = rule.Sign
rule_of (ask.Withdraw n) = rule.Propose
rule_of (ask.VoidPayment n) = rule.Sign
rule_of (ask.EarnFee a) = rule.Sign
rule_of (ask.RaiseClaim a) = rule_against a.against
rule_of (ask.Offer a) = rule.Sign
rule_of (ask.Accept a) = rule.Dispute
rule_of (ask.Award a) = rule.Office
rule_of ask.CloseMatter = rule.Office
rule_of ask.Purge = rule.Office
rule_of ask.Show = rule.Read
rule_of ask.ShowEntries = rule.Read
rule_of ask.Accounting = rule.Read
rule_of (ask.Account p) = rule.Read
rule_of (ask.ShowEntry n) = rule.Read

-- a matter changes under every rule except reading and reports of the firm
abbrev pub changes_matter : Rule → Bool
changes_matter rule.Read = false
changes_matter rule.Dispute = true
changes_matter rule.Claim = true
changes_matter rule.Propose = true
changes_matter rule.Sign = true
changes_matter rule.Office = true
changes_matter rule.Firm = false

-- the policy: each standing paired with each rule under which it may ask
abbrev pub policy : List (Standing × Rule)
policy =
    (Client, rule.Read)
    ∷ (Client, rule.Dispute)
    ∷ (Lawyer, rule.Read)
    ∷ (Lawyer, rule.Claim)
    ∷ (Lawyer, rule.Propose)
    ∷ (Lawyer, rule.Sign)
    ∷ (Cashier, rule.Read)
    ∷ (Cashier, rule.Claim)
    ∷ (Cashier, rule.Propose)
    ∷ (Cashier, rule.Office)
    ∷ (Cashier, rule.Firm)
    ∷ []

abbrev pub same_standing : Standing → Standing → Bool
same_standing Client Client = true
same_standing Lawyer Lawyer = true
same_standing Cashier Cashier = true
same_standing _ _ = false

abbrev pub same_rule : Rule → Rule → Bool
same_rule rule.Read rule.Read = true
same_rule rule.Dispute rule.Dispute = true
same_rule rule.Claim rule.Claim = true
same_rule rule.Propose rule.Propose = true
same_rule rule.Sign rule.Sign = true
same_rule rule.Office rule.Office = true
same_rule rule.Firm rule.Firm = true
same_rule _ _ = false

-- the policy has this pair
abbrev pub has : Standing → Rule → Bool
has s r = list_any (λ p. same_standing p.0 s && same_rule p.1 r) policy

abbrev pub standing_in : Role → Standing
standing_in role.Client = Client
standing_in role.Lawyer = Lawyer

-- what the caller is to the matter; None for a person without a seat
abbrev pub standing_of : List Seat → Caller → Option Standing
standing_of seats caller.Cashier = Some Cashier
standing_of seats (caller.Person p) = option_map standing_in (role_in seats p)

abbrev pub some_has : Option Standing → Rule → Bool
some_has None r = false
some_has (Some s) r = has s r

-- the policy allows the caller to ask under this rule
abbrev pub allows : List Seat → Caller → Rule → Bool
allows seats c r = some_has (standing_of seats c) r

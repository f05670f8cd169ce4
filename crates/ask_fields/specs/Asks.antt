-- How asks are made from their fields, in order: the first invalid field is reported. If an ask has fields besides its
-- entry, the number of the entry comes first.
use Rattle.std.specs.Prelude.{ℕ, List, Option, Some, None, Result, Ok, Err}
use Rattle.trust_base.specs.declared.refusal.Field.{Field}
use Rattle.trust_base.specs.declared.refusal.Field.TheVariants as field
use Rattle.trust_matter.specs.declared.ask.Ask.{Ask}
use Rattle.trust_matter.specs.declared.ask.Ask.TheVariants as ask
use Rattle.trust_matter.specs.declared.claim.SplitAsk.{SplitAsk}
use Rattle.matter_rows.specs.declared.claim.Against.{Against}
use Rattle.matter_rows.specs.declared.payment.Fund.{Fund}
use Rattle.matter_rows.specs.declared.seat.Role.{Role}
use Rattle.ask_fields.specs.Fields.{of_entry}

-- ---- the matter and its seats

-- to open a matter for a client with a lawyer
abbrev pub opening : Option (List ℕ) → Option (List ℕ) → Result Ask Field
opening None lawyer = Err field.Client
opening (Some client) None = Err field.Lawyer
opening (Some client) (Some lawyer) = Ok (ask.OpenMatter (record { client = client; lawyer = lawyer }))

-- to seat a person in a role
abbrev pub seating : Option (List ℕ) → Option Role → Result Ask Field
seating None r = Err field.Person
seating (Some person) None = Err field.Role
seating (Some person) (Some r) = Ok (ask.AddSeat (record { person = person; role = r }))

-- to drop a person's seat
abbrev pub dropping : Option (List ℕ) → Result Ask Field
dropping None = Err field.Person
dropping (Some person) = Ok (ask.DropSeat person)

-- ---- deposits

-- to book a deposit of an amount, from a source, with a description
abbrev pub depositing : ℕ → Option ℕ → Option (List ℕ) → Option (List ℕ) → Result Ask Field
depositing number None source description = Err field.Amount
depositing number (Some amount) None description = Err field.Source
depositing number (Some amount) (Some source) None = Err field.Description
depositing number (Some amount) (Some source) (Some description) =
    Ok (ask.Deposit (record { number = number; amount = amount; source = source; description = description }))

-- ---- payments

-- to propose a payment of an amount from a fund, to a payee, for a purpose, by an instrument
abbrev pub proposing : ℕ → Option ℕ → Result Fund Field → Option (List ℕ) → Option (List ℕ) → Option (List ℕ)
    → Result Ask Field
proposing number None from payee purpose instrument = Err field.Amount
proposing number (Some amount) (Err f) payee purpose instrument = Err f
proposing number (Some amount) (Ok from) None purpose instrument = Err field.Payee
proposing number (Some amount) (Ok from) (Some payee) None instrument = Err field.Purpose
proposing number (Some amount) (Ok from) (Some payee) (Some purpose) None = Err field.Instrument
proposing number (Some amount) (Ok from) (Some payee) (Some purpose) (Some instrument) =
    Ok (ask.Propose (record {
      number = number;
      amount = amount;
      fund = from;
      payee = payee;
      purpose = purpose;
      instrument = instrument;
    }))

-- ---- fees

-- to set apart a fee of an amount, with a description
abbrev pub earning : ℕ → Option ℕ → Option (List ℕ) → Result Ask Field
earning number None description = Err field.Amount
earning number (Some amount) None = Err field.Description
earning number (Some amount) (Some description) =
    Ok (ask.EarnFee (record { number = number; amount = amount; description = description }))

-- ---- claims

-- to raise a claim of an amount on a fund or a fee, for a reason
abbrev pub claiming : ℕ → Option ℕ → Result Against Field → Option (List ℕ) → Result Ask Field
claiming number None on reason = Err field.Amount
claiming number (Some amount) (Err f) reason = Err f
claiming number (Some amount) (Ok on) None = Err field.Reason
claiming number (Some amount) (Ok on) (Some reason) =
    Ok (ask.RaiseClaim (record { number = number; amount = amount; against = on; reason = reason }))

-- to split a claim: the part of the client is offered, accepted or awarded
abbrev pub splitting : (SplitAsk → Ask) → ℕ → Option ℕ → Result Ask Field
splitting way number None = Err field.ToClient
splitting way number (Some part) = Ok (way (record { number = number; to_client = part }))

-- ---- asks of an entry alone

-- to cancel a deposit, to approve, decline or void a payment, or to show an entry, given the text of its number
abbrev pub naming : (ℕ → Ask) → List ℕ → Result Ask Field
naming way bs = of_entry bs (λ number. Ok (way number))

-- What a place asks, with the fields of a body. The body of a request that only reads is ignored.
use Rattle.std.specs.Prelude.{ℕ, List, [], ◌∷◌, codes, Option, Some, None, Result, Ok, Err}
use Rattle.trust_base.specs.Names.{label_of, person_of}
use Rattle.trust_base.specs.Periods.{Span}
use Rattle.trust_base.specs.Texts.{amount_of, amount_or_zero_of}
use Rattle.trust_base.specs.declared.refusal.Field.{Field}
use Rattle.trust_base.specs.declared.refusal.Field.TheVariants as field
use Rattle.trust_matter.specs.declared.ask.Ask.{Ask}
use Rattle.trust_matter.specs.declared.ask.Ask.TheVariants as ask
use Rattle.trust_matter.specs.declared.claim.SplitAsk.{SplitAsk}
use Rattle.ask_fields.specs.Asks.{claiming, depositing, dropping, earning, opening, proposing, seating, splitting}
use Rattle.ask_fields.specs.Fields.{against_in, fund_in, of_entry, role_of}
use Rattle.portal_requests.specs.declared.routes.MatterPlace.{MatterPlace}
use Rattle.portal_requests.specs.declared.routes.MatterPlace.TheVariants as matter
use Rattle.portal_requests.specs.declared.routes.EntryPlace.{EntryPlace}
use Rattle.portal_requests.specs.declared.routes.EntryPlace.TheVariants as entry
use Rattle.portal_requests.specs.Bodies.{optional_text_at, text_at, with_body}
use Rattle.portal_requests.specs.Paths.{part, period_in}

-- ---- of a matter as a whole

abbrev pub opening_in : List ℕ → Result Ask Field
opening_in body = with_body (codes "client" ∷ codes "lawyer" ∷ []) body
    (λ d. opening (label_of (text_at (codes "client") d)) (person_of (text_at (codes "lawyer") d)))

abbrev pub seating_in : List ℕ → Result Ask Field
seating_in body = with_body (codes "person" ∷ codes "role" ∷ []) body
    (λ d. seating (person_of (text_at (codes "person") d)) (role_of (text_at (codes "role") d)))

abbrev pub dropping_in : List ℕ → Result Ask Field
dropping_in body = with_body (codes "person" ∷ []) body (λ d. dropping (person_of (text_at (codes "person") d)))

-- the statement of account for a period
abbrev pub account_within : Option Span → Result Ask Field
account_within None = Err field.Day
account_within (Some period) = Ok (ask.Account period)

-- of the path only the days of a period are used
abbrev pub matter_ask : MatterPlace → List ℕ → List ℕ → Result Ask Field
matter_ask matter.Show path body = Ok ask.Show
matter_ask matter.Open path body = opening_in body
matter_ask matter.AddSeat path body = seating_in body
matter_ask matter.DropSeat path body = dropping_in body
matter_ask matter.Close path body = with_body [] body (λ d. Ok ask.CloseMatter)
matter_ask matter.Purge path body = with_body [] body (λ d. Ok ask.Purge)
matter_ask matter.Entries path body = Ok ask.ShowEntries
matter_ask matter.Accounting path body = Ok ask.Accounting
matter_ask matter.Account path body = account_within (period_in (part 4 path) (part 5 path))

-- ---- of an entry

abbrev pub depositing_in : ℕ → List ℕ → Result Ask Field
depositing_in number body = with_body (codes "amount" ∷ codes "source" ∷ codes "description" ∷ []) body
    (λ d. depositing number (amount_of (text_at (codes "amount") d)) (label_of (text_at (codes "source") d))
    (label_of (text_at (codes "description") d)))

abbrev pub payment_keys : List (List ℕ)
payment_keys = codes "amount" ∷ codes "from" ∷ codes "of" ∷ codes "payee" ∷ codes "purpose" ∷ codes "instrument" ∷ []

abbrev pub proposing_in : ℕ → List ℕ → Result Ask Field
proposing_in number body = with_body payment_keys body
    (λ d. proposing number (amount_of (text_at (codes "amount") d))
    (fund_in (text_at (codes "from") d) (optional_text_at (codes "of") d)) (label_of (text_at (codes "payee") d))
    (label_of (text_at (codes "purpose") d)) (label_of (text_at (codes "instrument") d)))

abbrev pub earning_in : ℕ → List ℕ → Result Ask Field
earning_in number body = with_body (codes "amount" ∷ codes "description" ∷ []) body
    (λ d. earning number (amount_of (text_at (codes "amount") d)) (label_of (text_at (codes "description") d)))

abbrev pub claim_keys : List (List ℕ)
claim_keys = codes "amount" ∷ codes "on" ∷ codes "of" ∷ codes "claimant" ∷ codes "reason" ∷ []

abbrev pub claiming_in : ℕ → List ℕ → Result Ask Field
claiming_in number body = with_body claim_keys body
    (λ d. claiming number (amount_of (text_at (codes "amount") d))
    (against_in (text_at (codes "on") d) (optional_text_at (codes "of") d) (optional_text_at (codes "claimant") d))
    (label_of (text_at (codes "reason") d)))

-- offers, accepts or awards the client's part of a claim
abbrev pub splitting_in : (SplitAsk → Ask) → ℕ → List ℕ → Result Ask Field
splitting_in way number body = with_body (codes "to_client" ∷ []) body
    (λ d. splitting way number (amount_or_zero_of (text_at (codes "to_client") d)))

abbrev pub numbered_ask : EntryPlace → ℕ → List ℕ → Result Ask Field
numbered_ask entry.Show number body = Ok (ask.ShowEntry number)
numbered_ask entry.Deposit number body = depositing_in number body
numbered_ask entry.Cancel number body = with_body [] body (λ d. Ok (ask.CancelDeposit number))
numbered_ask entry.Propose number body = proposing_in number body
numbered_ask entry.Approve number body = with_body [] body (λ d. Ok (ask.Approve number))
numbered_ask entry.Decline number body = with_body [] body (λ d. Ok (ask.Decline number))
numbered_ask entry.Withdraw number body = with_body [] body (λ d. Ok (ask.Withdraw number))
numbered_ask entry.Void number body = with_body [] body (λ d. Ok (ask.VoidPayment number))
numbered_ask entry.Fee number body = earning_in number body
numbered_ask entry.Claim number body = claiming_in number body
numbered_ask entry.Offer number body = splitting_in ask.Offer number body
numbered_ask entry.Accept number body = splitting_in ask.Accept number body
numbered_ask entry.Award number body = splitting_in ask.Award number body

-- the entry is judged first, then the body and its fields
abbrev pub entry_ask : EntryPlace → List ℕ → List ℕ → Result Ask Field
entry_ask place number body = of_entry number (λ n. numbered_ask place n body)

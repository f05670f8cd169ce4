-- The fields of asks: their values, from their texts.
use Rattle.std.specs.Prelude.{◌≡◌, ℕ, List, codes, Option, Some, None, option_map, option_and_then, Result, Ok, Err, if◌then◌else◌, ⊤}
use Rattle.std.specs.Option.{ok_or}
use Rattle.std.specs.Str.{bytes_eq}
use Rattle.trust_base.specs.Names.{label_of}
use Rattle.trust_base.specs.Texts.{entry_of}
use Rattle.trust_base.specs.declared.refusal.Field.{Field}
use Rattle.trust_base.specs.declared.refusal.Field.TheVariants as field
use Rattle.trust_base.specs.declared.refusal.Refusal.{Refusal}
use Rattle.trust_base.specs.declared.refusal.Refusal.TheVariants.{BadField, Memory}
use Rattle.matter_rows.specs.declared.claim.Against.{Against}
use Rattle.matter_rows.specs.declared.claim.Against.TheVariants as against
use Rattle.matter_rows.specs.declared.payment.Fund.{Fund}
use Rattle.matter_rows.specs.declared.payment.Fund.TheVariants as fund
use Rattle.matter_rows.specs.declared.seat.Role.{Role}
use Rattle.matter_rows.specs.declared.seat.Role.TheVariants as role
use Rattle.matter_rows.specs.Rows.{role_name}

-- ---- what was read

-- what was wanted was read, or its invalid field was reported, or memory ran out
abbrev pub Reads : {T : Type 0} → Result T Field → Result T Refusal → Type 0
Reads wanted (Ok x) = wanted ≡ Ok x
Reads wanted (Err (BadField f)) = wanted ≡ Err f
Reads wanted (Err Memory) = ⊤
Reads wanted (Err _) = ⊥

-- ---- the entry, which is checked before all other fields

abbrev pub of_number : {T : Type 0} → Option ℕ → (ℕ → Result T Field) → Result T Field
of_number None asked = Err field.Entry
of_number (Some number) asked = asked number

-- what is asked of the entry whose number is written as these bytes
abbrev pub of_entry : {T : Type 0} → List ℕ → (ℕ → Result T Field) → Result T Field
of_entry bs asked = of_number (entry_of bs) asked

-- ---- a person's role

abbrev pub role_of : List ℕ → Option Role
role_of bs =
    if bytes_eq bs (role_name role.Client) then Some role.Client
    else if bytes_eq bs (role_name role.Lawyer) then Some role.Lawyer
    else None

-- ---- the fund of a payment: its kind is checked first, then the entry that it is

-- the general fund, which has no entry
abbrev pub general_of : Option (List ℕ) → Option Fund
general_of None = Some fund.General
general_of (Some of) = None

abbrev pub fund_in : List ℕ → Option (List ℕ) → Result Fund Field
fund_in from of =
    if bytes_eq from (codes "general") then ok_or (general_of of) field.Of
    else if bytes_eq from (codes "fee") then ok_or (option_map fund.Fee (option_and_then entry_of of)) field.Of
    else if bytes_eq from (codes "claim") then ok_or (option_map fund.Claim (option_and_then entry_of of)) field.Of
    else Err field.From

-- ---- what a claim is on: its kind is checked first, then the fee that it is on, then who claims

-- on the general fund: there is a claimant and no entry
abbrev pub on_general : Option (List ℕ) → Option (List ℕ) → Result Against Field
on_general (Some of) claimant = Err field.Of
on_general None claimant = ok_or (option_map against.General (option_and_then label_of claimant)) field.Claimant

-- on a fee: there is an entry and no claimant, since the client claims it
abbrev pub on_fee : Option ℕ → Option (List ℕ) → Result Against Field
on_fee None claimant = Err field.Of
on_fee (Some number) (Some claimant) = Err field.Claimant
on_fee (Some number) None = Ok (against.Fee number)

abbrev pub against_in : List ℕ → Option (List ℕ) → Option (List ℕ) → Result Against Field
against_in on of claimant =
    if bytes_eq on (codes "general") then on_general of claimant
    else if bytes_eq on (codes "fee") then on_fee (option_and_then entry_of of) claimant
    else Err field.On

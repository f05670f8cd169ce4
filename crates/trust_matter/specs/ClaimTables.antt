-- When raising or splitting a claim is refused, in the order of the refusals' numbers.
use Rattle.std.specs.Prelude.{ℕ, Bool, ◌&&◌, List, [], ◌∷◌, Option, is_none}
use Rattle.trust_base.specs.declared.refusal.Refusal.{Refusal}
use Rattle.trust_base.specs.declared.refusal.Refusal.TheVariants as refusals
use Rattle.matter_rows.specs.declared.claim.Against.{Against}
use Rattle.matter_rows.specs.declared.entry.Entry.{Entry}
use Rattle.trust_matter.specs.Conditions.{is_on_fee, is_no_fee, is_cash_claimant, is_no_claim, is_claim_settled, exceeds_claim}

-- a claim must be on an existing fee, or for a claimant other than cash
abbrev pub against_conditions : Against → Option Entry → List (Bool × Refusal)
against_conditions on other =
    (is_on_fee on && is_none other, refusals.NoEntry)
    ∷ (is_on_fee on && is_no_fee other, refusals.WrongKind)
    ∷ (is_cash_claimant on, refusals.PayeeIsCash)
    ∷ []

-- only an existing, unsettled claim can be split, and the client's part is at most its amount
abbrev pub split_conditions : Option Entry → ℕ → List (Bool × Refusal)
split_conditions e part =
    (is_none e, refusals.NoEntry)
    ∷ (is_no_claim e, refusals.WrongKind)
    ∷ (is_claim_settled e, refusals.WrongState)
    ∷ (exceeds_claim e part, refusals.BadSplit)
    ∷ []

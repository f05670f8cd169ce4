-- No client's money ever pays another's debt.
use Rattle.std.specs.Prelude.{ℕ, ◌≡◌, List, [], ◌∷◌, pos, ◌≤ℤ◌}
use Rattle.matter_rows.specs.Balances.{ledger}
use Rattle.trust_matter.specs.Step.{HasAmount}
use Rattle.firm_rows.specs.Firm.{Firm, of}
use Rattle.firm_rows.specs.FirmSound.{FirmSound}
use Rattle.statement_csv.specs.declared.item.Item.{Item}
use Rattle.trust_desk.specs.Heard.{Heard, Kind, OfMatter, OfActs, OfItems, Dismisses, OnlyTold, OnlyShown, NotRead, kind_of}
use Rattle.trust_desk.specs.ItemStep.{after_item}
use Rattle.trust_desk.specs.FirmStep.{RunsSoundly, Steps, firm_step}
use Rattle.trust_desk.specs.declared.requests.Reply.{Reply}

abbrev pub KindHasAmounts : Kind → Type 0
KindHasAmounts (OfMatter m caller ask) = HasAmount ask
KindHasAmounts (OfActs m caller) = Unit {0}
KindHasAmounts (OfItems refused items) = Unit {0}
KindHasAmounts (Dismisses caller line) = Unit {0}
KindHasAmounts (OnlyTold text) = Unit {0}
KindHasAmounts (OnlyShown json) = Unit {0}
KindHasAmounts (NotRead named refusal) = Unit {0}

-- the amounts in what is heard are valid; a bank line may have any
abbrev pub HasAmounts : Heard → Type 0
HasAmounts h = KindHasAmounts (kind_of h)

abbrev pub AllHaveAmounts : List Heard → Type 0
AllHaveAmounts [] = Unit {0}
AllHaveAmounts (h ∷ hs) = HasAmounts h × AllHaveAmounts hs

-- the firm is sound, and no matter's ledger is below zero
pub record IsCovered (firm : Firm) : Type 0 where
  pub sound : FirmSound firm
  pub ledgers : (m : ℕ) → pos 0 ≤ℤ ledger (of m firm).entries

-- this is so before and after each item
abbrev pub AlwaysCoveredBy : ℕ → Firm → List Item → Type 0
AlwaysCoveredBy day firm [] = IsCovered firm
AlwaysCoveredBy day firm (it ∷ items) = IsCovered firm × AlwaysCoveredBy day (after_item day firm it) items

abbrev pub KindIsCovered : ℕ → Firm → Kind → Type 0
KindIsCovered day firm (OfMatter m caller ask) = IsCovered firm
KindIsCovered day firm (OfActs m caller) = IsCovered firm
KindIsCovered day firm (OfItems refused items) = AlwaysCoveredBy day firm items
KindIsCovered day firm (Dismisses caller line) = IsCovered firm
KindIsCovered day firm (OnlyTold text) = IsCovered firm
KindIsCovered day firm (OnlyShown json) = IsCovered firm
KindIsCovered day firm (NotRead named refusal) = IsCovered firm

-- this is so during what is heard
abbrev pub IsCoveredIn : ℕ → Firm → Heard → Type 0
IsCoveredIn day firm h = KindIsCovered day firm (kind_of h)

-- this is so before and after each step, and after each item of an import
abbrev pub AlwaysCovered : ℕ → Firm → List Heard → Type 0
AlwaysCovered day firm [] = IsCovered firm
AlwaysCovered day firm (h ∷ hs) = IsCoveredIn day firm h × AlwaysCovered day (firm_step day firm h).firm hs

-- the same for a run of the desk, whatever stopped its steps: before, during and after each
abbrev pub CoveredRun : ℕ → Firm → List Heard → List Reply → Firm → Type 0
CoveredRun day firm [] [] new = (new ≡ firm) × IsCovered firm
CoveredRun day firm [] (reply ∷ replies) new = ⊥
CoveredRun day firm (h ∷ hs) [] new = ⊥
CoveredRun day firm (h ∷ hs) (reply ∷ replies) new =
    (mid : Firm) × Steps day firm h reply mid × IsCoveredIn day firm h × CoveredRun day mid hs replies new

-- a run of the desk, whatever amounts are asked for
abbrev pub RunsNeverBelowZero : Type 0
RunsNeverBelowZero =
    (day : ℕ) (firm new : Firm) (hs : List Heard) (replies : List Reply) → FirmSound firm
    → RunsSoundly day firm hs replies new → CoveredRun day firm hs replies new

-- the firm's own steps, none of which was stopped
abbrev pub NeverBelowZero : Type 0
NeverBelowZero =
    (day : ℕ) (firm : Firm) (hs : List Heard) → FirmSound firm → AllHaveAmounts hs → AlwaysCovered day firm hs

-- The matters that a caller is shown, and the bodies that list them and what waits in them.
use Rattle.std.specs.Prelude.{ℕ, Bool, List, [], ◌∷◌, codes, map, is_none}
use Rattle.std.specs.List.{filter, flat_map}
use Rattle.serde_json.specs.Data.{Data}
use Rattle.serde_json.specs.Written.{compact_text}
use Rattle.matter_rows.specs.Rows.{Rows}
use Rattle.matter_rows.specs.declared.act.Caller.{Caller}
use Rattle.trust_matter.specs.declared.ask.Ask.TheVariants as ask
use Rattle.trust_matter.specs.Facts.{Asked}
use Rattle.trust_matter.specs.Step.{refusal}
use Rattle.firm_rows.specs.Firm.{Firm, of, opened_matters}
use Rattle.json_bodies.specs.Json.{array_of, object_of}
use Rattle.json_bodies.specs.Listed.{listed_object, waiting_in}

-- a caller looks at a matter; a look is answered alike on every day
abbrev pub looks : Caller → Asked
looks caller = record { caller = caller; ask = ask.Show; day = 0 }

-- the caller's look at the matter is not refused
abbrev pub is_shown : Caller → Rows → Bool
is_shown caller rows = is_none (refusal rows (looks caller))

-- the matters that a caller is shown, by number
abbrev pub listed_for : Caller → Firm → List ℕ
listed_for caller firm = filter (λ m. is_shown caller (of m firm)) (opened_matters firm)

-- ---- the matters

abbrev pub listed_objects : Caller → Firm → List ℕ → List Data
listed_objects caller firm ms = map (λ m. listed_object caller m (of m firm)) ms

abbrev pub matters_object : Caller → Firm → Data
matters_object caller firm =
    object_of ((codes "matters", array_of (listed_objects caller firm (listed_for caller firm))) ∷ [])

-- the body that lists a caller's matters
unfoldable pub matters_body : Caller → Firm → List ℕ
matters_body caller firm = compact_text (matters_object caller firm)

-- ---- what waits

abbrev pub waiting_objects : Firm → List ℕ → List Data
waiting_objects firm ms = flat_map (λ m. waiting_in m (of m firm)) ms

abbrev pub all_waiting : Caller → Firm → Data
all_waiting caller firm =
    object_of ((codes "waiting", array_of (waiting_objects firm (listed_for caller firm))) ∷ [])

-- the body that lists what waits in a caller's matters
unfoldable pub waiting_body : Caller → Firm → List ℕ
waiting_body caller firm = compact_text (all_waiting caller firm)

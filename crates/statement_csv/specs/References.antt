-- Who a line belongs to, by its reference.
use Rattle.std.specs.Prelude.{◌==◌, ◌&&◌, ℕ, List, ◌∷◌, ◌++◌, length, slice_index, slice_range, Option, Some, None, if◌then◌else◌, option_and_then, option_map, codes}
use Rattle.std.specs.Str.{bytes_eq}
use Rattle.trust_base.specs.Texts.{entry_of, entry_text, matter_of, matter_text}

-- an entry of a matter
pub record NamedEntry : Type 0 where
  pub matter : ℕ
  pub entry : ℕ

-- who a line belongs to: nobody is who has another reference
pub data LineOwner : Type 0 where
  Opening : LineOwner
  Closing : LineOwner
  Firm : LineOwner
  Entry : (named : NamedEntry) → LineOwner
  Nobody : LineOwner

-- an entry of a matter
abbrev pub named : ℕ → ℕ → NamedEntry
named matter entry = record { matter = matter; entry = entry }

-- the entry whose matter and number are written as these texts
abbrev pub entry_of_texts : List ℕ → List ℕ → Option NamedEntry
entry_of_texts matter entry = option_and_then (λ m. option_map (named m) (entry_of entry)) (matter_of matter)

-- the entry named by a reference: `M`, the six digits of the matter, `-` and the four digits of the entry
unfoldable pub entry_named : List ℕ → Option NamedEntry
entry_named reference =
    if (length reference == 12) && (slice_index reference 0 == 77) && (slice_index reference 7 == 45)
    then entry_of_texts (slice_range reference 1 7) (slice_range reference 8 12)
    else None

-- the owner, from the entry named
abbrev pub owner_by : Option NamedEntry → LineOwner
owner_by (Some entry) = Entry entry
owner_by None = Nobody

-- the reference that names an entry
abbrev pub reference_text : ℕ → ℕ → List ℕ
reference_text matter entry = 77 ∷ (matter_text matter ++ 45 ∷ entry_text entry)

-- who a line belongs to, by its reference
unfoldable pub owner_of : List ℕ → LineOwner
owner_of reference =
    if bytes_eq reference (codes "OPEN") then Opening
    else if bytes_eq reference (codes "CLOSE") then Closing
    else if bytes_eq reference (codes "FIRM") then Firm
    else owner_by (entry_named reference)

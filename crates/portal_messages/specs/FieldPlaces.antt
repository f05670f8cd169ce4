-- The fields of a head, by their positions in its bytes.
use Rattle.std.specs.Prelude.{◌≡◌, ◌≤◌, ℕ, List, ◌∷◌, length, map, drop}
use Rattle.httparse.specs.Spans.{IsWithin, header_bytes, span_bytes}
use Rattle.httparse.specs.declared.spans.HeaderSpan.{HeaderSpan}
use Rattle.portal_messages.specs.Fields.{values_of}
use Rattle.portal_messages.specs.declared.input.FieldAt.{FieldAt}

-- the names and values that the spans cover, from an index on
abbrev pub pairs_from : List ℕ → List HeaderSpan → ℕ → List (List ℕ × List ℕ)
pairs_from bytes fields i = map (header_bytes bytes) (drop i fields)

-- from an index on, the first value of this name is that of this field
pub record IsFirstOf (name bytes : List ℕ) (fields : List HeaderSpan) (from : ℕ) (f : FieldAt) : Type 0 where
  pub values : values_of name (pairs_from bytes fields from)
      ≡ span_bytes bytes f.value ∷ values_of name (pairs_from bytes fields f.next)
  pub next : f.next ≤ length fields
  pub value : IsWithin (length bytes) f.value

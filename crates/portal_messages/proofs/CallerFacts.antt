-- The values of the fields that name a caller, one field after another.
use Rattle.portal_messages.proofs.Names.{◌≡◌, ◌≤◌, ◌<◌, ◌+◌, ◌∙◌, ℕ, List, [], ◌∷◌, ◌++◌, true, false, length, sym, append_assoc, append-nil, HeaderSpan, span_bytes, values_of, pairs_from, arith, ints, nat_tests, add-one, drop-cons, get_or, drop_all}
use Rattle.std.specs.Str.{str_eq_ignore_ascii_case}

module _ (name bytes : List ℕ) (fields : List HeaderSpan) (d : HeaderSpan) (all : List (List ℕ)) where
  -- a field of the name
  pub field-yes : (i : ℕ) (values : List (List ℕ)) (value : List ℕ) → i < length fields → str_eq_ignore_ascii_case name (span_bytes bytes (get_or fields i d).name) ≡ true
      → value ≡ span_bytes bytes (get_or fields i d).value → values ++ values_of name (pairs_from bytes fields i) ≡ all → (values ++ value ∷ []) ++ values_of name (pairs_from bytes fields (i + 1)) ≡ all
  field-yes i values value lt same is before = grind (arith, ints, nat_tests, add-one, append_assoc, drop-cons)

  -- a field of another name
  pub field-no : (i : ℕ) (values : List (List ℕ)) → i < length fields → str_eq_ignore_ascii_case name (span_bytes bytes (get_or fields i d).name) ≡ false
      → values ++ values_of name (pairs_from bytes fields i) ≡ all → values ++ values_of name (pairs_from bytes fields (i + 1)) ≡ all
  field-no i values lt other before = rw (add-one i) (rw (drop-cons fields i d lt, other) at before)

-- no field is left
pub fields-done : (name bytes : List ℕ) (fields : List HeaderSpan) (all : List (List ℕ)) (i : ℕ) (values : List (List ℕ)) → length fields ≤ i
    → values ++ values_of name (pairs_from bytes fields i) ≡ all → values ≡ all
fields-done name bytes fields all i values le before = sym (append-nil values) ∙ (rw (drop_all i fields le) at before)

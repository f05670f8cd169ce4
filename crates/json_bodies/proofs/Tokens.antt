-- The tokens of an object that has one list.
use Rattle.std.proofs.Common.{Bool, List, [], ap, append-nil, append_assoc, cond, false, refl, sym, true, ℕ, ◌++◌, ◌∙◌, ◌∷◌, ◌≡◌}
use Rattle.std.specs.List.{filter, flat_map}
use Rattle.matter_rows.specs.declared.act.Caller.{Caller}
use Rattle.json.specs.Token.{Token}
use Rattle.json.specs.Tree.{items_tokens}
use Rattle.serde_json.specs.Data.{Data}
use Rattle.serde_json.specs.Written.{items_outline}
use Rattle.json_bodies.specs.Json.{array_of, items_of, object_of, value_tokens}
use Rattle.firm_rows.specs.Firm.{Firm, of}
use Rattle.json_bodies.specs.Listed.{listed_object, waiting_in}
use Rattle.json_bodies.specs.Lists.{is_shown, listed_objects, waiting_objects}

-- the tokens of these values and of the end of their array
abbrev pub items_rest : List Data → List Token
items_rest ds = items_tokens (items_outline (items_of ds))

rest-append : (xs ds : List Data) → items_rest (xs ++ ds) ≡ flat_map value_tokens xs ++ items_rest ds
rest-append [] ds = refl
rest-append (x ∷ xs) ds =
    ap (λ ts. value_tokens x ++ ts) (rest-append xs ds)
    ∙ sym (append_assoc (value_tokens x) (flat_map value_tokens xs) (items_rest ds))

-- the tokens of the object with one key, up to the first item of its array
abbrev pub front : List ℕ → List Token
front key = Token.begin_object ∷ Token.key key ∷ Token.begin_array ∷ []

-- the brackets behind the last item
pub ended : (key : List ℕ) (ds : List Data) (tokens : List Token)
    → tokens ++ items_rest [] ≡ front key ++ items_rest ds
    → (tokens ++ (Token.end_array ∷ [])) ++ (Token.end_object ∷ []) ≡ value_tokens (object_of ((key, array_of ds) ∷ []))
ended key ds tokens is = ap (λ ts. ts ++ (Token.end_object ∷ [])) is

-- Matters by number, of which those that are shown have their values in the array.
module _ (values : List ℕ → List Data) (here : ℕ → List Data) (is : (n : ℕ) (ns : List ℕ) → values (n ∷ ns) ≡ here n ++ values ns) (shown : ℕ → Bool) where
  abbrev pub rest : List ℕ → List Token
  rest ns = items_rest (values (filter shown ns))

  shown-first : (n : ℕ) (ns : List ℕ) → shown n ≡ true → rest (n ∷ ns) ≡ flat_map value_tokens (here n) ++ rest ns
  shown-first n ns on =
      ap (λ b. items_rest (values (cond b (n ∷ filter shown ns) (filter shown ns)))) on
      ∙ (ap items_rest (is n (filter shown ns)) ∙ rest-append (here n) (values (filter shown ns)))

  -- the values of a matter that is shown were written
  pub wrote : (n : ℕ) (ns : List ℕ) (old new all : List Token) → shown n ≡ true → new ≡ old ++ flat_map value_tokens (here n)
      → old ++ rest (n ∷ ns) ≡ all → new ++ rest ns ≡ all
  wrote n ns old new all on more so =
      ap (λ ts. ts ++ rest ns) more
      ∙ (append_assoc old (flat_map value_tokens (here n)) (rest ns)
      ∙ (ap (λ ts. old ++ ts) (sym (shown-first n ns on)) ∙ so))

  -- a matter that is not shown, or has no values, was passed over
  pub passed : (n : ℕ) (ns : List ℕ) (old all : List Token) → (shown n ≡ true → here n ≡ [])
      → old ++ rest (n ∷ ns) ≡ all → old ++ rest ns ≡ all
  passed n ns old all none so = ap (λ ts. old ++ ts) (sym (same (shown n) refl)) ∙ so
    where
      same : (b : Bool) → shown n ≡ b → rest (n ∷ ns) ≡ rest ns
      same true on = shown-first n ns on ∙ ap (λ ds. flat_map value_tokens ds ++ rest ns) (none on)
      same false off = ap (λ b. items_rest (values (cond b (n ∷ filter shown ns) (filter shown ns)))) off

-- what is written of these matters, and the end of the array
abbrev pub listed_rest : Caller → Firm → List ℕ → List Token
listed_rest caller firm ns = items_rest (listed_objects caller firm (filter (λ m. is_shown caller (of m firm)) ns))

abbrev pub waiting_rest : Caller → Firm → List ℕ → List Token
waiting_rest caller firm ns = items_rest (waiting_objects firm (filter (λ m. is_shown caller (of m firm)) ns))

pub listed-wrote : (caller : Caller) (firm : Firm) (n : ℕ) (ns : List ℕ) (old new all : List Token)
    → is_shown caller (of n firm) ≡ true → new ≡ old ++ value_tokens (listed_object caller n (of n firm))
    → old ++ listed_rest caller firm (n ∷ ns) ≡ all → new ++ listed_rest caller firm ns ≡ all
listed-wrote caller firm n ns old new all on more so =
    wrote (listed_objects caller firm) (λ m. listed_object caller m (of m firm) ∷ []) (λ m ms. refl) (λ m. is_shown caller (of m firm)) n ns old new all on
    (more ∙ ap (λ ts. old ++ ts) (sym (append-nil (value_tokens (listed_object caller n (of n firm)))))) so

pub listed-passed : (caller : Caller) (firm : Firm) (n : ℕ) (ns : List ℕ) (old all : List Token) → is_shown caller (of n firm) ≡ false
    → old ++ listed_rest caller firm (n ∷ ns) ≡ all → old ++ listed_rest caller firm ns ≡ all
listed-passed caller firm n ns old all off so =
    passed (listed_objects caller firm) (λ m. listed_object caller m (of m firm) ∷ []) (λ m ms. refl) (λ m. is_shown caller (of m firm)) n ns old all
    (λ on. absurd (cc)) so

pub waiting-wrote : (caller : Caller) (firm : Firm) (n : ℕ) (ns : List ℕ) (old new all : List Token)
    → is_shown caller (of n firm) ≡ true → new ≡ old ++ flat_map value_tokens (waiting_in n (of n firm))
    → old ++ waiting_rest caller firm (n ∷ ns) ≡ all → new ++ waiting_rest caller firm ns ≡ all
waiting-wrote caller firm = wrote (waiting_objects firm) (λ m. waiting_in m (of m firm)) (λ m ms. refl) (λ m. is_shown caller (of m firm))

pub waiting-passed : (caller : Caller) (firm : Firm) (n : ℕ) (ns : List ℕ) (old all : List Token)
    → (is_shown caller (of n firm) ≡ true → waiting_in n (of n firm) ≡ [])
    → old ++ waiting_rest caller firm (n ∷ ns) ≡ all → old ++ waiting_rest caller firm ns ≡ all
waiting-passed caller firm = passed (waiting_objects firm) (λ m. waiting_in m (of m firm)) (λ m ms. refl) (λ m. is_shown caller (of m firm))

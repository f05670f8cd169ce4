-- The steps of the loops over a text and over its tokens.
use Rattle.statement_lines.proofs.Names.{◌≡◌, ◌∙◌, ap, cond, cond-false, cond-true, ℕ, ◌+◌, ◌<◌, true, false, List, Option, [], ◌∷◌, ◌++◌, length, get_or, drop, take, ◌-◌, append_assoc, append-nil, ◌≤◌, refl, arith, at_drop_more, drop_all, drop_more, get_or-drop, take_rest, begins, goes_on, numeral_len, token_in_front, tokens_after, is_telling, telling_after, without_zeros, begins_with_reference, has_reference}

-- Digits in front.

-- the byte behind a place, as the first of what is left
next_of : (text : List ℕ) (i : ℕ) → get_or (drop (i + 1) text) 0 0 ≡ get_or text (i + 1) 0
next_of text i = get_or-drop (i + 1) text 0 0 ∙ ap (λ n. get_or text n 0) (omega arith)

numeral_step : (text : List ℕ) (i : ℕ) → i < length text
    → numeral_len (drop i text)
    ≡ cond (goes_on (get_or text i 0) (get_or text (i + 1) 0)) (1 + numeral_len (drop (i + 1) text)) 0
unfolding numeral_len
numeral_step text i lt =
    at_drop_more numeral_len text i 0 lt
    ∙ ap (λ b. cond (goes_on (get_or text i 0) b) (1 + numeral_len (drop (i + 1) text)) 0) (next_of text i)

pub numeral_more : (text : List ℕ) (i : ℕ) → i < length text
    → goes_on (get_or text i 0) (get_or text (i + 1) 0) ≡ true
    → numeral_len (drop i text) ≡ 1 + numeral_len (drop (i + 1) text)
numeral_more text i lt hit = numeral_step text i lt ∙ cond-true _ _ _ hit

pub numeral_stops : (text : List ℕ) (i : ℕ) → i < length text
    → goes_on (get_or text i 0) (get_or text (i + 1) 0) ≡ false → numeral_len (drop i text) ≡ 0
numeral_stops text i lt miss = numeral_step text i lt ∙ cond-false _ _ _ miss

pub numeral_nil : numeral_len [] ≡ 0
unfolding numeral_len
numeral_nil = refl

-- Tokens.

-- what is left of a text from a place on, as the code takes it
abbrev rest_of : List ℕ → ℕ → List ℕ
rest_of text i = take (length text - i) (drop i text)

pub tokens_more : (second last : ℕ) (text : List ℕ) (i : ℕ) (found : List (List ℕ)) → i < length text
    → begins second last (get_or text i 0) ≡ true
    → found ++ tokens_after second last (drop i text)
    ≡ (found ++ token_in_front (rest_of text i) ∷ []) ++ tokens_after last (get_or text i 0) (drop (i + 1) text)
unfolding tokens_after
tokens_more second last text i found lt hit = grind (arith, append_assoc, take_rest, drop_more)

pub tokens_none : (second last : ℕ) (text : List ℕ) (i : ℕ) → i < length text
    → begins second last (get_or text i 0) ≡ false
    → tokens_after second last (drop i text) ≡ tokens_after last (get_or text i 0) (drop (i + 1) text)
unfolding tokens_after
tokens_none second last text i lt miss = rw (drop_more text i 0 lt, miss) refl

pub tokens_done : (second last : ℕ) (text : List ℕ) (i : ℕ) (found : List (List ℕ)) → length text ≤ i
    → found ++ tokens_after second last (drop i text) ≡ found
unfolding tokens_after
tokens_done second last text i found past = rw (drop_all i text past) (append-nil found)

-- Telling numbers.

pub telling_more : (date : Option ℕ) (second last : List ℕ) (tokens : List (List ℕ)) (i : ℕ) (d : List ℕ) (found : List (List ℕ))
    → i < length tokens → is_telling date second last (get_or tokens i d) ≡ true
    → found ++ telling_after date second last (drop i tokens)
    ≡ (found ++ without_zeros (get_or tokens i d) ∷ []) ++ telling_after date last (get_or tokens i d) (drop (i + 1) tokens)
unfolding telling_after
telling_more date second last tokens i d found lt hit = grind (arith, append_assoc, drop_more)

pub telling_none : (date : Option ℕ) (second last : List ℕ) (tokens : List (List ℕ)) (i : ℕ) (d : List ℕ)
    → i < length tokens → is_telling date second last (get_or tokens i d) ≡ false
    → telling_after date second last (drop i tokens) ≡ telling_after date last (get_or tokens i d) (drop (i + 1) tokens)
unfolding telling_after
telling_none date second last tokens i d lt miss = rw (drop_more tokens i d lt, miss) refl

pub telling_done : (date : Option ℕ) (second last : List ℕ) (tokens : List (List ℕ)) (i : ℕ) (found : List (List ℕ))
    → length tokens ≤ i → found ++ telling_after date second last (drop i tokens) ≡ found
unfolding telling_after
telling_done date second last tokens i found past = rw (drop_all i tokens past) (append-nil found)

-- A reference.

pub reference_found : (reference text : List ℕ) (i : ℕ) → i < length text
    → begins_with_reference reference (rest_of text i) ≡ true → has_reference reference (drop i text) ≡ true
unfolding has_reference
reference_found reference text i lt hit =
    let starts = rw (take_rest text i, drop_more text i 0 lt) at hit in
    rw (drop_more text i 0 lt, starts) refl

pub reference_later : (reference text : List ℕ) (i : ℕ) → i < length text
    → begins_with_reference reference (rest_of text i) ≡ false
    → has_reference reference (drop i text) ≡ has_reference reference (drop (i + 1) text)
unfolding has_reference
reference_later reference text i lt miss =
    let other = rw (take_rest text i, drop_more text i 0 lt) at miss in
    rw (drop_more text i 0 lt, other) refl

pub reference_nil : (reference : List ℕ) → has_reference reference [] ≡ false
unfolding has_reference
reference_nil reference = refl

-- The steps of each loop.

pub ruleset numeral_steps = (numeral_more, numeral_stops, numeral_nil, drop_all)

pub ruleset token_steps = (tokens_more, tokens_none, tokens_done)

pub ruleset telling_steps = (telling_more, telling_none, telling_done)

pub ruleset reference_steps = (reference_found, reference_later, reference_nil, drop_all)

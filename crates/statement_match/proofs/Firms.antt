-- What a firm has, matter by matter.
use Rattle.statement_match.proofs.Names.{◌≡◌, ℕ, Bool, true, cond, List, [], ◌∷◌, ◌++◌, map, ◌⊎◌, Contains, filter, EntryRow, Firm, HeadRow, Row, SeatRow, reference_text, Waiting, filter_has, flat_map_has, held_of, row_waiting, with_matters, HasLess, IsPart, NoneOf, With, Without, FilledWaits, IsHeldRow, IsIssuedRow, OtherMattersOnlyTakeAway, arith, ints, nat_tests}
use Rattle.std.specs.List.{flat_map}
use Rattle.statement_match.proofs.Filling.{fills_with_waiting}
use Rattle.statement_match.proofs.Less.{more_only_takes_away}
use Rattle.statement_match.proofs.Waits.{by_waiting, none_there, row_of}

-- Parts of lists.

part_same : {A : Type 0} (xs : List A) → IsPart xs xs
part_same [] = NoneOf
part_same (x ∷ xs) = With x xs xs (part_same xs)

part_behind : {A : Type 0} (some all : List A) (xs : List A) → IsPart some all → IsPart (some ++ xs) (all ++ xs)
part_behind _ _ xs NoneOf = part_same xs
part_behind _ _ xs (With x some all rest) = With x (some ++ xs) (all ++ xs) (part_behind some all xs rest)
part_behind _ _ xs (Without x some all rest) = Without x (some ++ xs) (all ++ xs) (part_behind some all xs rest)

part_in_front : {A : Type 0} (xs some all : List A) → IsPart some all → IsPart (xs ++ some) (xs ++ all)
part_in_front [] some all rest = rest
part_in_front (x ∷ xs) some all rest = With x (xs ++ some) (xs ++ all) (part_in_front xs some all rest)

part_beyond : {A : Type 0} (xs some all : List A) → IsPart some all → IsPart some (xs ++ all)
part_beyond [] some all rest = rest
part_beyond (x ∷ xs) some all rest = Without x some (xs ++ all) (part_beyond xs some all rest)

part_of_picked : {A B : Type 0} (f : A → List B) (b : Bool) (x : A) (some all : List A)
    → IsPart (flat_map f some) (flat_map f all) → IsPart (flat_map f (cond b (x ∷ some) some)) (f x ++ flat_map f all)
part_of_picked f b x some all rest = grind (arith, ints, nat_tests, part_in_front, flat_map, part_beyond)

part_of_filter : {A B : Type 0} (f : A → List B) (p : A → Bool) (xs : List A)
    → IsPart (flat_map f (filter p xs)) (flat_map f xs)
part_of_filter f p [] = NoneOf
part_of_filter f p (x ∷ xs) = part_of_picked f (p x) x (filter p xs) xs (part_of_filter f p xs)

-- Other matters' rows.

has_less : (is_kept : ℕ → Bool) (firm : Firm) → HasLess (held_of (with_matters is_kept firm)) (held_of firm)
unfolding held_of
has_less is_kept firm = grind (arith, ints, nat_tests, part_of_filter, part_behind, filter, map)

still_waits : (is_kept : ℕ → Bool) (firm : Firm) (m : ℕ) (row : Row) (w : Waiting)
    → is_kept m ≡ true → Contains firm.rows (m, row) → Contains (row_waiting (m, row)) w
    → Contains (held_of (with_matters is_kept firm)).waiting w
unfolding held_of
still_waits is_kept firm m row w hit there here =
    flat_map_has row_waiting (filter (λ p. is_kept p.0) firm.rows) (m, row) w
    (filter_has (λ p. is_kept p.0) firm.rows (m, row) hit there) here

pub other_matters_only_take_away : OtherMattersOnlyTakeAway
other_matters_only_take_away today firm is_kept lines line reference m row w hit there here fit e =
    more_only_takes_away today (held_of (with_matters is_kept firm)) (held_of firm) lines line reference w
    (has_less is_kept firm) (still_waits is_kept firm m row w hit there here) fit e

-- What a line is filled with.

row_from : (m : ℕ) (row : Row) (w : Waiting) → Contains (row_waiting (m, row)) w
    → (n : ℕ) × (w.reference ≡ reference_text m n) × (IsHeldRow row n ⊎ IsIssuedRow row n)
row_from m (HeadRow head) w there = absurd (none_there w there)
row_from m (SeatRow seat) w there = absurd (none_there w there)
row_from m (EntryRow n e) w there = grind (arith, ints, nat_tests, by_waiting, reference_text)

pub filled_waits : FilledWaits
filled_waits today firm lines line reference e =
    let filled = fills_with_waiting today (held_of firm) lines line reference e in
    let row = row_of firm filled.0 filled.1 in
    grind (arith, ints, nat_tests, row_from)

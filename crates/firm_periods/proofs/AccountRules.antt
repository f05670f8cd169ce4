-- What the functions of an account cite.
use Rattle.firm_periods.proofs.Names.{◌≡◌, ℕ, ◌+◌, ◌*◌, ◌<◌, ◌≤◌, Bool, true, false, cond, List, [], ◌∷◌, ◌++◌, length, map, take, refl, sym, ap, ◌∙◌, append-nil, append_assoc, arith, ℤ, pos, ◌+ℤ◌, nat_lt, filter, flat_map, ints, flat_map-append, map-append, Entry, sum_of, sum-append}
use Rattle.std.specs.Prelude.{get_or}
use Rattle.std.proofs.lemmas.List.{take_more}
use Rattle.std.proofs.lemmas.List.Elements.{filter-append}
use Rattle.matter_parts.specs.declared.kept.Kept.{Kept}
use Rattle.firm_periods.specs.declared.moved.Moved.{Moved}
use Rattle.firm_periods.specs.Named.{moves_of}
use Rattle.firm_periods.specs.Accounts.{AccountedMove, EntryMoved, IsSumMoved, account_from, closing_from, entry_moved, kept_moves, moved_before, moves_at, sum_before}

-- the sum of two sums
pub small-both : (a b : ℕ) (x y : ℤ) → IsSumMoved a x → IsSumMoved b y → IsSumMoved (a + b) (x +ℤ y)
small-both a b x y one other = grind (arith, ints)

before-of : (day n : ℕ) (e : Entry) (vs : List Moved) → moved_before day (map (entry_moved n e) vs) ≡ sum_before day vs
before-of day n e [] = refl
before-of day n e (v ∷ vs) = cases (nat_lt v.day day) (before-of day n e vs)
  where
    cases : (b : Bool) → moved_before day (map (entry_moved n e) vs) ≡ sum_before day vs → sum_of (λ (w : EntryMoved). w.moved.amount) (cond b (entry_moved n e v ∷ filter (λ (w : EntryMoved). nat_lt w.moved.day day) (map (entry_moved n e) vs)) (filter (λ (w : EntryMoved). nat_lt w.moved.day day) (map (entry_moved n e) vs))) ≡ sum_of (λ (w : Moved). w.amount) (cond b (v ∷ filter (λ w. nat_lt w.day day) vs) (filter (λ w. nat_lt w.day day) vs))
    cases true more = ap (λ z. v.amount +ℤ z) more
    cases false more = more

-- what one entry adds to the sum before a day
pub before-entry : (day n : ℕ) (e : Entry) (one other : List Moved) → one ++ other ≡ moves_of e → moved_before day (moves_at n e) ≡ sum_before day one +ℤ sum_before day other
before-entry day n e one other both =
    before-of day n e (moves_of e)
    ∙ (ap (sum_before day) (sym both)
    ∙ (ap (sum_of (λ (v : Moved). v.amount)) (filter-append (λ (v : Moved). nat_lt v.day day) one other)
    ∙ sum-append (λ (v : Moved). v.amount) (filter (λ v. nat_lt v.day day) one) (filter (λ v. nat_lt v.day day) other)))

-- what the entries before a place have, and the entry there
moves-next : (ks : List Kept) (i : ℕ) (k : Kept) → i < length ks → k ≡ get_or ks i k → kept_moves (take (i + 1) ks) ≡ kept_moves (take i ks) ++ moves_at k.number k.entry
moves-next ks i k inside at =
    ap kept_moves (take_more ks i k inside ∙ ap (λ j. take i ks ++ j ∷ []) (sym at))
    ∙ (flat_map-append (λ (j : Kept). moves_at j.number j.entry) (take i ks) (k ∷ [])
    ∙ ap (λ vs. kept_moves (take i ks) ++ vs) (append-nil (moves_at k.number k.entry)))

before-append : (day : ℕ) (one other : List EntryMoved) → moved_before day (one ++ other) ≡ moved_before day one +ℤ moved_before day other
before-append day one other =
    ap (sum_of (λ (v : EntryMoved). v.moved.amount)) (filter-append (λ (v : EntryMoved). nat_lt v.moved.day day) one other)
    ∙ sum-append (λ (v : EntryMoved). v.moved.amount) (filter (λ v. nat_lt v.moved.day day) one) (filter (λ v. nat_lt v.moved.day day) other)

pub before-next : (day : ℕ) (ks : List Kept) (i : ℕ) (k : Kept) → i < length ks → k ≡ get_or ks i k → moved_before day (kept_moves (take (i + 1) ks)) ≡ moved_before day (kept_moves (take i ks)) +ℤ moved_before day (moves_at k.number k.entry)
before-next day ks i k inside at =
    ap (moved_before day) (moves-next ks i k inside at)
    ∙ before-append day (kept_moves (take i ks)) (moves_at k.number k.entry)

-- one more movement
pub from-more : (z : ℤ) (vs : List EntryMoved) (v : EntryMoved) → account_from z (vs ++ v ∷ []) ≡ account_from z vs ++ record { number = v.number; entry = v.entry; moved = v.moved; ledger = closing_from z (account_from z vs) +ℤ v.moved.amount } ∷ []
from-more z [] v = refl
from-more z (w ∷ vs) v = ap (λ (ls : List AccountedMove). record { number = w.number; entry = w.entry; moved = w.moved; ledger = z +ℤ w.moved.amount } ∷ ls) (from-more (z +ℤ w.moved.amount) vs v)

pub closing-more : (z : ℤ) (vs : List EntryMoved) (v : EntryMoved) → closing_from z (account_from z (vs ++ v ∷ [])) ≡ closing_from z (account_from z vs) +ℤ v.moved.amount
closing-more z [] v = refl
closing-more z (w ∷ vs) v = closing-more (z +ℤ w.moved.amount) vs v

-- the movements before a place, and the one there
pub from-next : (z : ℤ) (vs : List EntryMoved) (i : ℕ) (v : EntryMoved) → i < length vs → v ≡ get_or vs i v → account_from z (take (i + 1) vs) ≡ account_from z (take i vs) ++ record { number = v.number; entry = v.entry; moved = v.moved; ledger = closing_from z (account_from z (take i vs)) +ℤ v.moved.amount } ∷ []
from-next z vs i v inside at =
    ap (account_from z) (take_more vs i v inside ∙ ap (λ w. take i vs ++ w ∷ []) (sym at))
    ∙ from-more z (take i vs) v

pub closing-next : (z : ℤ) (vs : List EntryMoved) (i : ℕ) (v : EntryMoved) → i < length vs → v ≡ get_or vs i v → closing_from z (account_from z (take (i + 1) vs)) ≡ closing_from z (account_from z (take i vs)) +ℤ v.moved.amount
closing-next z vs i v inside at =
    ap (λ ws. closing_from z (account_from z ws)) (take_more vs i v inside ∙ ap (λ w. take i vs ++ w ∷ []) (sym at))
    ∙ closing-more z (take i vs) v

pub ruleset sums = (filter-append, flat_map-append, map-append, sum-append, append_assoc, append-nil)

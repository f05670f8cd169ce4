-- The heads of joined rows are those of the matters that were joined.
use Rattle.trust_store.proofs.Names.{List, None, Option, Some, [], ap, refl, ℕ, ◌++◌, ◌+◌, ◌∷◌, ◌≡◌, Entry, Head, Row, Rows, Seat, headed, HeadRow, SeatRow, EntryRow, entry_pairs, head_pairs, pairs, seat_pairs}

-- the number, where there is a head
abbrev pub number_if : ℕ → Option Head → List ℕ
number_if m None = []
number_if m (Some head) = m ∷ []

pub headed-append : (xs ys : List (ℕ × Row)) → headed (xs ++ ys) ≡ headed xs ++ headed ys
headed-append [] ys = refl
headed-append ((m, HeadRow head) ∷ xs) ys = ap (λ ms. m ∷ ms) (headed-append xs ys)
headed-append ((m, SeatRow seat) ∷ xs) ys = headed-append xs ys
headed-append ((m, EntryRow n e) ∷ xs) ys = headed-append xs ys

headed-entries : (m n : ℕ) (es : List Entry) → headed (entry_pairs m n es) ≡ []
headed-entries m n [] = refl
headed-entries m n (e ∷ es) = headed-entries m (n + 1) es

headed-seats : (m : ℕ) (ss : List Seat) (es : List Entry) → headed (seat_pairs m ss ++ entry_pairs m 1 es) ≡ []
headed-seats m [] es = headed-entries m 1 es
headed-seats m (s ∷ ss) es = headed-seats m ss es

headed-of : (m : ℕ) (o : Option Head) (ss : List Seat) (es : List Entry) → headed (head_pairs m o ++ (seat_pairs m ss ++ entry_pairs m 1 es)) ≡ number_if m o
headed-of m None ss es = headed-seats m ss es
headed-of m (Some head) ss es = ap (λ ms. m ∷ ms) (headed-seats m ss es)

pub headed-pairs : (m : ℕ) (rows : Rows) → headed (pairs m rows) ≡ number_if m rows.head
headed-pairs m rows = headed-of m rows.head rows.seats rows.entries

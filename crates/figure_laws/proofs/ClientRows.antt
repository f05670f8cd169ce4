-- What the sink of the list of clients keeps of rows in order.
use Rattle.figure_laws.proofs.Names.{◌≡◌, ℕ, ◌*◌, ◌<◌, Bool, true, false, cond, List, [], ◌∷◌, ◌++◌, length, map, refl, sym, ap, ◌∙◌, subst, arith, append_assoc, append-nil, ℤ, pos, ◌+ℤ◌, ◌==◌, ◌||◌, fold, list_any, AllByRecursion, int_wrap, w128, FitsSigned, ints, int_wrap-add_left, int_wrap_fits, nat_tests, map-append, Head, Entry, sum_of, sum-same, sum-filter, Row, HeadRow, SeatRow, EntryRow, Firm, of, IsInOrder, AreCountable, IsRowInRange, IsFirmLineInRange, FirmLine, is_dated_by, own_by, added, at, of_row, rows-entries, ledger_share_by, is_row_purged_at, is_purged_at, all-map, IsAmount, entry_amount}
use Rattle.firm_figures.specs.Purged.{is_head_purged_at}
use Rattle.firm_figures.proofs.Sizes.{IsWithin, MOST, CENTS, WHOLE, sum-within, wider, tested, bank-within, amount-within, out-within, none-within, narrow}
use Rattle.firm_figures.specs.declared.clients_sink.ClientLine.{ClientLine}
use Rattle.firm_figures.specs.Clients.{is_listed, client_in, ledger_as_of, open_heads, client_line, client_lines, ClientsKept, no_clients, add_to_last, with_client_row, with_client_own}
use Rattle.figure_laws.specs.Kept.{ClientsAreKept}
use Rattle.firm_figures.proofs.Shares.{ledger_by}
use Rattle.firm_figures.proofs.OneMatter.{as-shares}
use Rattle.figure_laws.proofs.Reconciling.{entry-ledger}
use Rattle.firm_figures.proofs.Tidy.{After, Tidy, ordered-tidy}

-- The same step without 128 bits.

abbrev place_line : ℕ → ℤ → List ClientLine → List ClientLine
place_line m z [] = []
place_line m z (l ∷ []) = record l { ledger = l.ledger +ℤ cond (l.matter == m) z (pos 0) } ∷ []
place_line m z (l ∷ k ∷ ls) = l ∷ place_line m z (k ∷ ls)

abbrev placed_row : ℕ → List ClientLine → ℕ × Row → List ClientLine
placed_row p ls (m, HeadRow h) = ls ++ cond (is_listed p h) (record { matter = m; client = client_in h.holder; ledger = pos 0 } ∷ []) []
placed_row p ls (m, SeatRow seat) = ls
placed_row p ls (m, EntryRow n e) = place_line m (ledger_share_by p e) ls

module _ (p : ℕ) where
  abbrev place : ℕ → ℤ → List ClientLine → List ClientLine
  place = place_line

  abbrev begun : ℕ → Head → ClientLine
  begun m h = record { matter = m; client = client_in h.holder; ledger = pos 0 }

  abbrev opened : ℕ → Head → List ClientLine
  opened m h = cond (is_listed p h) (begun m h ∷ []) []

  abbrev placed : List ClientLine → ℕ × Row → List ClientLine
  placed = placed_row p

  place-last : (m : ℕ) (z : ℤ) (front : List ClientLine) (l : ClientLine) → place m z (front ++ l ∷ []) ≡ front ++ place m z (l ∷ [])
  place-last m z [] l = refl
  place-last m z (x ∷ []) l = refl
  place-last m z (x ∷ y ∷ front) l = ap (λ ls. x ∷ ls) (place-last m z (y ∷ front) l)

  fold-last : (front : List ClientLine) (l : ClientLine) (xs : List (ℕ × Row)) → fold placed (front ++ l ∷ []) xs ≡ front ++ fold placed (l ∷ []) xs
  fold-last front l [] = refl
  fold-last front l ((m, HeadRow h) ∷ xs) = cases (is_listed p h) (fold-last front l xs) (fold-last (front ++ l ∷ []) (begun m h) xs) (fold-last (l ∷ []) (begun m h) xs)
    where
      cases : (b : Bool) → fold placed (front ++ l ∷ []) xs ≡ front ++ fold placed (l ∷ []) xs → fold placed ((front ++ l ∷ []) ++ begun m h ∷ []) xs ≡ (front ++ l ∷ []) ++ fold placed (begun m h ∷ []) xs → fold placed (l ∷ begun m h ∷ []) xs ≡ l ∷ fold placed (begun m h ∷ []) xs → fold placed ((front ++ l ∷ []) ++ cond b (begun m h ∷ []) []) xs ≡ front ++ fold placed (l ∷ cond b (begun m h ∷ []) []) xs
      cases true same more one = more ∙ (append_assoc front (l ∷ []) (fold placed (begun m h ∷ []) xs) ∙ ap (λ ls. front ++ ls) (sym one))
      cases false same more one = ap (λ ls. fold placed ls xs) (append-nil (front ++ l ∷ [])) ∙ same
  fold-last front l ((m, SeatRow seat) ∷ xs) = fold-last front l xs
  fold-last front l ((m, EntryRow n e) ∷ xs) =
      ap (λ ls. fold placed ls xs) (place-last m (ledger_share_by p e) front l)
      ∙ fold-last front (record l { ledger = l.ledger +ℤ cond (l.matter == m) (ledger_share_by p e) (pos 0) }) xs

  -- What each matter's rows add.

  abbrev share : Row → ℤ
  share r = of_row (ledger_share_by p) r

  abbrev sum_at : ℕ → List (ℕ × Row) → ℤ
  sum_at k xs = sum_of (at (λ (q : ℕ × Row). q.0) (λ (q : ℕ × Row). share q.1) k) xs

  abbrev line_of : List (ℕ × Row) → ℕ × Head → ClientLine
  line_of xs k = record { matter = k.0; client = client_in k.1.holder; ledger = sum_at k.0 xs }

  abbrev told : List (ℕ × Row) → List ClientLine
  told xs = map (line_of xs) (open_heads p xs)

  -- two ways to tell the lines of greater matters
  open-same : (f g : ℕ × Head → ClientLine) (m : ℕ) (xs : List (ℕ × Row)) → AllByRecursion (After m) xs → ((k : ℕ × Head) → m < k.0 → f k ≡ g k) → map f (open_heads p xs) ≡ map g (open_heads p xs)
  open-same f g m [] all same = refl
  open-same f g m ((k, HeadRow h) ∷ xs) all same = cases (is_listed p h) (open-same f g m xs all.1 same)
    where
      cases : (b : Bool) → map f (open_heads p xs) ≡ map g (open_heads p xs) → map f (cond b ((k, h) ∷ open_heads p xs) (open_heads p xs)) ≡ map g (cond b ((k, h) ∷ open_heads p xs) (open_heads p xs))
      cases true more = λ i. same (k, h) (all.0.1 refl) i ∷ more i
      cases false more = more
  open-same f g m ((k, SeatRow s) ∷ xs) all same = open-same f g m xs all.1 same
  open-same f g m ((k, EntryRow n e) ∷ xs) all same = open-same f g m xs all.1 same

  no-share : (b : Bool) (z : ℤ) → cond b (pos 0) (pos 0) +ℤ z ≡ z
  no-share b z = grind (arith, ints)

  -- a row of matter m adds nothing to a greater one
  skipped : (m k : ℕ) (z s : ℤ) → m < k → cond (m == k) z (pos 0) +ℤ s ≡ s
  skipped m k z s lt = let apart : (m == k) ≡ false = grind (arith, nat_tests) in rw apart (omega (arith, ints))

  told-past : (m : ℕ) (r : Row) (xs : List (ℕ × Row)) → AllByRecursion (After m) xs → map (line_of ((m, r) ∷ xs)) (open_heads p xs) ≡ told xs
  told-past m r xs all = open-same (line_of ((m, r) ∷ xs)) (line_of xs) m xs all (λ k lt. λ i. record { matter = k.0; client = client_in k.1.holder; ledger = skipped m k.0 (share r) (sum_at k.0 xs) lt i })

  -- the rows of greater matters add nothing
  none-of : (k m : ℕ) (xs : List (ℕ × Row)) → k < m → AllByRecursion (After m) xs → sum_at k xs ≡ pos 0
  none-of k m [] lt all = refl
  none-of k m (q ∷ xs) lt all =
      let low = all.0.0 in
      let apart : (q.0 == k) ≡ false = grind (arith, nat_tests) in
      rw apart (omega (arith, ints, none-of k m xs lt all.1))

  -- The fold.

  -- with one line, whose matter may go on
  one-line : (l : ClientLine) (xs : List (ℕ × Row)) → AllByRecursion (After l.matter) xs → Tidy xs → fold placed (l ∷ []) xs ≡ record l { ledger = l.ledger +ℤ sum_at l.matter xs } ∷ told xs
  one-line l [] all tidy = λ i. record l { ledger = (let e : l.ledger ≡ l.ledger +ℤ pos 0 = omega (arith, ints) in e) i } ∷ []
  one-line l ((m, HeadRow h) ∷ xs) all tidy =
      cases (is_listed p h) (one-line l xs all.1 tidy.1) (one-line (begun m h) xs tidy.0 tidy.1)
    where
      lt : l.matter < m
      lt = all.0.1 refl

      past : sum_at l.matter ((m, HeadRow h) ∷ xs) ≡ sum_at l.matter xs
      past = no-share (m == l.matter) (sum_at l.matter xs)

      mine : sum_at m ((m, HeadRow h) ∷ xs) ≡ pos 0 +ℤ sum_at m xs
      mine = no-share (m == m) (sum_at m xs) ∙ omega (arith, ints)

      nothing : l.ledger ≡ l.ledger +ℤ sum_at l.matter ((m, HeadRow h) ∷ xs)
      nothing = omega (arith, ints, past, none-of l.matter m xs lt tidy.0)

      rest : told xs ≡ map (line_of ((m, HeadRow h) ∷ xs)) (open_heads p xs)
      rest = sym (told-past m (HeadRow h) xs tidy.0)

      cases : (b : Bool) → fold placed (l ∷ []) xs ≡ record l { ledger = l.ledger +ℤ sum_at l.matter xs } ∷ told xs → fold placed (begun m h ∷ []) xs ≡ record (begun m h) { ledger = pos 0 +ℤ sum_at m xs } ∷ told xs → fold placed (l ∷ cond b (begun m h ∷ []) []) xs ≡ record l { ledger = l.ledger +ℤ sum_at l.matter ((m, HeadRow h) ∷ xs) } ∷ map (line_of ((m, HeadRow h) ∷ xs)) (cond b ((m, h) ∷ open_heads p xs) (open_heads p xs))
      cases true same new =
          fold-last (l ∷ []) (begun m h) xs
          ∙ (ap (λ ls. l ∷ ls) new ∙ (λ i. record l { ledger = nothing i } ∷ record (begun m h) { ledger = sym mine i } ∷ rest i))
      cases false same new = same ∙ (λ i. record l { ledger = l.ledger +ℤ sym past i } ∷ rest i)
  one-line l ((m, SeatRow seat) ∷ xs) all tidy =
      one-line l xs all.1 tidy.1 ∙ (λ i. record l { ledger = l.ledger +ℤ sym (no-share (m == l.matter) (sum_at l.matter xs)) i } ∷ sym (told-past m (SeatRow seat) xs tidy.0) i)
  one-line l ((m, EntryRow n e) ∷ xs) all tidy =
      one-line (record l { ledger = l.ledger +ℤ cond (l.matter == m) (ledger_share_by p e) (pos 0) }) xs all.1 tidy.1
      ∙ (λ i. record l { ledger = joined i } ∷ sym (told-past m (EntryRow n e) xs tidy.0) i)
    where
      turned : (l.matter == m) ≡ (m == l.matter)
      turned = grind (arith, nat_tests)

      joined : (l.ledger +ℤ cond (l.matter == m) (ledger_share_by p e) (pos 0)) +ℤ sum_at l.matter xs ≡ l.ledger +ℤ (cond (m == l.matter) (ledger_share_by p e) (pos 0) +ℤ sum_at l.matter xs)
      joined = ap (λ b. (l.ledger +ℤ cond b (ledger_share_by p e) (pos 0)) +ℤ sum_at l.matter xs) turned ∙ omega (arith, ints)

  -- with none
  no-line : (xs : List (ℕ × Row)) → Tidy xs → fold placed [] xs ≡ told xs
  no-line [] tidy = refl
  no-line ((m, HeadRow h) ∷ xs) tidy = cases (is_listed p h) (no-line xs tidy.1) (one-line (begun m h) xs tidy.0 tidy.1)
    where
      mine : pos 0 +ℤ sum_at m xs ≡ sum_at m ((m, HeadRow h) ∷ xs)
      mine = sym (no-share (m == m) (sum_at m xs) ∙ omega (arith, ints))

      rest : told xs ≡ map (line_of ((m, HeadRow h) ∷ xs)) (open_heads p xs)
      rest = sym (told-past m (HeadRow h) xs tidy.0)

      cases : (b : Bool) → fold placed [] xs ≡ told xs → fold placed (begun m h ∷ []) xs ≡ record (begun m h) { ledger = pos 0 +ℤ sum_at m xs } ∷ told xs → fold placed (cond b (begun m h ∷ []) []) xs ≡ map (line_of ((m, HeadRow h) ∷ xs)) (cond b ((m, h) ∷ open_heads p xs) (open_heads p xs))
      cases true none new = new ∙ (λ i. record (begun m h) { ledger = mine i } ∷ rest i)
      cases false none new = none ∙ rest
  no-line ((m, SeatRow seat) ∷ xs) tidy = no-line xs tidy.1 ∙ sym (told-past m (SeatRow seat) xs tidy.0)
  no-line ((m, EntryRow n e) ∷ xs) tidy = no-line xs tidy.1 ∙ sym (told-past m (EntryRow n e) xs tidy.0)

  -- what a matter's rows add is its ledger as of the day
  sum-ledger : (firm : Firm) (m : ℕ) → sum_at m firm.rows ≡ ledger_as_of p (of m firm).entries
  sum-ledger firm m =
      rows-entries (ledger_share_by p) m firm.rows
      ∙ (sum-same (ledger_share_by p) (ledger_by p) (of m firm).entries (entry-ledger p) ∙ sym (as-shares p (of m firm).entries))

  -- of rows in order the lines are those of the definition, but for 128 bits
  pub lines-placed : (firm : Firm) → IsInOrder firm → fold placed [] firm.rows ≡ client_lines p firm
  lines-placed firm order =
      no-line firm.rows (ordered-tidy firm order) ∙ each (open_heads p firm.rows)
    where
      each : (hs : List (ℕ × Head)) → map (line_of firm.rows) hs ≡ map (client_line p firm) hs
      each [] = refl
      each ((m, h) ∷ hs) = λ i. record { matter = m; client = client_in h.holder; ledger = sum-ledger firm m i } ∷ each hs i

-- In 128 bits.

zero-wrapped : int_wrap w128 (pos 0) ≡ pos 0
unfolding int_wrap
zero-wrapped = refl

abbrev in_bits : ClientLine → ClientLine
in_bits l = record l { ledger = int_wrap w128 l.ledger }

add-bits : (m : ℕ) (z : ℤ) (ls : List ClientLine) → add_to_last m z (map in_bits ls) ≡ map in_bits (place_line m z ls)
unfolding added
add-bits m z [] = refl
add-bits m z (l ∷ []) = grind (arith, ints, nat_tests, int_wrap-add_left)
add-bits m z (l ∷ k ∷ ls) = ap (λ xs. in_bits l ∷ xs) (add-bits m z (k ∷ ls))

head-bits : (b : Bool) (m : ℕ) (h : Head) (ls : List ClientLine) → cond b (map in_bits ls ++ (begun 0 m h ∷ [])) (map in_bits ls) ≡ map in_bits (ls ++ cond b (begun 0 m h ∷ []) [])
head-bits true m h ls = (λ i. map in_bits ls ++ (record (begun 0 m h) { ledger = sym zero-wrapped i } ∷ [])) ∙ sym (map-append in_bits ls (begun 0 m h ∷ []))
head-bits false m h ls = ap (map in_bits) (sym (append-nil ls))

fold-bits : (p : ℕ) (ls : List ClientLine) (z : ℤ) (t : Bool) (xs : List (ℕ × Row)) → (fold with_client_row (record { day = p; own = z; lines = map in_bits ls; purged = t }) xs).lines ≡ map in_bits (fold (placed_row p) ls xs)
fold-bits p ls z t [] = refl
fold-bits p ls z t ((m, HeadRow h) ∷ xs) = (λ i. (fold with_client_row (record { day = p; own = z; lines = head-bits (is_listed p h) m h ls i; purged = is_head_purged_at p h || t }) xs).lines) ∙ fold-bits p (ls ++ opened p m h) z (is_head_purged_at p h || t) xs
fold-bits p ls z t ((m, SeatRow seat) ∷ xs) = fold-bits p ls z t xs
fold-bits p ls z t ((m, EntryRow n e) ∷ xs) = (λ i. (fold with_client_row (record { day = p; own = z; lines = add-bits m (ledger_share_by p e) ls i; purged = t }) xs).lines) ∙ fold-bits p (place_line m (ledger_share_by p e) ls) z t xs

bits-same : (ls : List ClientLine) → AllByRecursion (λ l. FitsSigned w128 l.ledger) ls → map in_bits ls ≡ ls
bits-same [] fits = refl
bits-same (l ∷ ls) fits = λ i. record l { ledger = int_wrap_fits w128 l.ledger fits.0 i } ∷ bits-same ls fits.1 i

-- Every sum fits.

share-within : (p : ℕ) (e : Entry) → IsAmount (entry_amount e) → IsWithin CENTS (ledger_share_by p e)
share-within p e is = grind (arith, ints, nat_tests, amount-within, none-within, out-within)

pub row-within : (p : ℕ) (q : ℕ × Row) → IsRowInRange q → IsWithin CENTS (share p q.1)
row-within p (m, HeadRow h) is = none-within
row-within p (m, SeatRow s) is = none-within
row-within p (m, EntryRow n e) is = share-within p e is

ledger-within : (p : ℕ) (firm : Firm) (m : ℕ) → AreCountable IsRowInRange firm.rows → IsWithin WHOLE (ledger_as_of p (of m firm).entries)
ledger-within p firm m is =
    let few = is.few in
    let each = all-map IsRowInRange (λ q. IsWithin MOST (at (λ (q : ℕ × Row). q.0) (λ (q : ℕ × Row). share p q.1) m q)) firm.rows (λ q h. wider CENTS MOST _ (omega arith) (tested CENTS (q.0 == m) (share p q.1) (row-within p q h))) is.ranged in
    subst (IsWithin WHOLE) (sum-ledger p firm m) (wider (length firm.rows * MOST) WHOLE _ (omega arith) (sum-within (at (λ (q : ℕ × Row). q.0) (λ (q : ℕ × Row). share p q.1) m) firm.rows each))

each-fits : (p : ℕ) (firm : Firm) (hs : List (ℕ × Head)) → AreCountable IsRowInRange firm.rows → AllByRecursion (λ (l : ClientLine). FitsSigned w128 l.ledger) (map (client_line p firm) hs)
each-fits p firm [] is = tt
each-fits p firm ((m, h) ∷ hs) is = (narrow _ (ledger-within p firm m is), each-fits p firm hs is)

lines-kept : (p : ℕ) (firm : Firm) → IsInOrder firm → AreCountable IsRowInRange firm.rows → (fold with_client_row (no_clients p) firm.rows).lines ≡ client_lines p firm
lines-kept p firm order is =
    fold-bits p [] (pos 0) false firm.rows
    ∙ (ap (map in_bits) (lines-placed p firm order) ∙ bits-same (client_lines p firm) (each-fits p firm (open_heads p firm.rows) is))

-- What else the rows leave.

rows-rest : (s : ClientsKept) (xs : List (ℕ × Row)) → fold with_client_row s xs ≡ record s { lines = (fold with_client_row s xs).lines; purged = list_any (is_row_purged_at s.day) xs || s.purged }
rows-rest s [] = refl
rows-rest s ((m, HeadRow h) ∷ xs) = rows-rest (with_client_row s (m, HeadRow h)) xs ∙ (λ i. record s { lines = (fold with_client_row s ((m, HeadRow h) ∷ xs)).lines; purged = turn (list_any (is_row_purged_at s.day) xs) (is_head_purged_at s.day h) s.purged i })
  where
    turn : (a b c : Bool) → (a || (b || c)) ≡ ((b || a) || c)
    turn a b c = grind arith
rows-rest s ((m, SeatRow seat) ∷ xs) = rows-rest s xs
rows-rest s ((m, EntryRow n e) ∷ xs) = rows-rest (with_client_row s (m, EntryRow n e)) xs

own-from : (s : ClientsKept) (z : ℤ) (lines : List FirmLine) → fold with_client_own (record s { own = int_wrap w128 z }) lines ≡ record s { own = int_wrap w128 (z +ℤ sum_of (λ (l : FirmLine). cond (is_dated_by s.day l) l.amount (pos 0)) lines) }
unfolding added
own-from s z [] = λ i. record s { own = int_wrap w128 ((let e : z ≡ z +ℤ pos 0 = omega (arith, ints) in e) i) }
own-from s z (l ∷ lines) =
    (λ i. fold with_client_own (record s { own = int_wrap-add_left w128 z (cond (is_dated_by s.day l) l.amount (pos 0)) i }) lines)
    ∙ (own-from s (z +ℤ cond (is_dated_by s.day l) l.amount (pos 0)) lines ∙ (λ i. record s { own = int_wrap w128 ((let e : (z +ℤ cond (is_dated_by s.day l) l.amount (pos 0)) +ℤ sum_of (λ (l : FirmLine). cond (is_dated_by s.day l) l.amount (pos 0)) lines ≡ z +ℤ (cond (is_dated_by s.day l) l.amount (pos 0) +ℤ sum_of (λ (l : FirmLine). cond (is_dated_by s.day l) l.amount (pos 0)) lines) = omega (arith, ints) in e) i) }))

pub own-within : (p : ℕ) (lines : List FirmLine) → AreCountable IsFirmLineInRange lines → IsWithin WHOLE (sum_of (λ (l : FirmLine). cond (is_dated_by p l) l.amount (pos 0)) lines)
own-within p lines is =
    let few = is.few in
    wider (length lines * MOST) WHOLE _ (omega arith) (sum-within (λ (l : FirmLine). cond (is_dated_by p l) l.amount (pos 0)) lines (all-map IsFirmLineInRange (λ (l : FirmLine). IsWithin MOST (cond (is_dated_by p l) l.amount (pos 0))) lines (λ l h. tested MOST (is_dated_by p l) l.amount (bank-within l.amount h)) is.ranged))

or-none : (a : Bool) → (a || false) ≡ a
or-none a = grind arith

pub clients-kept : ClientsAreKept
unfolding is_purged_at
clients-kept p firm order some few =
    let own = sum-filter (is_dated_by p) (λ (l : FirmLine). l.amount) firm.firm_lines in
    let none : pos 0 +ℤ sum_of (λ (l : FirmLine). cond (is_dated_by p l) l.amount (pos 0)) firm.firm_lines ≡ own_by p firm = omega (arith, ints, own) in
    let fits = subst (IsWithin WHOLE) (sym own) (own-within p firm.firm_lines few) in
    let s : ClientsKept = record { day = p; own = pos 0; lines = client_lines p firm; purged = is_purged_at p firm } in
    let rows : fold with_client_row (no_clients p) firm.rows ≡ record s { own = int_wrap w128 (pos 0) } =
    rows-rest (no_clients p) firm.rows ∙ (λ i. record { day = p; own = sym zero-wrapped i; lines = lines-kept p firm order some i; purged = or-none (list_any (is_row_purged_at p) firm.rows) i }) in
    ap (λ t. fold with_client_own t firm.firm_lines) rows
    ∙ (own-from s (pos 0) firm.firm_lines
    ∙ (λ i. record s { own = (ap (int_wrap w128) none ∙ int_wrap_fits w128 (own_by p firm) (narrow _ fits)) i }))

-- What the movements say and what the entries and the firm's own lines say agree, share by share.
use Rattle.firm_rows.proofs.Names.{◌≡◌, ℕ, ◌+◌, ◌-◌, Bool, false, cond, List, [], ◌∷◌, map, Option, Some, None, refl, sym, ap, ◌∙◌, arith, ℤ, pos, ◌+ℤ◌, ◌==◌, ◌&&◌, filter, ints, nat_tests, Entry, entry_at, Event, events_of, events_in, Movement, Owner, FirmLine, sum_of, is_of_matter, Row, HeadRow, SeatRow, EntryRow, Firm, of, among, rows_of, entries_among, event_of, line_event, is_of_entry, is_of_firm, events_moved, firm_events, FirmSound}
use Rattle.firm_rows.specs.declared.movement.Owner.TheVariants as owner
use Rattle.firm_rows.proofs.Sums.{at, sum-agree}

-- The joined rows.

-- what a row adds, if it is an entry
abbrev pub of_row : (Entry → ℤ) → Row → ℤ
of_row g (HeadRow head) = pos 0
of_row g (SeatRow seat) = pos 0
of_row g (EntryRow number entry) = g entry

-- the shares of a matter's rows are those of its entries
pub rows-entries : (g : Entry → ℤ) (m : ℕ) (joined : List (ℕ × Row)) → sum_of (at (λ p. p.0) (λ p. of_row g p.1) m) joined ≡ sum_of g (among (rows_of m joined)).entries
rows-entries g m [] = refl
rows-entries g m ((k, HeadRow head) ∷ joined) = grind (arith, ints, rows-entries g m joined)
rows-entries g m ((k, SeatRow seat) ∷ joined) = grind (arith, ints, rows-entries g m joined)
rows-entries g m ((k, EntryRow number entry) ∷ joined) = grind (arith, ints, rows-entries g m joined)

-- and those of all rows are those of all entries
pub all-entries : (g : Entry → ℤ) (joined : List (ℕ × Row)) → sum_of g (entries_among (map (λ p. p.1) joined)) ≡ sum_of (λ p. of_row g p.1) joined
all-entries g [] = refl
all-entries g ((k, HeadRow head) ∷ joined) = omega (arith, ints, all-entries g joined)
all-entries g ((k, SeatRow seat) ∷ joined) = omega (arith, ints, all-entries g joined)
all-entries g ((k, EntryRow number entry) ∷ joined) = omega (arith, ints, all-entries g joined)

-- The entries by number.

entry_at-zero : (es : List Entry) → entry_at es 0 ≡ None
entry_at-zero [] = refl
entry_at-zero (e ∷ es) = entry_at-zero es

numbered : ℕ → List Entry → List (ℕ × Entry)
numbered k [] = []
numbered k (e ∷ es) = (k, e) ∷ numbered (k + 1) es

numbered-all : (g : Entry → ℤ) (k : ℕ) (es : List Entry) → sum_of (λ p. g p.1) (numbered k es) ≡ sum_of g es
unfolding numbered
numbered-all g k [] = refl
numbered-all g k (e ∷ es) = omega (arith, ints, numbered-all g (k + 1) es)

less-none : (n : ℕ) → n - 0 ≡ n
less-none n = omega arith

-- what an entry that may not be there adds
abbrev maybe : (Entry → ℤ) → Option Entry → ℤ
maybe g None = pos 0
maybe g (Some e) = g e

numbered-at : (g : Entry → ℤ) (n k : ℕ) (es : List Entry) → sum_of (at (λ p. p.0) (λ p. g p.1) n) (numbered (k + 1) es) ≡ maybe g (entry_at es (n - k))
unfolding numbered
numbered-at g n k [] = refl
numbered-at g n k (e ∷ es) = grind (arith, ints, nat_tests, numbered, entry_at-zero, (numbered-at g n (k + 1) es))

-- The movements.

-- one share for each event
module _ (h : Event → ℤ) where
  -- what an entry's events add
  abbrev pub events_share : Entry → ℤ
  events_share e = sum_of h (events_of e)

  abbrev share : Movement → ℤ
  share v = h (event_of v)

  abbrev pub of_firm : Movement → ℤ
  of_firm v = cond (is_of_firm v.owner) (share v) (pos 0)

  abbrev pub of_matters : Movement → ℤ
  of_matters v = cond (is_of_firm v.owner) (pos 0) (share v)

  abbrev pub of_matter : ℕ → Movement → ℤ
  of_matter m v = cond (is_of_matter m v.owner) (share v) (pos 0)

  pub split : (vs : List Movement) → sum_of share vs ≡ sum_of of_matters vs +ℤ sum_of of_firm vs
  split [] = refl
  split (v ∷ vs) = omega (arith, ints, split vs, parts (is_of_firm v.owner) (share v))
    where
      parts : (b : Bool) (z : ℤ) → z ≡ cond b (pos 0) z +ℤ cond b z (pos 0)
      parts b z = grind (arith, ints)

  pub own-part : (vs : List Movement) → sum_of of_firm vs ≡ sum_of h (firm_events vs)
  own-part [] = refl
  own-part (v ∷ vs) = grind (arith, ints, own-part vs)

  pub own-lines : (ls : List FirmLine) → sum_of h (map line_event ls) ≡ sum_of (λ l. h (line_event l)) ls
  own-lines [] = refl
  own-lines (l ∷ ls) = omega (arith, ints, own-lines ls)

  pub matter_of : Owner → ℕ
  matter_of (owner.Matter m n) = m
  matter_of owner.Firm = 0

  entry_of : Owner → ℕ
  entry_of (owner.Matter m n) = n
  entry_of owner.Firm = 0

  pub matter-at : (m : ℕ) (vs : List Movement) → sum_of (at (λ v. matter_of v.owner) of_matters m) vs ≡ sum_of (of_matter m) vs
  unfolding matter_of
  matter-at m [] = refl
  matter-at m (v ∷ vs) = grind (arith, ints, nat_tests, matter_of, is_of_firm, share, is_of_matter, (matter-at m vs))

  entry-at : (m n : ℕ) (vs : List Movement) → sum_of (at (λ v. entry_of v.owner) (of_matter m) n) vs ≡ sum_of h (events_moved m n vs)
  unfolding entry_of
  entry-at m n [] = refl
  entry-at m n (v ∷ vs) = one v.owner refl (entry-at m n vs)
    where
      both : (b c : Bool) → sum_of (at (λ v. entry_of v.owner) (of_matter m) n) vs ≡ sum_of h (events_moved m n vs) → cond c (cond b (share v) (pos 0)) (pos 0) +ℤ sum_of (at (λ v. entry_of v.owner) (of_matter m) n) vs ≡ sum_of h (map event_of (cond (b && c) (v ∷ filter (λ v. is_of_entry m n v.owner) vs) (filter (λ v. is_of_entry m n v.owner) vs)))
      both b c more = grind (arith, ints)

      one : (o : Owner) → v.owner ≡ o → sum_of (at (λ v. entry_of v.owner) (of_matter m) n) vs ≡ sum_of h (events_moved m n vs) → cond (entry_of o == n) (cond (is_of_matter m o) (share v) (pos 0)) (pos 0) +ℤ sum_of (at (λ v. entry_of v.owner) (of_matter m) n) vs ≡ sum_of h (map event_of (cond (is_of_entry m n o) (v ∷ filter (λ v. is_of_entry m n v.owner) vs) (filter (λ v. is_of_entry m n v.owner) vs)))
      one (owner.Matter k j) is more = both (k == m) (j == n) more
      one owner.Firm is more = both false (0 == n) more

  -- where the movements of each entry are its events, those of the matter say what its entries say
  matter-agrees : (m : ℕ) (vs : List Movement) (es : List Entry) → ((n : ℕ) → events_moved m n vs ≡ events_in (entry_at es n)) → sum_of (of_matter m) vs ≡ sum_of events_share es
  matter-agrees m vs es told =
      sum-agree (λ v. entry_of v.owner) (of_matter m) vs (λ p. p.0) (λ p. events_share p.1) (numbered 1 es) at-each
      ∙ numbered-all events_share 1 es
    where
      maybe-events : (o : Option Entry) → sum_of h (events_in o) ≡ maybe events_share o
      maybe-events o = grind (arith)

      at-each : (n : ℕ) → sum_of (at (λ v. entry_of v.owner) (of_matter m) n) vs ≡ sum_of (at (λ p. p.0) (λ p. events_share p.1) n) (numbered 1 es)
      at-each n = entry-at m n vs ∙ (ap (sum_of h) (told n) ∙ (maybe-events (entry_at es n) ∙ sym (numbered-at events_share n 0 es ∙ ap (λ i. maybe events_share (entry_at es i)) (less-none n))))

  -- all movements say what all entries and the firm's own lines say
  pub agree : (firm : Firm) → FirmSound firm → sum_of (λ v. h (event_of v)) firm.movements ≡ sum_of (λ p. of_row events_share p.1) firm.rows +ℤ sum_of (λ l. h (line_event l)) firm.firm_lines
  agree firm sound =
      let matters = sum-agree (λ v. matter_of v.owner) of_matters firm.movements (λ p. p.0) (λ p. of_row events_share p.1) firm.rows (λ m. matter-at m firm.movements ∙ (matter-agrees m firm.movements (of m firm).entries (sound.events m) ∙ sym (rows-entries events_share m firm.rows))) in
      grind (arith, ints, nat_tests, own-part, sum_of, own-lines, split)

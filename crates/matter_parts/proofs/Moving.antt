-- What moves when an entry is written, from what it counted for before.
use Rattle.matter_parts.proofs.Names.{Bool, is_some, length, of_z, to_z, w64, ◌≡◌, ℕ, ◌+◌, ◌≤◌, arith, refl, sym, ℤ, pos, ◌+ℤ◌, ◌-ℤ◌, Option, Some, None, ints, Entry, Shares, shares_of, no_shares, worth, draw, IsSmallShare, AreSmallShares, IsSmallSum, Figures, Before, Left, TotalsAfter, Numbered, Kept, FiguresMoved, OtherMoved, EntryMoved, AppendMoved, ExchangeMoved, MAX_TOTAL, IsSmallOther, kept_at, Part}
use Rattle.matter_rows.specs.Events.{events_of, nth_moved}
use mir.Val.{bool_byte}

-- The words that stand for small shares.

-- a number by its word
abbrev pub word_of : ℤ → ℤ
word_of z = to_z w64 (of_z w64 z)

pub word : (z : ℤ) → IsSmallShare z → word_of z ≡ z
word z s = omega (arith, ints, s.low, s.high)

pub small_word : (z : ℤ) → IsSmallShare z → IsSmallSum (word_of z)
small_word z s = record { low = omega (arith, ints, s.low, s.high); high = omega (arith, ints, s.low, s.high) }

-- The figures, under equal numbers, and the entry that is named.

pub moved-same : (f f' : Figures) (n : ℕ) (a a' b b' : Shares) (g : Figures) → FiguresMoved f n a b g → f ≡ f' → a ≡ a' → b ≡ b' → FiguresMoved f' n a' b' g
moved-same f f' n a a' b b' g h p q r = grind (arith, ints)

-- the same, of the words that stand for shares
pub record WordsMoved (f : Figures) (entries : ℕ) (out shares : Shares) (g : Figures) : Type 0 where
  pub count : g.entries ≡ entries
  pub pending : pos g.pending ≡ (pos f.pending -ℤ word_of out.pending) +ℤ word_of shares.pending
  pub held : pos g.held ≡ (pos f.held -ℤ word_of out.held) +ℤ word_of shares.held
  pub available : pos g.available ≡ (pos f.available -ℤ word_of out.available) +ℤ word_of shares.available
  pub disputed : pos g.disputed ≡ (pos f.disputed -ℤ word_of out.disputed) +ℤ word_of shares.disputed
  pub fees : pos g.fees ≡ (pos f.fees -ℤ word_of out.fees) +ℤ word_of shares.fees
  pub claims : pos g.claims ≡ (pos f.claims -ℤ word_of out.claims) +ℤ word_of shares.claims

pub moved-words : (f f' : Figures) (n : ℕ) (out a a' : Shares) (g : Figures) → FiguresMoved f n out a g
    → f' ≡ f → a' ≡ a → AreSmallShares out → AreSmallShares a' → WordsMoved f' n out a' g
moved-words f f' n out a a' g h p q s t = grind (arith, ints, word)

pub figures-written : (f f' : Figures) (n : ℕ) (out a a' : Shares) (g : Figures) → f' ≡ f → a' ≡ a
    → AreSmallShares out → AreSmallShares a' → WordsMoved f' n out a' g → FiguresMoved f n out a g
figures-written f f' n out a a' g p q s t w =
    moved-same f' f n out out a' a g (record {
      count = w.count;
      pending = rw (word _ s.pending, word _ t.pending) at w.pending;
      held = rw (word _ s.held, word _ t.held) at w.held;
      available = rw (word _ s.available, word _ t.available) at w.available;
      disputed = rw (word _ s.disputed, word _ t.disputed) at w.disputed;
      fees = rw (word _ s.fees, word _ t.fees) at w.fees;
      claims = rw (word _ s.claims, word _ t.claims) at w.claims;
    }) p refl q

-- what is left of the named entry is within the range of a matter
pub named-left : (m : Part) (t n : ℕ) (a b : ℤ) (o : Option Left) (k : Kept) → n ≡ t → 1 ≤ n → Some k ≡ kept_at m n → IsSmallOther o → OtherMoved m t a b o → (x : ℕ) × ((x ≤ MAX_TOTAL) × (pos x ≡ (pos k.left -ℤ b) +ℤ a))
named-left m t n a b None k here some at small h = absurd (let none = h.cases in omega arith)
named-left m t n a b (Some l) k here some at small h = (l.left, (small l refl, grind (arith, ints)))

pub named-moved : (m : Part) (t n : ℕ) (a b : ℤ) (k : Kept) (x : ℕ) → n ≡ t → Some k ≡ kept_at m n → pos x ≡ (pos k.left -ℤ b) +ℤ a → OtherMoved m t a b (Some (record { number = n; left = x }))
named-moved m t n a b k x here at left = grind (arith, ints)

-- An entry that is added or changed.

abbrev pub counted : Kept → Before
counted k = record { shares = shares_of k.entry; left = k.left; worth = worth k.entry; draw = draw k.entry }

abbrev pub uncounted : Before
uncounted = record { shares = no_shares; left = 0; worth = pos 0; draw = pos 0 }

pub append-written : (m : Part) (x : Numbered) (v : TotalsAfter) → AppendMoved m x v → EntryMoved m (m.figures.entries + 1) uncounted x.entry v
append-written m x v h = record { figures = h.figures; left = omega (arith, ints, h.left); other = h.other }

pub exchange-written : (m : Part) (x : Numbered) (k j : Kept) (v : TotalsAfter) → Some k ≡ kept_at m x.number → ExchangeMoved m x j v → EntryMoved m m.figures.entries (counted k) x.entry v
exchange-written m x k j v is h = grind (arith, ints)

pub written-exchange : (m : Part) (x : Numbered) (k : Kept) (v : TotalsAfter) → Some k ≡ kept_at m x.number → EntryMoved m m.figures.entries (counted k) x.entry v → ExchangeMoved m x k v
written-exchange m x k v is h = record { kept = sym is; figures = h.figures; left = h.left; other = h.other }

pub written-append : (m : Part) (x : Numbered) (v : TotalsAfter) → x.number ≡ m.figures.entries + 1 → EntryMoved m (m.figures.entries + 1) uncounted x.entry v → AppendMoved m x v
written-append m x v number h = grind (arith, ints)

-- an entry has made as many movements as there are among its first two
pub events-counted : (n : ℕ) (e : Entry) (first second : Bool)
    → first ≡ is_some (nth_moved n 0 (events_of e)) → second ≡ is_some (nth_moved n 1 (events_of e))
    → bool_byte first + bool_byte second ≡ length (events_of e)
unfolding events_of
events-counted n e first second p q = grind (arith, ints)

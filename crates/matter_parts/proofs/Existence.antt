-- For a part of sound rows there is always a change in range.
use Rattle.matter_parts.proofs.Names.{◌≡◌, ℕ, ◌+◌, ◌≤◌, ltb, is_some, true, List, [], ◌∷◌, ◌++◌, length, refl, sym, ◌∙◌, arith, subst, Some, None, eqb, pos, ◌+ℤ◌, ◌-ℤ◌, ◌⊎◌, inl, inr, ints, nat_tests, Entry, total_of, left_of, target, worth, draw, held_share, available_share, disputed_share, fee_share, claim_share, pending_share, shares_of, MAX_TOTAL, entry_at, with_entry, AreBacked, natural, held-balance, pending-balance, disputed-balance, available-balance, fees-balance, claims-balance, left-balance, fees-by_share, claims-by_share, entry_at-append, entry_at-with, within, MayAdd, MayTake, sound-append, sound-with, Numbered, Figures, Kept, Left, TotalsAfter, Before, AreSmallTotals, IsSmallOther, FiguresMoved, EntryMoved, AppendMoved, ExchangeMoved, Part, AreSmall, kept_at, AreFigures, AreKept, is_held_or_none, take}
use Rattle.matter_parts.proofs.Moving.{counted, uncounted, written-append, written-exchange}
use Rattle.matter_parts.proofs.Moved.{IsAside, figures_of, figures-are, moved-append, moved-with, own-append, own-with, aside-append, aside-with}

pub small-figures : (f : Figures) (es : List Entry) → AreFigures f es → AreBacked es → AreSmall f
small-figures f es a s = record {
  entries = let e = a.entries in let r = s.few in omega (arith, e, r);
  pending = let b = pending-balance es s in omega (arith, ints, a.pending, b.is, b.small);
  held = let b = held-balance es s in omega (arith, ints, a.held, b.is, b.small);
  available = let b = available-balance es s in omega (arith, ints, a.available, b.is, b.small);
  disputed = let b = disputed-balance es s in omega (arith, ints, a.disputed, b.is, b.small);
  fees = let b = fees-balance es s in omega (arith, ints, a.fees, b.is, b.small);
  claims = let b = claims-balance es s in omega (arith, ints, a.claims, b.is, b.small);
}

-- the totals of backed entries: in range, and the sums of their shares
pub record AreSummed (f : Figures) (es : List Entry) : Type 0 where
  pub small : AreSmall f
  pub pending : pos f.pending ≡ total_of pending_share es
  pub held : pos f.held ≡ total_of held_share es
  pub available : pos f.available ≡ total_of available_share es
  pub disputed : pos f.disputed ≡ total_of disputed_share es
  pub fees : pos f.fees ≡ total_of fee_share es
  pub claims : pos f.claims ≡ total_of claim_share es

pub summed : (es : List Entry) → AreBacked es → AreSummed (figures_of es) es
summed es s =
    let is = figures-are es s in
    let small = small-figures (figures_of es) es is s in
    grind (arith, ints, fees-by_share, claims-by_share)

-- the entry named is kept, if one is
abbrev pub IsKeptOrNone : Part → ℕ → Type 0
IsKeptOrNone m t = (t ≡ 0) ⊎ ((k : Kept) × (kept_at m t ≡ Some k))

pub small-none : IsSmallOther None
small-none p h = cc

pub small-some : (l : Left) → l.left ≤ MAX_TOTAL → IsSmallOther (Some l)
small-some l h p e = let same : l ≡ p = cc in let P : Left → Type 0 = λ q. q.left ≤ MAX_TOTAL in subst P same h

-- the totals after an entry is written as number n that counted for b before, which leaves these entries
exist-written : (m : Part) (es fs : List Entry) (count n : ℕ) (b : Before) (x : Entry) → AreKept m.kept es → AreBacked fs → entry_at fs n ≡ Some x → FiguresMoved m.figures count b.shares (shares_of x) (figures_of fs) → left_of fs n x ≡ (pos b.left -ℤ b.worth) +ℤ worth x → IsAside es fs (target x) b.draw (draw x) → IsKeptOrNone m (target x) → (v : TotalsAfter) × AreSmallTotals v × EntryMoved m count b x v
exist-written m es fs count n b x kept backed here moved left aside named =
    let own = left-balance fs n x backed here in
    let figures = figures_of fs in
    let small = small-figures figures fs (figures-are fs backed) backed in
    elim named [
      | inl none ↦ (
        record { figures = figures; left = natural (left_of fs n x); other = None },
        record { figures = small; left = own.small; other = small-none },
        record { figures = moved; left = own.is ∙ left; other = record { cases = none } },
      )
      | inr found ↦
          let k = found.0 in
          let is = kept (target x) k found.1 in
          let other = left-balance fs (target x) k.entry backed (aside.there ∙ is.there) in
          let l : Left = record { number = target x; left = natural (left_of fs (target x) k.entry) } in (
            record { figures = figures; left = natural (left_of fs n x); other = Some l },
            record { figures = small; left = own.small; other = small-some l other.small },
            record { figures = moved; left = own.is ∙ left; other = record { cases = (refl, (k, found.1, omega (arith, ints, other.is, is.left, aside.left k.entry))) } },
          )
    ]

pub exist-append : (m : Part) (es : List Entry) (x : Numbered) → AreFigures m.figures es → AreKept m.kept es → AreBacked es → x.number ≡ length es + 1 → MayAdd es x.entry → IsKeptOrNone m (target x.entry) → (v : TotalsAfter) × AreSmallTotals v × AppendMoved m x v
exist-append m es x a kept s place may named =
    let backed = sound-append es x.entry s may in
    let last : eqb (length es + 1) (length es + 1) ≡ true = grind (arith, nat_tests) in
    let own : worth x.entry ≡ left_of (es ++ x.entry ∷ []) (length es + 1) x.entry = own-append es x.entry s may in
    let here : entry_at (es ++ x.entry ∷ []) (length es + 1) ≡ Some x.entry = entry_at-append es x.entry (length es + 1) ∙ rw last refl in
    let v = exist-written m es (es ++ x.entry ∷ []) (m.figures.entries + 1) (length es + 1) uncounted x.entry kept backed here
    (moved-append es x.entry m.figures s backed a) (omega (arith, ints, own)) (aside-append es x.entry may) named in
    (v.0, v.1, written-append m x v.0 (let e = a.entries in omega (arith, place, e)) v.2)

pub exist-exchange : (m : Part) (es : List Entry) (x : Numbered) (old : Entry) (j : Kept) → AreFigures m.figures es → AreKept m.kept es → AreBacked es → MayTake es x.number old x.entry → kept_at m x.number ≡ Some j → IsKeptOrNone m (target x.entry) → (v : TotalsAfter) × AreSmallTotals v × ((k : Kept) × ExchangeMoved m x k v)
exist-exchange m es x old j a kept s may found named =
    let mine = kept x.number j found in
    let at = mine.there in
    let at-old = may.at in
    let same : old ≡ j.entry = cc in
    let M : Entry → Type 0 = λ w. MayTake es x.number w x.entry in
    let take = subst M same may in
    let backed = sound-with es x.number j.entry x.entry s take in
    let yes : eqb x.number x.number ≡ true = grind (arith, nat_tests) in
    let here : entry_at (with_entry es x.number x.entry) x.number ≡ Some x.entry = entry_at-with es x.number j.entry x.entry x.number at ∙ rw yes refl in
    let own = own-with es x.number j.entry x.entry take in
    let v = exist-written m es (with_entry es x.number x.entry) m.figures.entries x.number (counted j) x.entry kept backed here
    (moved-with es x.number j.entry x.entry m.figures s backed at a) (omega (arith, ints, mine.left, own))
    (aside-with es x.number j.entry x.entry take) named in
    (v.0, v.1, (j, written-exchange m x j v.0 (sym found) v.2))

-- what is held and there is kept
pub held-kept : (m : Part) (es : List Entry) (n : ℕ) (e : Entry) → m.figures.entries ≡ length es → entry_at es n ≡ Some e → is_held_or_none m n ≡ true → (k : Kept) × (kept_at m n ≡ Some k)
held-kept m es n e few at h = grind (arith, ints, nat_tests, within, eqb, ltb, is_some)

-- what the totals of backed entries are, and that they are in range
pub ruleset figure_steps = (ints, summed)

-- The figures that are kept, after a change.
use Rattle.matter_parts.proofs.Names.{◌≡◌, ℕ, ◌+◌, ◌≢◌, true, false, List, [], ◌∷◌, ◌++◌, length, refl, sym, ◌∙◌, arith, subst, Option, Some, None, eqb, ℤ, pos, ◌+ℤ◌, ◌-ℤ◌, length-append, ints, nat_tests, Entry, Shares, left_of, entry_at, with_entry, Rows, total_of, held, available, disputed, fees, claims, draw, draw_on, target, worth, available_share, held_share, disputed_share, fee_share, claim_share, pending_share, no_shares, shares_of, AreBacked, natural, held-balance, pending-balance, disputed-balance, available-balance, fees-balance, claims-balance, total-append, total-with, fees-by_share, claims-by_share, entry_at-append, entry_at-with, length-with, none-past, MayAdd, MayTake, target-apart, draw-apart, total-undrawn, left-append, left-with, sound-append, sound-with, Edit, Figures, Left, TotalsAfter, edited, IsOther, AreLefts, NoneLeft, FiguresMoved, OtherCases, EditMoved, NoneMoved, Part, no_figures, AreFigures, IsPart, AreKept, Seat, take}
use Rattle.matter_parts.specs.declared.edit.Edit.TheVariants as edit
use Rattle.matter_parts.proofs.Editing.{MayEdit}

-- the figures of backed entries, as numbers
abbrev pub figures_of : List Entry → Figures
figures_of es = record { entries = length es; pending = natural (total_of pending_share es); held = natural (held es); available = natural (available es); disputed = natural (disputed es); fees = natural (fees es); claims = natural (claims es) }

pub figures-are : (es : List Entry) → AreBacked es → AreFigures (figures_of es) es
figures-are es s = record {
  entries = refl;
  pending = (pending-balance es s).is;
  held = (held-balance es s).is;
  available = (available-balance es s).is;
  disputed = (disputed-balance es s).is;
  fees = (fees-balance es s).is;
  claims = (claims-balance es s).is;
}

-- what moves as the figures of entries do are their figures
pub figures-moved : (f : Figures) (n : ℕ) (a b : Shares) (g h : Figures) (es : List Entry) → FiguresMoved f n a b g → FiguresMoved f n a b h → AreFigures h es → AreFigures g es
figures-moved f n a b g h es m w are = grind (arith, ints, nat_tests, held, available, disputed, fees, claims)

-- The figures after an entry is added or changed.

pub moved-append : (es : List Entry) (x : Entry) (f : Figures) → AreBacked es → AreBacked (es ++ x ∷ []) → AreFigures f es → FiguresMoved f (f.entries + 1) no_shares (shares_of x) (figures_of (es ++ x ∷ []))
moved-append es x f s t a =
    let is = figures-are (es ++ x ∷ []) t in
    record {
      count = let l = length-append es (x ∷ []) in let e = a.entries in omega (arith, l, e);
      pending = omega (arith, ints, is.pending, total-append pending_share es x, a.pending);
      held = omega (arith, ints, is.held, total-append held_share es x, a.held);
      available = omega (arith, ints, is.available, total-append available_share es x, a.available);
      disputed = omega (arith, ints, is.disputed, total-append disputed_share es x, a.disputed);
      fees = omega (arith, ints, is.fees, total-append fee_share es x, a.fees, fees-by_share es s.named, fees-by_share (es ++ x ∷ []) t.named);
      claims = omega (arith, ints, is.claims, total-append claim_share es x, a.claims, claims-by_share es s.named, claims-by_share (es ++ x ∷ []) t.named);
    }

pub moved-with : (es : List Entry) (n : ℕ) (old x : Entry) (f : Figures) → AreBacked es → AreBacked (with_entry es n x) → entry_at es n ≡ Some old → AreFigures f es → FiguresMoved f f.entries (shares_of old) (shares_of x) (figures_of (with_entry es n x))
moved-with es n old x f s t at a =
    let is = figures-are (with_entry es n x) t in
    record {
      count = length-with es n x ∙ sym a.entries;
      pending = omega (arith, ints, is.pending, total-with pending_share es n old x at, a.pending);
      held = omega (arith, ints, is.held, total-with held_share es n old x at, a.held);
      available = omega (arith, ints, is.available, total-with available_share es n old x at, a.available);
      disputed = omega (arith, ints, is.disputed, total-with disputed_share es n old x at, a.disputed);
      fees = omega (arith, ints, is.fees, total-with fee_share es n old x at, a.fees, fees-by_share es s.named, fees-by_share (with_entry es n x) t.named);
      claims = omega (arith, ints, is.claims, total-with claim_share es n old x at, a.claims, claims-by_share es s.named, claims-by_share (with_entry es n x) t.named);
    }

-- the new entry names another
pub append-apart : (es : List Entry) (x : Entry) → MayAdd es x → target x ≢ length es + 1
append-apart es x m = grind (arith, ints, nat_tests, (none-past es (length es + 1)), (target-apart es (length es + 1)))

pub own-append : (es : List Entry) (x : Entry) → AreBacked es → MayAdd es x → worth x ≡ left_of (es ++ x ∷ []) (length es + 1) x
own-append es x s m = grind (arith, ints, nat_tests, none-past, total-undrawn, draw-apart, append-apart, left-append)

pub own-with : (es : List Entry) (n : ℕ) (old x : Entry) → MayTake es n old x → left_of (with_entry es n x) n x ≡ (left_of es n old -ℤ worth old) +ℤ worth x
own-with es n old x m =
    omega (arith, ints, left-with es n old x n x m.at, draw-apart n x m.apart, draw-apart n old (λ q. m.apart (sym m.same_target ∙ q)))

-- what an entry that is written draws on, number t, is as it was, but for what is drawn
pub record IsAside (es fs : List Entry) (t : ℕ) (out draw : ℤ) : Type 0 where
  pub there : entry_at fs t ≡ entry_at es t
  pub left : (e : Entry) → left_of fs t e ≡ (left_of es t e -ℤ draw) +ℤ out

draw-here : (n : ℕ) (r : Entry) → target r ≡ n → draw_on n r ≡ draw r
draw-here n r h = let yes : eqb (target r) n ≡ true = grind (arith, nat_tests) in rw yes refl

pub aside-append : (es : List Entry) (x : Entry) → MayAdd es x → IsAside es (es ++ x ∷ []) (target x) (pos 0) (draw x)
aside-append es x may = grind (arith, ints, nat_tests, eqb, append-apart, entry_at-append, left-append, draw-here)

pub aside-with : (es : List Entry) (n : ℕ) (old x : Entry) → MayTake es n old x → IsAside es (with_entry es n x) (target x) (draw old) (draw x)
aside-with es n old x may =
    let no : eqb (target x) n ≡ false = let a = may.apart in grind (arith, nat_tests) in
    record {
      there = entry_at-with es n old x (target x) may.at ∙ rw no refl;
      left = λ e. omega (arith, ints, left-with es n old x (target x) e may.at, draw-here (target x) x refl, draw-here (target x) old may.same_target);
    }

-- what is left of the entry that is named
other-left : (m : Part) (es fs : List Entry) (t : ℕ) (out draw : ℤ) (o : Option Left) → AreKept m.kept es → IsAside es fs t out draw → OtherCases m t out draw o → IsOther fs t o
other-left m es fs t out draw None kept aside h = h
other-left m es fs t out draw (Some o) kept aside h = (
  h.0,
  λ e g.
      let is = kept t h.1.0 h.1.1 in
      let left = aside.left e in
      let there = aside.there in
      grind (arith, ints),
)

-- without an entry all totals are zero
pub figures-none : AreFigures no_figures []
figures-none = record { entries = refl; pending = refl; held = refl; available = refl; disputed = refl; fees = refl; claims = refl }

same-figures : (f g : Figures) (es : List Entry) → g ≡ f → AreFigures f es → AreFigures g es
same-figures f g es same a = let P : Figures → Type 0 = λ x. AreFigures x es in subst P (sym same) a

none-moved : (m : Part) (v : TotalsAfter) (es : List Entry) → AreFigures m.figures es → NoneMoved m v → AreFigures v.figures es × NoneLeft v
none-moved m v es a h = (same-figures m.figures v.figures es h.figures a, record { left = h.left; other = h.other })

-- the edit's change of what is kept is a change of the rows
pub changes-are : (m : Part) (rows : Rows) (t n : ℕ) (e : Edit) (v : TotalsAfter) → IsPart m rows → AreBacked rows.entries → MayEdit rows.entries t n e → EditMoved m e v → AreFigures v.figures (edited rows.entries e) × AreLefts (edited rows.entries e) e v
changes-are m rows t n edit.Nothing v p s may h = none-moved m v rows.entries p.figures h
changes-are m rows t n (edit.Open o) v p s may h = none-moved m v rows.entries p.figures h
changes-are m rows t n (edit.Seat x) v p s may h = none-moved m v rows.entries p.figures h
changes-are m rows t n (edit.Unseat q) v p s may h = none-moved m v rows.entries p.figures h
changes-are m rows t n (edit.Close d) v p s may h = none-moved m v rows.entries p.figures h
changes-are m rows t n (edit.Purge d) v p s may h = (same-figures no_figures v.figures [] h.figures figures-none, record { left = h.left; other = h.other })
changes-are m rows t n (edit.Append x) v p s may h =
    let es = rows.entries in
    let fs = es ++ x.entry ∷ [] in
    let after = sound-append es x.entry s may.1 in (
      figures-moved m.figures _ _ _ v.figures _ fs h.figures (moved-append es x.entry m.figures s after p.figures) (figures-are fs after),
      (
        rw may.0 (h.left ∙ own-append es x.entry s may.1),
        other-left m es fs (target x.entry) _ _ v.other p.kept
            (aside-append es x.entry may.1) h.other.cases,
      ),
    )
changes-are m rows t n (edit.Exchange x) v p s may h =
    let es = rows.entries in
    let fs = with_entry es x.number x.entry in
    let k = h.0 in
    let is = p.kept x.number k h.1.kept in
    let same : may.0 ≡ k.entry = let there = is.there in let at = may.1.at in cc in
    let take = rw same at may.1 in
    let after = sound-with es x.number k.entry x.entry s take in (
      figures-moved m.figures _ _ _ v.figures _ fs h.1.figures (moved-with es x.number k.entry x.entry m.figures s after take.at p.figures) (figures-are fs after),
      (omega (arith, ints, is.left, h.1.left, own-with es x.number k.entry x.entry take), other-left m es fs (target x.entry) _ _ v.other p.kept (aside-with es x.number k.entry x.entry take) h.1.other.cases),
    )

-- What is kept after a change is a part of the rows after it.
use Rattle.matter_parts.proofs.Names.{◌≡◌, ◌≢◌, ℕ, ◌+◌, ◌||◌, ltb, true, false, List, [], ◌∷◌, ◌++◌, length, refl, ap, sym, ◌∙◌, arith, subst, Option, Some, None, eqb, is_some, pos, Result, OnOk, ints, length_push, nat_tests, Entry, Head, Seat, left_of, seen_on, closed_head, purged_head, entry_at, with_entry, Rows, as_made, role_in, seats_with, seats_without, target, Sound, AreInOrder, IsHeaded, entry_at-append, entry_at-with, within, length-with, draw-apart, left-append, left-with, Numbered, Edit, Figures, Kept, Left, TotalsAfter, IsWritten, kept_as, entry_put, other_written, changed, changed_by, MatterChange, edited, head_after, seats_after, IsOther, AreLeft, IsPlace, IsExchange, IsChange, Part, no_figures, is_held, kept_in, AreFigures, IsPart, IsEntryOf, AreKept, HoldsOn, IsWhole, entries_kept, AreNumbered, more}
use Rattle.matter_parts.specs.declared.edit.Opening.{Opening}
use Rattle.matter_parts.specs.declared.edit.Edit.TheVariants as edit
use Rattle.matter_parts.proofs.AllKept.{entries-end, numbered-end, entries-at, numbered-at, entries-other, numbered-other, length-kept}
use Rattle.matter_parts.proofs.Keepers.{put_in, with_left, other_relieved, kept-with, kept-other}
use Rattle.matter_parts.proofs.Moved.{figures-none}

abbrev no-one : Option Kept
no-one = None

abbrev some : Kept → Option Kept
some k = Some k

-- a kept entry is that of the rows, and so is what is left of it, unless it is number t
record IsNearly (fs : List Entry) (t n : ℕ) (k : Kept) : Type 0 where
  there : entry_at fs n ≡ Some k.entry
  left : t ≢ n → pos k.left ≡ left_of fs n k.entry

-- what was kept of another entry
stays-append : (es : List Entry) (x : Entry) (n : ℕ) (k : Kept) → n ≢ length es + 1 → IsEntryOf es n k → IsNearly (es ++ x ∷ []) (target x) n k
stays-append es x n k elsewhere is = grind (arith, ints, nat_tests, eqb, entry_at-append, left-append, draw-apart)

stays-with : (es : List Entry) (at : ℕ) (old x : Entry) (n : ℕ) (k : Kept) → entry_at es at ≡ Some old → target old ≡ target x → n ≢ at → IsEntryOf es n k → IsNearly (with_entry es at x) (target x) n k
stays-with es at old x n k here same elsewhere is =
    let other : eqb n at ≡ false = grind (arith, nat_tests) in
    record {
      there = rw (entry_at-with es at old x n here) (rw other is.there);
      left = λ apart. omega (arith, ints, is.left, left-with es at old x n k.entry here, draw-apart n x apart, draw-apart n old (λ q. apart (sym same ∙ q)));
    }

-- an entry names what it named when it was made
target-made : (e : Entry) → target (as_made e) ≡ target e
target-made e = grind (arith, ints, nat_tests)

-- the entry that is put is the one of its number, and what was kept of another stays
record IsPut (es fs : List Entry) (x : Numbered) : Type 0 where
  own : entry_at fs x.number ≡ Some x.entry
  stays : (n : ℕ) (k : Kept) → n ≢ x.number → IsEntryOf es n k → IsNearly fs (target x.entry) n k

put-append : (es : List Entry) (x : Numbered) → x.number ≡ length es + 1 → IsPut es (es ++ x.entry ∷ []) x
put-append es x place = grind (arith, ints, nat_tests, eqb, entry_at-append, stays-append)

put-exchange : (es : List Entry) (x : Numbered) (old : Entry) → IsExchange es x old → IsPut es (with_entry es x.number x.entry) x
put-exchange es x old is =
    let own : eqb x.number x.number ≡ true = grind (arith, nat_tests) in
    let same : target old ≡ target x.entry = sym (target-made old) ∙ ap target (sym is.same) ∙ target-made x.entry in
    record {
      own = entry_at-with es x.number old x.entry x.number is.there ∙ rw own refl;
      stays = λ n k apart here. stays-with es x.number old x.entry n k is.there same apart here;
    }

put-kept : (ks : List Kept) (es fs : List Entry) (x : Numbered) (v : TotalsAfter) → AreKept ks es → IsPut es fs x → pos v.left ≡ left_of fs x.number x.entry → (n : ℕ) (k : Kept) → put_in ks (kept_as x v) n ≡ Some k → IsNearly fs (target x.entry) n k
put-kept ks es fs x v kept put left n k h = grind (arith, nat_tests, (put.stays n k), (kept n k))

-- with what is left of number t written, each is
written : (fs : List Entry) (t : ℕ) (o : Option Left) (n : ℕ) (p : Option Kept) → ((k : Kept) → p ≡ Some k → IsNearly fs t n k) → IsOther fs t o → (k : Kept) → other_relieved o n p ≡ Some k → IsEntryOf fs n k
written fs t None n p near none k h = let is = near k h in grind (arith, within)
written fs t (Some o) n None near other k h = grind (arith, ints, nat_tests, eqb)
written fs t (Some o) n (Some j) near other k h = grind (arith, nat_tests, (near j refl), (other.1 j.entry))

-- What is kept is a part of the rows after the change.

applied-kept : (m m' : Part) (x : Numbered) (v : TotalsAfter) (day : ℕ) → IsWritten m x v day m' → (n : ℕ) → kept_in m'.kept n ≡ other_relieved v.other n (put_in m.kept (kept_as x v) n)
applied-kept m m' x v day a n = grind (arith, ints, nat_tests, kept-other, entry_put, kept-with)

applied-written : (m m' : Part) (rows : Rows) (fs : List Entry) (x : Numbered) (v : TotalsAfter) (day : ℕ) → IsPart m rows → IsPut rows.entries fs x → AreFigures v.figures fs → AreLeft fs x v → IsWritten m x v day m' → IsPart m' (record { head = seen_on rows.head day; seats = rows.seats; entries = fs })
applied-written m m' rows fs x v day p put figures lefts a = record {
  head = a.head ∙ ap (λ h. seen_on h day) p.head;
  seats = a.seats ∙ p.seats;
  figures = let P : Figures → Type 0 = λ f. AreFigures f fs in subst P (sym a.figures) figures;
  kept = λ n k h. written fs (target x.entry) v.other n (put_in m.kept (kept_as x v) n)
      (put-kept m.kept rows.entries fs x v p.kept put lefts.0 n) lefts.1 k (sym (applied-kept m m' x v day a n) ∙ h);
}

-- What was held is held.

stays-kept : (o : Option Left) (n : ℕ) (k : Option Kept) → is_some (other_relieved o n k) ≡ is_some k
stays-kept o n k = grind (arith, ints, nat_tests, eqb, with_left)

applied-held : (m m' : Part) (x : Numbered) (v : TotalsAfter) (day : ℕ) → IsWritten m x v day m' → ((n : ℕ) → n ≢ x.number → ltb m.figures.entries n ≡ true → ltb m'.figures.entries n ≡ true) → HoldsOn m m'
applied-held m m' x v day a past n h =
    let now = applied-kept m m' x v day a n in
    let stays = stays-kept v.other n (put_in m.kept (kept_as x v) n) in
    let more = past n in
    grind (arith, nat_tests)

held-append : (m m' : Part) (rows : Rows) (x : Numbered) (v : TotalsAfter) (day : ℕ) → IsPart m rows → x.number ≡ length rows.entries + 1 → AreFigures v.figures (rows.entries ++ x.entry ∷ []) → IsWritten m x v day m' → HoldsOn m m'
held-append m m' rows x v day p place figures a = grind (arith, ints, nat_tests, length_push, applied-held)

held-exchange : (m m' : Part) (rows : Rows) (x : Numbered) (v : TotalsAfter) (day : ℕ) → IsPart m rows → AreFigures v.figures (with_entry rows.entries x.number x.entry) → IsWritten m x v day m' → HoldsOn m m'
held-exchange m m' rows x v day p figures a = grind (arith, ints, nat_tests, length-with, applied-held)

-- What was whole is whole.

whole-append : (m m' : Part) (rows : Rows) (x : Numbered) (v : TotalsAfter) (day : ℕ) → IsWhole m rows → x.number ≡ length rows.entries + 1 → IsWritten m x v day m' → (entries_kept m'.kept ≡ rows.entries ++ x.entry ∷ []) × AreNumbered 1 m'.kept
whole-append m m' rows x v day whole place a =
    grind (arith, entry_put, other_written, length-kept, numbered-other, numbered-end, entries-other, entries-end)

whole-exchange : (m m' : Part) (rows : Rows) (x : Numbered) (old : Entry) (v : TotalsAfter) (day : ℕ) → IsWhole m rows → entry_at rows.entries x.number ≡ Some old → IsWritten m x v day m' → (entries_kept m'.kept ≡ with_entry rows.entries x.number x.entry) × AreNumbered 1 m'.kept
whole-exchange m m' rows x old v day whole there a =
    grind (arith, ints, nat_tests, entry_put, other_written, numbered-other, numbered-at, entries-other, entries-at)

-- The matter after each edit.

-- the matter is what the change makes of it: a part stays a part, what was held is held, a whole matter stays whole
pub record IsAfter (m : Part) (c : MatterChange) (m' : Part) : Type 0 where
  pub part : (rows : Rows) → Sound rows → IsPart m rows → IsChange rows c → IsPart m' (changed c rows)
  pub held : (rows : Rows) → Sound rows → IsPart m rows → IsChange rows c → HoldsOn m m'
  pub whole : (rows : Rows) → Sound rows → IsWhole m rows → IsChange rows c → IsWhole m' (changed c rows)

-- the change of this edit and day, with these totals
abbrev change-by : MatterChange → Edit → ℕ → TotalsAfter → MatterChange
change-by c e day v = record c { edit = e; last = day; moves = v }

as-told : (m m' n : Part) (c : MatterChange) (e : Edit) (v : TotalsAfter) (day : ℕ) → c.edit ≡ e → v ≡ c.moves → day ≡ c.last → m' ≡ n → IsAfter m (change-by c e day v) n → IsAfter m c m'
as-told m m' n c e v day is moves on made after = grind (arith, ints, nat_tests)

pub after-append : (m m' : Part) (c : MatterChange) (x : Numbered) (v : TotalsAfter) (day : ℕ) → c.edit ≡ edit.Append x → v ≡ c.moves → day ≡ c.last → IsWritten m x v day m' → IsAfter m c m'
after-append m m' c x v day is moves on a =
    let part = applied-written m m' in
    let kept = whole-append m m' in
    let put = put-append in
    as-told m m' m' c (edit.Append x) v day is moves on refl (grind (arith, held-append))

pub after-exchange : (m m' : Part) (c : MatterChange) (x : Numbered) (v : TotalsAfter) (day : ℕ) → c.edit ≡ edit.Exchange x → v ≡ c.moves → day ≡ c.last → IsWritten m x v day m' → IsAfter m c m'
after-exchange m m' c x v day is moves on a = as-told m m' m' c (edit.Exchange x) v day is moves on refl (record {
  part = λ rows s p ch. applied-written m m' rows (with_entry rows.entries x.number x.entry) x v day p (put-exchange rows.entries x ch.place.1.0 ch.place.1.1) ch.figures ch.lefts a;
  held = λ rows s p ch. held-exchange m m' rows x v day p ch.figures a;
  whole = λ rows s w ch.
      let kept = whole-exchange m m' rows x ch.place.1.0 v day w ch.place.1.1.there a in
      record { part = applied-written m m' rows (with_entry rows.entries x.number x.entry) x v day w.part (put-exchange rows.entries x ch.place.1.0 ch.place.1.1) ch.figures ch.lefts a; entries = kept.0; numbered = kept.1 };
})

-- a change of the head and the seats alone
after-seated : (m m' : Part) (c : MatterChange) (e : Edit) (day : ℕ) (head : Option Head) (seats : List Seat) → c.edit ≡ e → day ≡ c.last → m' ≡ record m { head = head; seats = seats } → ((es : List Entry) → edited es e ≡ es) → ((rows : Rows) → Sound rows → IsPart m rows → IsPlace rows e → (head ≡ head_after rows.head e day) × (seats ≡ seats_after rows.seats e)) → IsAfter m c m'
after-seated m m' c e day head seats is on made kept parts =
    let F : List Entry → Type 0 = AreFigures m.figures in
    let K : List Entry → Type 0 = AreKept m.kept in
    let part : (rows : Rows) → Sound rows → IsPart m rows → IsPlace rows e → IsPart (record m { head = head; seats = seats }) (changed_by e day rows) = λ rows s p place.
    let ends = parts rows s p place in
    let same = sym (kept rows.entries) in
    record { head = ends.0; seats = ends.1; figures = subst F same p.figures; kept = subst K same p.kept } in
    as-told m m' (record m { head = head; seats = seats }) c e c.moves day is refl on made (record {
      part = λ rows s p ch. part rows s p ch.place;
      held = λ rows s p ch n h. h;
      whole = λ rows s w ch. record { part = part rows s w.part ch.place; entries = w.entries ∙ sym (kept rows.entries); numbered = w.numbered };
    })

pub after-nothing : (m : Part) (c : MatterChange) → c.edit ≡ edit.Nothing → IsAfter m c m
after-nothing m c is = after-seated m m c edit.Nothing c.last m.head m.seats is refl refl (λ es. refl) (λ rows s p place. (p.head, p.seats))

no-seats : (h : Option Head) (seats : List Seat) (es : List Entry) → h ≡ None → IsHeaded h seats es → seats ≡ []
no-seats h seats es none headed = grind (arith, ints, nat_tests)

pub after-open : (m m' : Part) (c : MatterChange) (o : Opening) → c.edit ≡ edit.Open o → m' ≡ record m { head = Some o.head; seats = m.seats ++ o.seat ∷ [] } → IsAfter m c m'
after-open m m' c o is made = after-seated m m' c (edit.Open o) c.last _ _ is refl made (λ es. refl)
    (λ rows s p place. (refl, ap (λ l. l ++ o.seat ∷ []) (p.seats ∙ no-seats rows.head rows.seats rows.entries place s.headed)))

pub after-seat : (m m' : Part) (c : MatterChange) (seat : Seat) (day : ℕ) → c.edit ≡ edit.Seat seat → day ≡ c.last → m' ≡ record m { head = seen_on m.head day; seats = m'.seats } → (AreInOrder m.seats → role_in m.seats seat.person ≡ None → m'.seats ≡ seats_with m.seats seat) → IsAfter m c m'
after-seat m m' c seat day is on made seats =
    grind (arith, ints, nat_tests, (after-seated m m' c (edit.Seat seat) day (seen_on m.head day) m'.seats is on made))

pub after-unseat : (m m' : Part) (c : MatterChange) (person : List ℕ) (day : ℕ) → c.edit ≡ edit.Unseat person → day ≡ c.last → m' ≡ record m { head = seen_on m.head day; seats = seats_without m.seats person } → IsAfter m c m'
after-unseat m m' c person day is on made = after-seated m m' c (edit.Unseat person) day _ _ is on made (λ es. refl)
    (λ rows s p place. (ap (λ h. seen_on h day) p.head, ap (λ l. seats_without l person) p.seats))

pub after-close : (m m' : Part) (c : MatterChange) (on last : ℕ) → c.edit ≡ edit.Close on → last ≡ c.last → m' ≡ record m { head = closed_head m.head on last } → IsAfter m c m'
after-close m m' c on last is seen made = after-seated m m' c (edit.Close on) last _ m.seats is seen made (λ es. refl)
    (λ rows s p place. (ap (λ h. closed_head h on last) p.head, p.seats))

held-none : (m : Part) (rows : Rows) (n : ℕ) → IsPart m rows → is_held m n ≡ true → ltb 0 n ≡ true
held-none m rows n p h = cases (kept_in m.kept n) refl h
  where
    cases : (o : Option Kept) → kept_in m.kept n ≡ o → (is_some o || ltb m.figures.entries n) ≡ true → ltb 0 n ≡ true
    cases None at h = grind (arith, nat_tests)
    cases (Some k) at h = let w = (within rows.entries n k.entry (p.kept n k at).there).0 in grind (arith, nat_tests)

-- nothing is kept but the head
abbrev cleared_part : Part → ℕ → ℕ → Part
cleared_part m on last = record { head = purged_head m.head on last; seats = []; figures = no_figures; kept = [] }

pub after-purge : (m m' : Part) (c : MatterChange) (on last : ℕ) → c.edit ≡ edit.Purge on → last ≡ c.last → m' ≡ cleared_part m on last → IsAfter m c m'
after-purge m m' c on last is seen made =
    grind (arith, ints, nat_tests, changed_by, purged_head, figures-none, as-told, held-none)

pub ok-map : {X E : Type 0} (A B : Type 0) (r : Result X E) → OnOk r A → (A → B) → OnOk r B
ok-map h1 h2 h3 h f = grind (arith, ints, nat_tests)

pub ok-both : {X E : Type 0} (A B D : Type 0) (r : Result X E) → OnOk r A → OnOk r B → (A → B → D) → OnOk r D
ok-both h1 h2 h3 h4 h g f = grind (arith, ints, nat_tests)

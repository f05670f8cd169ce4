-- The days of sound rows, after an entry is added or exchanged.
use Rattle.matter_rows.proofs.Names.{AllByRecursion, ◌≡◌, ℕ, ◌-◌, ◌≤◌, List, [], ◌∷◌, ◌++◌, map, refl, arith, Option, Some, None, eqb, false≢true, Seat, Entry, entry_at, with_entry, book_day, as_made, days_of, IsBy, AreRising, IsRising, AreDated, IsAtRestIfClosed, IsBare}
use Rattle.std.specs.Prelude.{is_some}
use Rattle.matter_rows.specs.declared.head.Head.{Head}
use Rattle.matter_rows.specs.declared.head.Holder.{Holder}
use Rattle.matter_rows.proofs.Entries.{all-at, all-append, all-with}
use Rattle.matter_rows.proofs.Exchange.{all-map}

-- days up to one are up to a later one
pub up-to : (a b : ℕ) (days : List ℕ) → a ≤ b → AllByRecursion (λ d. d ≤ a) days → AllByRecursion (λ d. d ≤ b) days
up-to a b [] le h = tt
up-to a b (day ∷ days) le h = (let first = h.0 in omega (arith, le, first), up-to a b days le h.1)

-- what is not after a day is not after a later one
pub by-later : (a b : ℕ) (e : Entry) → a ≤ b → IsBy a e → IsBy b e
by-later a b e le h = up-to a b (days_of e) le h

pub made-by : (day : ℕ) (e : Entry) → IsBy day e → book_day e ≤ day
unfolding days_of
made-by day e h = h.0

made-append : (from last : ℕ) (es : List Entry) (x : Entry) → AreRising from (map book_day es) → AllByRecursion (IsBy last) es → from ≤ last → last ≤ book_day x → AreRising from (map book_day (es ++ x ∷ []))
made-append from last [] x up by before after = (omega (arith, before, after), tt)
made-append from last (e ∷ es) x up by before after = (up.0, made-append (book_day e) last es x up.1 by.1 (made-by last e by.0) after)

-- what is the same of the exchanged entry is the same of all
pub map-with : {B : Type 0} (f : Entry → B) (es : List Entry) (n : ℕ) (old x : Entry) → entry_at es n ≡ Some old → f x ≡ f old → map f (with_entry es n x) ≡ map f es
map-with f [] n old x at same = refl
map-with f (e ∷ es) n old x at same = grind (arith, eqb, (map-with f es (n - 1) old x))

all-by-later : (a b : ℕ) (es : List Entry) → a ≤ b → AllByRecursion (IsBy a) es → AllByRecursion (IsBy b) es
all-by-later a b es le h = all-map (IsBy a) (IsBy b) es (λ e by. by-later a b e le by) h

-- The last day is a later one.

pub dated-later : (h : Head) (es : List Entry) (last : ℕ) → AreDated h es → h.last ≤ last → AreDated (record h { last = last }) es
dated-later h es last d later = grind (arith, all-by-later)

pub dated-append : (h : Head) (es : List Entry) (x : Entry) (last : ℕ) → AreDated h es → h.last ≤ book_day x → IsBy last x → IsRising x → AreDated (record h { last = last }) (es ++ x ∷ [])
dated-append h es x last d from by rising = grind (arith, made-by, all-append, all-by-later, made-append)

pub dated-with : (h : Head) (es : List Entry) (n : ℕ) (old x : Entry) (last : ℕ) → AreDated h es → entry_at es n ≡ Some old → as_made x ≡ as_made old → h.last ≤ last → IsBy last x → IsRising x → AreDated (record h { last = last }) (with_entry es n x)
dated-with h es n old x last d at same later by rising = grind (arith, map-with, all-with, all-by-later)

-- the entry of a number was made by the last day
pub made-before : (h : Head) (es : List Entry) (n : ℕ) (e : Entry) → AreDated h es → entry_at es n ≡ Some e → book_day e ≤ h.last
made-before h es n e d at = made-by h.last e (all-at (IsBy h.last) es n e d.by_last at)

-- a matter that was not closed need not be at rest
pub not-closed : (h : Head) (closed : Option ℕ) (es : List Entry) → closed ≡ None → IsAtRestIfClosed h closed es
not-closed h closed es is = grind (arith)

-- a matter that is not closed was not purged
pub unclosed-bare : (o : Holder) (closed after : Option ℕ) (old last : ℕ) (seats more : List Seat) (es fs : List Entry) → IsBare o closed old seats es → closed ≡ None → IsBare o after last more fs
unclosed-bare o closed after old last seats more es fs bare unclosed = grind (arith, false≢true, is_some)

pub not-bare : (o : Holder) (closed : Option ℕ) (old last : ℕ) (seats more : List Seat) (es fs : List Entry) → IsBare o closed old seats es → closed ≡ None → IsBare o closed last more fs
not-bare o closed old last seats more es fs bare unclosed = unclosed-bare o closed closed old last seats more es fs bare unclosed

-- What is written of the lines of a statement.
use Rattle.statement_match.proofs.Names.{◌≡◌, ◌≢◌, ◌∙◌, sym, ap, subst, ℕ, ◌<◌, Bool, true, false, not, cond, List, [], ◌∷◌, ◌++◌, length, get_or, refl, Contains, find, bytes_eq, false≢true, and_from, list_any_at, bytes_eq-Decides, Line, Waiting, Held, is_claimed, is_open, is_open_fit, LineOutcome, becomes, fill, is_doubled, is_in_book, AreWritten, None_left, Kept, Named, LeftOut, AreNamedApart, IsSure, NoneIsNamedTwice, OnlyReferencesChange, WritesWhatIsSure, with_reference, written_as, written_of, arith, ints, nat_tests}
use Rattle.statement_lines.specs.declared.line_outcome.LineOutcome.TheVariants as outcome
use Rattle.statement_match.proofs.Filling.{filled_if_sure, sure_of}
use Rattle.statement_match.proofs.Picks.{found_is_there, found_passes, one_place}
use Rattle.statement_match.proofs.Waits.{none_there, the_one}

-- What holds of both choices holds of the one that is taken.

pub chosen : (P : LineOutcome → Type 0) (b : Bool) (x y : LineOutcome) → P x → P y → P (cond b x y)
chosen x0 b x y px py = grind (arith, ints, nat_tests)

-- what holds of a line that is left and of one that is filled holds behind the search for its entry
pub by_fill : (P : LineOutcome → Type 0) (today : ℕ) (held : Held) (lines : List Line) (line : Line) → P outcome.Left
    → ((r : List ℕ) → P (outcome.Filled r)) → P (fill today held lines line)
unfolding fill
by_fill x0 today held lines line left filled = grind (arith, ints, nat_tests, chosen, find)

pub by_last : (P : LineOutcome → Type 0) (today : ℕ) (held : Held) (lines : List Line) (line : Line) → P outcome.Doubled
    → P outcome.Left → ((r : List ℕ) → P (outcome.Filled r))
    → P (cond (is_doubled held lines line) outcome.Doubled (fill today held lines line))
by_last P today held lines line doubled left filled =
    chosen P (is_doubled held lines line) outcome.Doubled (fill today held lines line) doubled
    (by_fill P today held lines line left filled)

-- Whether a line is open, by its outcome.

abbrev pub HasOpenness : Line → LineOutcome → Type 0
HasOpenness line outcome.AsItIs = is_open line ≡ false
HasOpenness line _ = is_open line ≡ true

pub openness : (today : ℕ) (held : Held) (lines : List Line) (line : Line)
    → HasOpenness line (becomes today held lines line)
unfolding becomes
openness today held lines line = by (is_open line) refl
  where
    by : (b : Bool) → is_open line ≡ b → HasOpenness line (cond (not b) outcome.AsItIs
        (cond (is_in_book held lines line) outcome.InBook
        (cond (is_doubled held lines line) outcome.Doubled (fill today held lines line))))
    by true e =
        chosen (HasOpenness line) (is_in_book held lines line) outcome.InBook _ e
        (by_last (HasOpenness line) today held lines line e e (λ r. e))
    by false e = e

-- Nothing but references changes.

module _ (today : ℕ) (held : Held) (all : List Line) where
  -- a line that became something else than filled is sure of no entry
  unsure : (line : Line) (o : LineOutcome) → becomes today held all line ≡ o → ((r : List ℕ) → o ≢ outcome.Filled r)
      → (w : Waiting) → IsSure today held all line w → ⊥
  unsure line o is other w sure = other w.reference (sym is ∙ filled_if_sure today held all line w sure)

  one_more : (line : Line) (lines out : List Line) (o : LineOutcome) → becomes today held all line ≡ o
      → HasOpenness line o → AreWritten today held all lines out
      → AreWritten today held all (line ∷ lines) (written_as line o ++ out)
  one_more line lines out outcome.AsItIs is e rest = Kept line lines out e rest
  one_more line lines out outcome.InBook is e rest =
      LeftOut line lines out e (unsure line outcome.InBook is (λ r clash. cc)) rest
  one_more line lines out outcome.Doubled is e rest =
      LeftOut line lines out e (unsure line outcome.Doubled is (λ r clash. cc)) rest
  one_more line lines out (outcome.Filled r) is e rest =
      let found = sure_of today held all line r is in
      subst (λ (q : List ℕ). AreWritten today held all (line ∷ lines) (with_reference q line ∷ out)) (sym found.2)
      (Named found.0 line lines out found.1 rest)
  one_more line lines out outcome.Left is e rest =
      LeftOut line lines out e (unsure line outcome.Left is (λ r clash. cc)) rest

  written_by : (lines : List Line) → AreWritten today held all lines (written_of today held all lines)
  written_by [] = None_left
  written_by (line ∷ lines) =
      one_more line lines (written_of today held all lines) (becomes today held all line) refl
      (openness today held all line) (written_by lines)

pub only_references_change : OnlyReferencesChange
only_references_change today held lines = written_by today held lines lines

-- What is written of a line without a reference.

of_open : (line x : Line) (o : LineOutcome) → HasOpenness line o → is_open line ≡ true → Contains (written_as line o) x
    → (r : List ℕ) × (o ≡ outcome.Filled r) × (with_reference r line ≡ x)
of_open line x outcome.AsItIs e opened there = absurd (false≢true (sym e ∙ opened))
of_open line x outcome.InBook e opened there = absurd (none_there x there)
of_open line x outcome.Doubled e opened there = absurd (none_there x there)
of_open line x (outcome.Filled r) e opened there = (r, refl, the_one (with_reference r line) x there)
of_open line x outcome.Left e opened there = absurd (none_there x there)

-- what is written of a line without a reference is the line as it is filled
pub written_is_filled : (today : ℕ) (held : Held) (lines : List Line) (line x : Line) → is_open line ≡ true
    → Contains (written_as line (becomes today held lines line)) x
    → (r : List ℕ) × (becomes today held lines line ≡ outcome.Filled r) × (with_reference r line ≡ x)
written_is_filled today held lines line x opened there =
    of_open line x (becomes today held lines line) (openness today held lines line) opened there

pub writes_what_is_sure : WritesWhatIsSure
writes_what_is_sure today held lines line x opened = (
  λ there.
      let wrote = written_is_filled today held lines line x opened there in
      let found = sure_of today held lines line wrote.0 wrote.1 in
      (found.0, found.1, sym wrote.2 ∙ ap (λ r. with_reference r line) found.2),
  λ sure.
      let filled = filled_if_sure today held lines line sure.0 sure.1 in
      subst (λ (o : LineOutcome). Contains (written_as line o) x) (sym filled) (0, omega arith, sym sure.2),
)

-- a record with the reference makes that claimed
claims : (lines : List Line) (k : ℕ) (d : Line) (reference : List ℕ) → k < length lines
    → (get_or lines k d).reference ≡ reference → is_claimed lines reference ≡ true
claims lines k d reference lt e = grind (arith, ints, nat_tests, list_any_at, bytes_eq, bytes_eq-Decides, get_or)

-- No entry is named twice.

-- two lines at two places are not both sure of one entry
not_both : (today : ℕ) (held : Held) (lines : List Line) (i k : ℕ) (d : Line) (w v : Waiting)
    → AreNamedApart held.waiting → i < length lines → k < length lines → i ≢ k
    → IsSure today held lines (get_or lines i d) w → IsSure today held lines (get_or lines k d) v
    → v.reference ≡ w.reference → ⊥
not_both today held lines i k d w v apart li lk differ one other e =
    grind (arith, ints, nat_tests, found_is_there, get_or, and_from, is_open, found_passes, is_open_fit, one_place)

clash_by : (today : ℕ) (held : Held) (lines : List Line) (i k : ℕ) (d x : Line) (w : Waiting) (o : LineOutcome)
    → AreNamedApart held.waiting → i < length lines → k < length lines → i ≢ k
    → IsSure today held lines (get_or lines i d) w
    → becomes today held lines (get_or lines k d) ≡ o → Contains (written_as (get_or lines k d) o) x
    → x.reference ≡ w.reference → ⊥
clash_by today held lines i k d x w outcome.AsItIs apart li lk differ sure e there is =
    let same = the_one (get_or lines k d) x there in
    let claimed = claims lines k d w.reference lk (ap (λ (y : Line). y.reference) same ∙ is) in
    let free = sure.unclaimed in cc
clash_by today held lines i k d x w outcome.InBook apart li lk differ sure e there is = none_there x there
clash_by today held lines i k d x w outcome.Doubled apart li lk differ sure e there is = none_there x there
clash_by today held lines i k d x w (outcome.Filled r) apart li lk differ sure e there is =
    grind (arith, ints, nat_tests, sure_of, get_or, the_one, with_reference, not_both)
clash_by today held lines i k d x w outcome.Left apart li lk differ sure e there is = none_there x there

pub none_is_named_twice : NoneIsNamedTwice
none_is_named_twice today held lines i k d x reference apart li lk differ filled there is =
    let found = sure_of today held lines (get_or lines i d) reference filled in
    clash_by today held lines i k d x found.0 (becomes today held lines (get_or lines k d)) apart li lk differ found.1
    refl there (is ∙ found.2)

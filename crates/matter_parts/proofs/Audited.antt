-- The whole of sound rows passes each test, and what passes each is that.
use Rattle.matter_parts.proofs.Names.{◌≡◌, ◌≤◌, ◌↔◌, Bool, true, false, false≢true, length, arith, length-map, closed_on, AreInOrder, AreInForm, Part, AreEmptyIfClosed, AreFigures, entries_kept, AreInPlace, IsSoundWhole, WholeIsSound, rows_kept, whole}
use Rattle.matter_parts.proofs.WholeRows.{form-of, empty-of, backed-of, sound-of}
use Rattle.matter_parts.proofs.InPlace.{in-place, kept-of, numbered-of}

-- what is tested of a matter
pub record IsTested (m : Part) : Type 0 where
  pub few : length m.kept ≤ 9_999
  pub order : AreInOrder m.seats
  pub form : AreInForm m.head m.seats (entries_kept m.kept)
  pub totals : AreFigures m.figures (entries_kept m.kept)
  pub empty : AreEmptyIfClosed (closed_on m.head) m.figures
  pub place : AreInPlace (entries_kept m.kept) 1 m.kept

pub from-tests : (m : Part) → IsTested m → IsSoundWhole m
from-tests m t =
    let numbered = numbered-of (entries_kept m.kept) 1 m.kept t.place in
    let kept = kept-of m.kept t.place in
    grind (arith, length-map, backed-of, sound-of)

pub to-tests : (m : Part) → IsSoundWhole m → IsTested m
to-tests m s = grind (arith, length-map, form-of, empty-of, in-place)

pub whole-sound : WholeIsSound
whole-sound m rows sound whole = grind (arith, rows_kept)

-- what fails a test that sound rows pass is not sound
pub fails : (m : Part) (b : Bool) (T : Type 0) → b ≡ false → ((b ≡ true) ↔ T) → (IsSoundWhole m → T) → (false ≡ true) ↔ IsSoundWhole m
fails m b T failed test passed = grind (arith, false≢true)

-- Texts of names, labels and bank lines.
use Rattle.trust_base.proofs.Names.{◌≡◌, ℕ, List, false, inl, inr, IsUtf8-from_is_utf8}
use Rattle.std.specs.Str.{IsUtf8, is_utf8}
use Rattle.std.proofs.lemmas.Bool.{cases_Bool}

-- the test fails of what is no text
pub is_utf8-of_other : (bs : List ℕ) → (IsUtf8 bs → ⊥) → is_utf8 bs ≡ false
is_utf8-of_other bs no_text = elim (cases_Bool (is_utf8 bs)) [
  | inl held ↦ absurd (no_text (IsUtf8-from_is_utf8 bs held))
  | inr off ↦ off
]

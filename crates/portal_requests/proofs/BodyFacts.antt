-- The object that a body is.
use Rattle.portal_requests.proofs.Names.{◌≡◌, ℕ, Bool, true, false, cond, List, [], ◌∷◌, Option, Some, None, refl, sym, ap, ◌∙◌, option_and_then, IsUtf8, is_utf8, IsUtf8-from_is_utf8, is_utf8-from_IsUtf8, bytes_eq, body_in, is_key, is_object, object_with, text_in, texts, arith, ints, nat_tests}
use Rattle.std.specs.Borrow.{Bor}
use Rattle.std.specs.List.{list_any}
use Rattle.std.proofs.lemmas.Slice.Eq.{bytes_eq-Decides}
use Rattle.serde_json.specs.Data.{Data}
use Rattle.serde_json.specs.Read.{read as read_text}

-- the object of a text that was read
abbrev pub body_by : List (List ℕ) → Bool → Option Data → Option Data
body_by keys utf8 read = cond utf8 (option_and_then (object_with keys) read) None

pub body-none : (keys : List (List ℕ)) (body text : List ℕ) → text ≡ text_in body → (IsUtf8 text → read_text text ≡ None) → None ≡ body_in keys body
body-none keys body text same unread = cases (is_utf8 text) refl ∙ ap (λ (t : List ℕ). body_by keys (is_utf8 t) (read_text t)) same
  where
    cases : (b : Bool) → is_utf8 text ≡ b → None ≡ body_by keys b (read_text text)
    cases true is = sym (ap (λ (r : Option Data). body_by keys true r) (unread (IsUtf8-from_is_utf8 text is)))
    cases false is = refl

pub body-some : (keys : List (List ℕ)) (body text : List ℕ) (d : Data) → text ≡ text_in body → IsUtf8 text → read_text text ≡ Some d → object_with keys d ≡ body_in keys body
body-some keys body text d same utf8 is =
    sym (ap (λ (t : List ℕ). body_by keys (is_utf8 t) (read_text t)) (sym same) ∙ ((λ i. body_by keys (is_utf8-from_IsUtf8 text utf8 i) (is i))))

pub object-yes : (keys : List (List ℕ)) (d : Data) → is_object keys d ≡ true → Some d ≡ object_with keys d
object-yes keys d is = sym (ap (λ (b : Bool). cond b (Some d) None) is)

pub object-other : (keys : List (List ℕ)) (d : Data) → is_object keys d ≡ false → None ≡ object_with keys d
object-other keys d is = sym (ap (λ (b : Bool). cond b (Some d) None) is)

eq-swap : (a b : List ℕ) → bytes_eq a b ≡ bytes_eq b a
eq-swap a b = grind (arith, ints, nat_tests, bytes_eq-Decides a b, bytes_eq-Decides b a)

-- whether a key is among some texts
pub key-among : (keys : List (Bor (List ℕ))) (key : List ℕ) → list_any (λ k. bytes_eq k.now key) keys ≡ is_key (texts keys) key
key-among [] key = refl
key-among (k ∷ keys) key = grind (arith, ints, nat_tests, eq-swap k.now key, key-among keys key)

-- A front of one text behind another.
use Rattle.portal_http.proofs.Names.{◌≡◌, ◌<◌, ◌+◌, ℕ, List, [], ◌∷◌, ◌++◌, Option, None, length, take, refl, sym, subst, arith, length-append, take-append-add, Appends, Appends-trans, Reply, reply_bytes, IsCut, last_text}

-- a front of the text was written
abbrev pub WroteFront : Option (List ℕ) → Option (List ℕ) → List ℕ → Type 0
WroteFront a b text = (n : ℕ) × (n < length text) × Appends a b (take n text)

pub cut-behind : (a b c : Option (List ℕ)) (first second : List ℕ) → Appends a b first → WroteFront b c second → IsCut (first ++ second) second a c
cut-behind a b c first second whole (n, lt, wrote) = record {
  size = length first + n;
  less = omega (arith, length-append first second);
  whole = omega (arith, length-append first second);
  written = subst (λ (t : List ℕ). Appends a c t) (sym (take-append-add first second n)) (Appends-trans a b c first (take n second) whole wrote);
}

pub front-behind : (a b c : Option (List ℕ)) (first second : List ℕ) → Appends a b first → WroteFront b c second → WroteFront a c (first ++ second)
front-behind a b c first second whole wrote =
    let cut = cut-behind a b c first second whole wrote in
    (cut.size, cut.less, cut.written)

-- the last answer is that of the last reply
pub last-push : (rs : List Reply) (r : Reply) → last_text (rs ++ r ∷ []) None ≡ reply_bytes r
last-push [] r = refl
last-push (s ∷ []) r = refl
last-push (s ∷ t ∷ rs) r = last-push (t ∷ rs) r

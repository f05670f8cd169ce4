-- The head of an answer, piece by piece.
use Rattle.portal_http.proofs.Names.{◌≡◌, ℕ, List, [], ◌∷◌, ◌++◌, append_assoc, codes, refl, head_text, line_end, phrase_of}
use Rattle.std.specs.Fmt.{decimal}

-- the pieces in the order in which they are appended, and line by line
by-lines : (a d s p e f k g n : List ℕ)
    → (((((((a ++ d) ++ s) ++ p) ++ (e ++ f)) ++ k) ++ (e ++ g)) ++ n) ++ (e ++ e) ≡ (a ++ (d ++ (s ++ (p ++ e)))) ++ ((f ++ (k ++ e)) ++ ((g ++ (n ++ e)) ++ e))
by-lines a d s p e f k g n = simp append_assoc refl

pub head-of : (status : ℕ) (kind : List ℕ) (size : ℕ)
    → (((((((codes "HTTP/1.1 " ++ decimal status) ++ codes " ") ++ phrase_of status) ++ 13 ∷ 10 ∷ codes "content-type: ") ++ kind) ++ 13 ∷ 10 ∷ codes "content-length: ") ++ decimal size) ++ 13 ∷ 10 ∷ 13 ∷ 10 ∷ []
    ≡ head_text status kind size
unfolding head_text
head-of status kind size = by-lines (codes "HTTP/1.1 ") (decimal status) (32 ∷ []) (phrase_of status) line_end (codes "content-type: ") kind (codes "content-length: ") (decimal size)

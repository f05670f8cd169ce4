-- The bank's words, and fields one behind the other.
use Rattle.trust_reports.proofs.Names.{◌≡◌, ℕ, List, [], ◌∷◌, ◌++◌, codes, map, flat_map, true, arith, append_assoc, append-nil, encode_utf8, encode_utf8_all, IsUtf8, is_utf8, map-append, further, line, shown, ints, nat_tests}
use Rattle.std.proofs.Common.{◌+◌, ◌<◌, ap, get_or, length, sym, take, ◌∙◌}
use Rattle.std.proofs.lemmas.Grind.{flat_map-append}
use Rattle.std.proofs.lemmas.List.{take_more}
use Rattle.std.proofs.lemmas.Str.{IsUtf8-from_is_utf8, encodes-append}
use Rattle.std.specs.Prelude.{ℤ, neg_ℤ}
use Rattle.firm_figures.specs.declared.figures.ReconciliationFigures.{ReconciliationFigures}
use Rattle.trust_reports.specs.TextsOfLists.{figure_line}
use Rattle.trust_reports.specs.TextsOfReconciliation.{bank_figures, book_figures}
use Rattle.trust_base.specs.BankTexts.{IsLineText, is_line_text}

-- the text of a bank's line is UTF-8
pub IsUtf8-words : (bs : List ℕ) → IsLineText bs → IsUtf8 bs
unfolding is_line_text
IsUtf8-words bs h = let text : is_utf8 bs ≡ true = grind arith in IsUtf8-from_is_utf8 bs text

-- one character more
pub shown_more : (t xs : List ℕ) (c : ℕ) → (t ++ encode_utf8_all (map shown xs)) ++ encode_utf8 (shown c) ≡ t ++ encode_utf8_all (map shown (xs ++ c ∷ []))
shown_more t xs c = simp (map-append, encodes-append, append-nil, append_assoc)

-- a line whose fields were written in two parts
pub fields_more : (out a b t field : List ℕ) (fields more : List (List ℕ)) → a ≡ out ++ (field ++ flat_map further fields) → b ≡ a ++ flat_map further more → t ≡ b ++ 10 ∷ []
    → t ≡ out ++ line field (fields ++ more)
fields_more out a b t field fields more first second third = rw (third, second, first) (simp (flat_map-append, append_assoc))

-- a line more of a list
pub lines_more : {A : Type 0} (f : A → List ℕ) (xs : List A) (i : ℕ) (x : A) (out a t : List ℕ) → i < length xs → x ≡ get_or xs i x → a ≡ out ++ flat_map f (take i xs) → t ≡ a ++ f x
    → t ≡ out ++ flat_map f (take (i + 1) xs)
lines_more f xs i x out a t within is before now =
    let more : take (i + 1) xs ≡ take i xs ++ x ∷ [] = take_more xs i x within ∙ ap (λ y. take i xs ++ y ∷ []) (sym is) in
    rw (now, before, more) (simp (flat_map-append, append_assoc, append-nil))

-- three parts, one behind the other
pub three_parts : (out a b t x y z : List ℕ) → a ≡ out ++ x → b ≡ a ++ y → t ≡ b ++ z → t ≡ out ++ (x ++ (y ++ z))
three_parts out a b t x y z first second third = rw (third, second, first) (simp append_assoc)

-- four parts
pub four_parts : (out a b c t w x y z : List ℕ) → a ≡ out ++ w → b ≡ a ++ x → c ≡ b ++ y → t ≡ c ++ z → t ≡ out ++ (w ++ (x ++ (y ++ z)))
four_parts out a b c t w x y z first second third fourth = rw (fourth, third, second, first) (simp append_assoc)

-- the rest of a report after a heading and two blocks that were written as one
pub in_figures : (out a t h b k z : List ℕ) → a ≡ out ++ h → t ≡ a ++ ((b ++ k) ++ z) → t ≡ out ++ (h ++ (b ++ (k ++ z)))
in_figures out a t h b k z first second = rw (second, first) (simp append_assoc)

in_two : (a b c d e f g h i j : List ℕ)
    → a ++ (b ++ (c ++ (d ++ (e ++ (f ++ (g ++ (h ++ (i ++ (j ++ [])))))))))
    ≡ (a ++ (b ++ (c ++ d))) ++ (e ++ (f ++ (g ++ (h ++ (i ++ j)))))
in_two a b c d e f g h i j = simp (append_assoc, append-nil)

abbrev ten : ℤ → ℤ → ℤ → ℤ → ℤ → ℤ → ℤ → ℤ → ℤ → ℤ → List ℕ
ten c a o d j l x e y g =
    figure_line (codes "CLOSING") c ++ (figure_line (codes "IN TRANSIT") a
    ++ (figure_line (codes "OUTSTANDING") (neg_ℤ o) ++ (figure_line (codes "ADJUSTED BANK") d
    ++ (figure_line (codes "JOURNAL") j ++ (figure_line (codes "LEDGERS") l
    ++ (figure_line (codes "DIFFERENCE") x ++ (figure_line (codes "EXCEPTIONS") e
    ++ (figure_line (codes "EARLY") y ++ (figure_line (codes "GAP") g ++ [])))))))))

-- the ten figures, one behind the other, are the bank's and the books'
pub figures_told : (out t : List ℕ) (f : ReconciliationFigures) (c a o d j l x e y g : ℤ) → t ≡ out ++ ten c a o d j l x e y g
    → c ≡ f.closing → a ≡ f.transit → o ≡ f.outstanding → d ≡ f.adjusted → j ≡ f.journal → l ≡ f.ledgers
    → x ≡ f.difference → e ≡ f.exceptions → y ≡ f.early → g ≡ f.gap → t ≡ out ++ (bank_figures f ++ book_figures f)
unfolding bank_figures book_figures
figures_told out t f c a o d j l x e y g is c' a' o' d' j' l' x' e' y' g' =
    grind (arith, ints, nat_tests, ten, in_two, figure_line, codes)

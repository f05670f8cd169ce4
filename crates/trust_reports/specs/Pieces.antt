-- How the values passed to the writers are printed.
use Rattle.std.specs.Prelude.{ℕ, List, neg_ℤ}
use Rattle.std.specs.Borrow.{Bor}
use Rattle.trust_base.specs.Texts.{amount_text, day_text, entry_text, matter_text, signed_text}
use Rattle.trust_reports.specs.declared.page.Piece.{Piece}
use Rattle.trust_reports.specs.declared.page.Piece.TheVariants as piece
use Rattle.trust_reports.specs.declared.page.Sum.{Sum}
use Rattle.trust_reports.specs.declared.page.Sum.TheVariants as sum
use Rattle.trust_reports.specs.Texts.{caller_text, column, further, or_dash, owner_text, place_text, reference_text, words_shown}

abbrev pub sum_text : Sum → List ℕ
sum_text (sum.Of z) = signed_text z
sum_text (sum.NegativeOf z) = signed_text (neg_ℤ z)

abbrev pub text_of : Piece → List ℕ
text_of (piece.Word t) = t.now
text_of (piece.Label t) = t.now
text_of (piece.BankRef t) = t.now
text_of (piece.OrDash t) = or_dash t.now
text_of (piece.Words t) = words_shown t.now
text_of (piece.Day d) = day_text d
text_of (piece.LastDay d) = day_text d
text_of (piece.Amount n) = amount_text n
text_of (piece.Part n) = amount_text n
text_of (piece.Left n) = amount_text n
text_of (piece.Sum z) = signed_text z
text_of (piece.Bank z) = signed_text z
text_of (piece.Matter m) = matter_text m
text_of (piece.Entry n) = entry_text n
text_of (piece.Reference m n) = reference_text m n
text_of (piece.Place m n) = place_text m n
text_of (piece.Owner o) = owner_text o
text_of (piece.Person p) = p.now
text_of (piece.Caller c) = caller_text c.now

-- a piece after another
abbrev pub further_piece : Piece → List ℕ
further_piece p = further (text_of p)

-- a label and a figure, each padded to its width
abbrev pub row_text : ℕ → ℕ → Bor (List ℕ) × Sum → List ℕ
row_text label_places figure_places row = column label_places figure_places row.0.now (sum_text row.1)

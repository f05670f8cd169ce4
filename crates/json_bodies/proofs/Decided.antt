-- The reason of a line that names an entry, from what is loaded of its matter.
use Rattle.std.proofs.Common.{◌≡◌, ℕ, true, List, [], ◌∷◌, ◌++◌, fold, map, append-nil, append_assoc, Option, Some, Ok, arith, refl, sym, ap, ◌∙◌, subst, ℤ, pos}
use Rattle.json.specs.Token.{Token}
use Rattle.trust_base.specs.declared.line.Line.{Line}
use Rattle.firm_rows.specs.Firm.{Firm}
use Rattle.json_bodies.specs.Json.{value_tokens}
use Rattle.json_bodies.proofs.Tokens.{items_rest}
use Rattle.std.proofs.lemmas.Bool.Decides.{nat_tests}
use Rattle.std.specs.Prelude.{◌||◌, ◌==◌}
use Rattle.matter_rows.specs.declared.entry.Entry.{Entry}
use Rattle.matter_rows.specs.Rows.{Rows, entry_at}
use Rattle.matter_rows.specs.Balances.{available}
use Rattle.matter_parts.specs.Parts.{Part, IsPart, entry_in, is_held, is_held_or_none, kept_at}
use Rattle.matter_parts.proofs.Parts.{held-entry}
use Rattle.trust_matter.specs.declared.bank_line.BankLine.{BankLine}
use Rattle.trust_matter.specs.declared.line_verdict.LineEffect.TheVariants as told
use Rattle.trust_matter.specs.declared.line_verdict.LineVerdict.{LineVerdict}
use Rattle.trust_matter.specs.declared.line_verdict.LineVerdict.TheVariants as verdict
use Rattle.trust_matter.specs.declared.line_verdict.Reason.{Reason}
use Rattle.trust_matter.specs.KeptFacts.{holds_for_line}
use Rattle.trust_matter.specs.LineStep.{LineDecides, line_on}
use Rattle.trust_matter.proofs.Parts.{both}
use Rattle.json_bodies.specs.Reasons.{ExceptionReason, effect_reason, exception_object, matter_reason}

or-right : (a b : _) → b ≡ true → (a || b) ≡ true
or-right a b h = grind (arith, nat_tests)

-- the entry that is loaded, if any, is that of the rows
pub entry-there : (part : Part) (rows : Rows) (n : ℕ) → IsPart part rows → holds_for_line part n ≡ true → entry_in (kept_at part n) ≡ entry_at rows.entries n
entry-there part rows n is holds =
    let held : is_held part n ≡ true = (both _ _ holds).0 in
    (held-entry part.kept part.figures.entries n rows.entries is.kept is.figures.entries (or-right (n == 0) (is_held part n) held)).0

module _ (rows : Rows) (l : BankLine) (today : ℕ) where
  -- the reason for an effect that was decided, from what is loaded
  pub reason-by : (effect : _) (e : Option Entry) (free : ℤ) → line_on rows l today ≡ effect → e ≡ entry_at rows.entries l.entry → free ≡ available rows.entries → matter_reason rows l today ≡ effect_reason e free effect
  reason-by effect e free is there left =
      λ i. effect_reason (sym there i) (sym left i) (is i)

  pub decided-unmatched : (v : LineVerdict) (r s : Reason) → v ≡ verdict.Unmatched r → r ≡ s → LineDecides rows l today (Ok v) → line_on rows l today ≡ told.Unmatched s
  decided-unmatched v r s is same decided =
      subst (λ (x : LineVerdict). LineDecides rows l today (Ok x)) (is ∙ ap verdict.Unmatched same) decided

-- lines that are put behind one another are the list
put-behind : (xs ys : List Line) → fold (λ (lines : List Line) (line : Line). lines ++ line ∷ []) xs ys ≡ xs ++ ys
put-behind xs [] = sym (append-nil xs)
put-behind xs (y ∷ ys) = put-behind (xs ++ y ∷ []) ys ∙ append_assoc xs (y ∷ []) ys

pub collected : (ys : List Line) → fold (λ (lines : List Line) (line : Line). lines ++ line ∷ []) [] ys ≡ ys
collected ys = put-behind [] ys

-- what is written of these exceptions, and the end of the array
abbrev pub reasons_rest : ℕ → Firm → List Line → List Token
reasons_rest today firm ls = items_rest (map (exception_object today firm) ls)

pub reason-wrote : (today : ℕ) (firm : Firm) (line : Line) (ls : List Line) (old new all : List Token)
    → new ≡ old ++ value_tokens (exception_object today firm line)
    → old ++ reasons_rest today firm (line ∷ ls) ≡ all → new ++ reasons_rest today firm ls ≡ all
reason-wrote today firm line ls old new all more so =
    ap (λ ts. ts ++ reasons_rest today firm ls) more
    ∙ (append_assoc old (value_tokens (exception_object today firm line)) (reasons_rest today firm ls) ∙ so)

-- Tokens that are written one after another.

pub five-more : (t0 t1 t2 t3 t4 t5 : List Token) (a b c d e : Token)
    → t1 ≡ t0 ++ a ∷ [] → t2 ≡ t1 ++ b ∷ [] → t3 ≡ t2 ++ c ∷ [] → t4 ≡ t3 ++ d ∷ [] → t5 ≡ t4 ++ e ∷ []
    → t5 ≡ t0 ++ a ∷ b ∷ c ∷ d ∷ e ∷ []
five-more t0 t1 t2 t3 t4 t5 a b c d e one two three four fifth =
    fifth
    ∙ (ap (λ (t : List Token). t ++ e ∷ []) (four
    ∙ ap (λ (t : List Token). t ++ d ∷ []) (three
    ∙ ap (λ (t : List Token). t ++ c ∷ []) (two
    ∙ ap (λ (t : List Token). t ++ b ∷ []) one)))
    ∙ behind t0 a b c d e)
  where
    behind : (t : List Token) (a b c d e : Token) → ((((t ++ a ∷ []) ++ b ∷ []) ++ c ∷ []) ++ d ∷ []) ++ e ∷ [] ≡ t ++ a ∷ b ∷ c ∷ d ∷ e ∷ []
    behind t a b c d e = simp append_assoc

pub three-more : (t0 t1 t2 t3 : List Token) (a b c : Token)
    → t1 ≡ t0 ++ a ∷ [] → t2 ≡ t1 ++ b ∷ [] → t3 ≡ t2 ++ c ∷ [] → t3 ≡ t0 ++ a ∷ b ∷ c ∷ []
three-more t0 t1 t2 t3 a b c one two three =
    three ∙ (ap (λ (t : List Token). t ++ c ∷ []) (two ∙ ap (λ (t : List Token). t ++ b ∷ []) one) ∙ behind t0 a b c)
  where
    behind : (t : List Token) (a b c : Token) → ((t ++ a ∷ []) ++ b ∷ []) ++ c ∷ [] ≡ t ++ a ∷ b ∷ c ∷ []
    behind t a b c = simp append_assoc

pub eight-more : (t0 t5 t8 : List Token) (a b c d e f g h : Token)
    → t5 ≡ t0 ++ a ∷ b ∷ c ∷ d ∷ e ∷ [] → t8 ≡ t5 ++ f ∷ g ∷ h ∷ []
    → t8 ≡ t0 ++ a ∷ b ∷ c ∷ d ∷ e ∷ f ∷ g ∷ h ∷ []
eight-more t0 t5 t8 a b c d e f g h one two =
    two ∙ (ap (λ (t : List Token). t ++ f ∷ g ∷ h ∷ []) one ∙ append_assoc t0 (a ∷ b ∷ c ∷ d ∷ e ∷ []) (f ∷ g ∷ h ∷ []))

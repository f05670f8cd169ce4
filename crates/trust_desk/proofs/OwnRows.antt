-- Each matter's rows in a step of the firm are those of its own machine.
use Rattle.trust_desk.proofs.Names.{◌≡◌, ◌≢◌, ℕ, Bool, true, false, [], ◌∷◌, Option, Some, None, refl, sym, ap, ◌∙◌, subst, ◌==◌, cond_both, eqb-true, eqb-false, Line, Refusal, Asked, last_after, refusal, edit_on, rows_after, Firm, of, of-after_edit, of_other-after_edit, Heard, Kind, OfMatter, OfActs, OfItems, Dismisses, OnlyTold, OnlyShown, NotRead, kind_of, OwnAsk, OwnActs, concerns, kind_concerns, own_if, Own, own_rows, Rows, own_of, kind_own, asked_on, is_the, dismiss_refusal, dismissed_unless, refused, after_asked, after_ask, firm_step, kind_step, solo_rows, arith, ints, nat_tests}
use Rattle.trust_matter.specs.Step.{after}
use Rattle.trust_desk.proofs.OwnItems.{of-after_items, unnamed-items}

-- An ask is seen in its matter, and in no other.

pub of-after_asked : (o : Option Refusal) (m : ℕ) (a : Asked) (firm : Firm) → of m (after_asked o m a firm) ≡ after o (edit_on (of m firm) a) a.day (of m firm)
of-after_asked None m a firm =
    of-after_edit m (edit_on (of m firm) a) (last_after (of m firm).head (edit_on (of m firm) a) a.day) firm
of-after_asked (Some r) m a firm = refl

of_other-after_asked : (o : Option Refusal) (n m : ℕ) (a : Asked) (firm : Firm) → n ≢ m → of n (after_asked o m a firm) ≡ of n firm
of_other-after_asked None n m a firm apart = of_other-after_edit n m (edit_on (of m firm) a) (last_after (of m firm).head (edit_on (of m firm) a) a.day) firm apart
of_other-after_asked (Some r) n m a firm apart = refl

-- A step.

-- dismissing a line leaves the rows of every matter
dismissed-rows : (m day : ℕ) (o : Option Refusal) (line : Line) (firm : Firm) → of m (dismissed_unless day o line firm) ≡ of m firm
dismissed-rows m day o line firm = grind (arith, ints, nat_tests)

-- what is only asked for leaves the rows
unmoved : (b : Bool) (own : Own) (rows : Rows) → own_rows rows own ≡ rows → rows ≡ solo_rows rows (own_if b own)
unmoved true own rows same = sym same
unmoved false own rows same = refl

kind-rows : (m day : ℕ) (firm : Firm) (k : Kind) → of m (kind_step day firm k).firm ≡ solo_rows (of m firm) (kind_own m day k)
kind-rows m day firm (OfMatter n caller ask) =
    let a = asked_on day caller ask in
    cond_both (n == m) (OwnAsk a ∷ []) [] (λ owns. of m (after_ask n a firm) ≡ solo_rows (of m firm) owns)
    (λ same. subst (λ (k : ℕ). of k (after_ask n a firm) ≡ rows_after (of k firm) a) (eqb-true n m same) (of-after_asked (refusal (of n firm) a) n a firm))
    (λ other. of_other-after_asked (refusal (of n firm) a) m n a firm (λ same. eqb-false n m other (sym same)))
kind-rows m day firm (OfActs n caller) = unmoved (n == m) (OwnActs caller day) (of m firm) refl
kind-rows m day firm (OfItems refused items) = of-after_items m day firm items
kind-rows m day firm (Dismisses caller line) = dismissed-rows m day (dismiss_refusal caller line firm) line firm
kind-rows m day firm (OnlyTold text) = refl
kind-rows m day firm (OnlyShown json) = refl
kind-rows m day firm (NotRead n r) = grind (arith, ints, nat_tests, cond_both, is_the, of, solo_rows)

pub own-rows : (m day : ℕ) (firm : Firm) (h : Heard) → of m (firm_step day firm h).firm ≡ solo_rows (of m firm) (own_of m day h)
own-rows m day firm h = kind-rows m day firm (kind_of h)

-- So two firms with the same rows of a matter leave it the same.

pub same-rows : (m day : ℕ) (f g : Firm) (h : Heard) → of m f ≡ of m g → of m (firm_step day f h).firm ≡ of m (firm_step day g h).firm
same-rows m day f g h same = own-rows m day f h ∙ (ap (λ rows. solo_rows rows (own_of m day h)) same ∙ sym (own-rows m day g h))

-- What does not concern a matter.

kind-other : (m day : ℕ) (firm : Firm) (k : Kind) → kind_concerns m k ≡ false → of m (kind_step day firm k).firm ≡ of m firm
kind-other m day firm k other =
    grind (arith, ints, nat_tests, of_other-after_asked, of, eqb-false, refused, unnamed-items, dismissed-rows)

pub other-rows : (m day : ℕ) (firm : Firm) (h : Heard) → concerns m h ≡ false → of m (firm_step day firm h).firm ≡ of m firm
other-rows m day firm h other = kind-other m day firm (kind_of h) other

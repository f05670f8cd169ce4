-- What the items of a statement do to a matter is what its own machine does with the lines that name it.
use Rattle.trust_desk.proofs.Names.{◌≡◌, ◌≢◌, ℕ, false, ◌||◌, List, [], ◌∷◌, ◌++◌, refl, sym, ap, ◌∙◌, append_assoc, cond_both, eqb-true, eqb-false, or_parts, list_any, BankLine, LineEffect, Rows, line_on, after_line_effect, rows_after_line, Line, BalanceKind, Verdict, Firm, of, after, by_balance, by_firm_line, of-after_edit, of_other-after_edit, Item, after_told, after_item, after_items, names_item, Own, own_if, own_of_item, own_of_items, own_rows, own_reply, solo_rows, solo_replies, arith, ints, nat_tests}
use Rattle.trust_desk.proofs.Names.{Err, IfOk, None, Ok, OnErr, Option, Result, Seen, FirmLine, IsAppliedBeside, StoreFault, Counted, counted_of}
use Rattle.trail_laws.specs.Dossier.{Dossier}
use Rattle.trust_desk.specs.Imports.{LeavesOwnItem}
use Rattle.trust_desk.specs.Solo.{own_dossier, solo_dossier}
use Rattle.trust_desk.specs.ItemStep.{KeepsUnnamed}
use Rattle.trust_matter.specs.declared.line_verdict.LineEffect.TheVariants as told
use Rattle.statement_csv.specs.declared.item.Item.TheVariants as item

-- A machine that goes on.

pub solo_rows-append : (rows : Rows) (xs ys : List Own) → solo_rows rows (xs ++ ys) ≡ solo_rows (solo_rows rows xs) ys
solo_rows-append rows [] ys = refl
solo_rows-append rows (x ∷ xs) ys = solo_rows-append (own_rows rows x) xs ys

pub solo_replies-append : (m : ℕ) (p : Dossier) (xs ys : List Own) → solo_replies m p (xs ++ ys) ≡ solo_replies m p xs ++ solo_replies m (solo_dossier p xs) ys
solo_replies-append m p [] ys = refl
solo_replies-append m p (x ∷ xs) ys =
    ap (λ rs. own_reply m p x ++ rs) (solo_replies-append m (own_dossier p x) xs ys)
    ∙ sym (append_assoc (own_reply m p x) (solo_replies m (own_dossier p x) xs) (solo_replies m (solo_dossier (own_dossier p x) xs) ys))

-- A line is seen in its matter, and in no other.

of-after_told : (l : BankLine) (day : ℕ) (e : LineEffect) (firm : Firm) → of l.matter (after_told l day e firm) ≡ after_line_effect e (of l.matter firm)
of-after_told l day (told.Applied e) firm = of-after_edit l.matter e.edit e.last firm
of-after_told l day told.Repeat firm = refl
of-after_told l day (told.Unmatched r) firm = refl

pub of-after_line : (l : BankLine) (day : ℕ) (firm : Firm) → of l.matter (after_item day firm (item.OfMatter l)) ≡ rows_after_line (of l.matter firm) l day
of-after_line l day firm = of-after_told l day (line_on (of l.matter firm) l day) firm

of_other-after_told : (m : ℕ) (l : BankLine) (day : ℕ) (e : LineEffect) (firm : Firm) → m ≢ l.matter → of m (after_told l day e firm) ≡ of m firm
of_other-after_told m l day (told.Applied e) firm apart = of_other-after_edit m l.matter e.edit e.last firm apart
of_other-after_told m l day told.Repeat firm apart = refl
of_other-after_told m l day (told.Unmatched r) firm apart = refl

-- A line of the firm's own, or a balance, is seen in none.

pub of-balance : (m : ℕ) (kind : BalanceKind) (line : Line) (v : Verdict) (firm : Firm) → of m (after (by_balance kind line v) firm) ≡ of m firm
of-balance m kind line v firm = grind (arith, ints, nat_tests)

of-firm_line : (m : ℕ) (line : Line) (v : Verdict) (firm : Firm) → of m (after (by_firm_line line v) firm) ≡ of m firm
of-firm_line m line v firm = grind (arith, ints, nat_tests)

-- An item.

pub of-after_item : (m day : ℕ) (firm : Firm) (it : Item) → of m (after_item day firm it) ≡ solo_rows (of m firm) (own_of_item m day it)
of-after_item m day firm it =
    grind (arith, ints, nat_tests, of-balance, of, cond_both, eqb-true, of-after_told, of_other-after_told, eqb-false, of-firm_line)

-- an item that was applied leaves each matter what its own machine does
pub own-item : (day : ℕ) (firm new : Firm) (it : Item) (r : Result Counted StoreFault) → IfOk r (λ c. (c ≡ counted_of day firm it) × (new ≡ after_item day firm it)) → IfOk r (λ _. LeavesOwnItem day firm it new)
own-item day firm new it (Ok c) is = λ m. ap (of m) is.1 ∙ of-after_item m day firm it
own-item day firm new it (Err fault) is = tt

pub of-after_items : (m day : ℕ) (firm : Firm) (items : List Item) → of m (after_items day firm items) ≡ solo_rows (of m firm) (own_of_items m day items)
of-after_items m day firm [] = refl
of-after_items m day firm (it ∷ items) =
    of-after_items m day (after_item day firm it) items
    ∙ (ap (λ rows. solo_rows rows (own_of_items m day items)) (of-after_item m day firm it) ∙ sym (solo_rows-append (of m firm) (own_of_item m day it) (own_of_items m day items)))

-- Lines give no reply.

silent-item : (m day : ℕ) (p : Dossier) (it : Item) → solo_replies m p (own_of_item m day it) ≡ []
silent-item m day p it = grind (arith, ints, nat_tests, cond_both, solo_replies)

pub silent-items : (m day : ℕ) (p : Dossier) (items : List Item) → solo_replies m p (own_of_items m day items) ≡ []
silent-items m day p [] = refl
silent-items m day p (it ∷ items) =
    grind (arith, ints, nat_tests, solo_replies-append, silent-item, (silent-items m day (solo_dossier p (own_of_item m day it)) items))

-- A matter that no item names.

none-item : (m day : ℕ) (it : Item) → names_item m it ≡ false → own_of_item m day it ≡ []
none-item m day it other = grind (arith, ints, nat_tests, own_if)

-- an item leaves the rows of a matter that it does not name, applied or not
pub other-item : (day : ℕ) (firm new : Firm) (it : Item) (r : Result Counted StoreFault) → IfOk r (λ c. (c ≡ counted_of day firm it) × (new ≡ after_item day firm it)) → OnErr r (new ≡ firm) → KeepsUnnamed firm it new
other-item day firm new it (Ok c) is err = λ m other. ap (of m) is.1 ∙ (of-after_item m day firm it ∙ ap (solo_rows (of m firm)) (none-item m day it other))
other-item day firm new it (Err fault) is err = λ m other. ap (of m) err

pub others-beside : {day : ℕ} {it : Item} {result : Result Counted StoreFault} {old new : Seen} {left : Option (List FirmLine)} → IsAppliedBeside day it result old None new left → new.clean → old.stands → KeepsUnnamed old.firm it new.firm
others-beside {day} {it} {result} {old} {new} a clean stands = other-item day old.firm new.firm it result (a.step clean (stands, tt)) (a.err clean (stands, tt))

pub none-items : (m day : ℕ) (items : List Item) → list_any (names_item m) items ≡ false → own_of_items m day items ≡ []
none-items m day [] other = refl
none-items m day (it ∷ items) other =
    let n = or_parts (names_item m it) (list_any (names_item m) items) other in
    λ i. none-item m day it n.0 i ++ none-items m day items n.1 i

-- nor does a front of these items name it
pub none-front : (m : ℕ) (front rest : List Item) → list_any (names_item m) (front ++ rest) ≡ false → list_any (names_item m) front ≡ false
none-front m [] rest other = refl
none-front m (it ∷ front) rest other =
    let n = or_parts (names_item m it) (list_any (names_item m) (front ++ rest)) other in
    (λ i. n.0 i || list_any (names_item m) front) ∙ none-front m front rest n.1

-- items of which none names the matter leave its rows
pub unnamed-items : (m day : ℕ) (firm : Firm) (items : List Item) → list_any (names_item m) items ≡ false → of m (after_items day firm items) ≡ of m firm
unnamed-items m day firm items other = of-after_items m day firm items ∙ ap (solo_rows (of m firm)) (none-items m day items other)

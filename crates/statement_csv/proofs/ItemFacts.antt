-- Which records are lines.
use Rattle.statement_csv.proofs.Names.{◌≡◌, ◌∙◌, ℕ, ◌==◌, Bool, true, false, List, [], cond, length, Option, Some, None, option_map, unwrap_or, arith, nat_tests, item_by, item_of, item_of_line, line_in, entry_named, owner_of, Item, get_or, LineOwner}
use Rattle.trust_base.specs.declared.line.Line.{Line}
use Rattle.statement_csv.specs.Lines.{line_of, line_of_texts}
use Rattle.statement_csv.specs.declared.item.Item.TheVariants as item
use Rattle.statement_csv.specs.References as owner

-- the line that is kept of a line of this owner: all but balances need the bank's own reference
abbrev kept_by : Line → LineOwner → Option Line
kept_by l owner.Opening = Some l
kept_by l owner.Closing = Some l
kept_by l owner.Firm = cond (length l.bank_ref == 0) None (Some l)
kept_by l (owner.Entry named) = cond (length l.bank_ref == 0) None (Some l)
kept_by l owner.Nobody = cond (length l.bank_ref == 0) None (Some l)

behind_test : (b : Bool) (n : ℕ) (it : Item) → line_in (cond b (item.Unreadable n) it) ≡ cond b None (line_in it)
behind_test b n it = grind (arith, nat_tests)

line_by : (n : ℕ) (l : Line) (who : LineOwner) → line_in (item_by n l who) ≡ kept_by l who
line_by n l who = grind (arith, nat_tests, behind_test)

passed : (b : Bool) (l line : Line) → cond b None (Some l) ≡ Some line → (l ≡ line) × (b ≡ false)
passed b l line e = grind (arith, nat_tests)

known_by : (l : Line) (who : LineOwner) → (length l.bank_ref == 0) ≡ false → kept_by l who ≡ Some l
known_by l who e = grind (arith, nat_tests)

nobodys : (reference : List ℕ) → (length reference == 0) ≡ true → owner_of reference ≡ owner.Nobody
unfolding owner_of entry_named
nobodys reference e = grind (arith, nat_tests)

-- whether a record is a line, and which, does not hang on its number
pub same_line : (n m : ℕ) (fields : List (List ℕ)) → line_in (item_of n fields) ≡ line_in (item_of m fields)
unfolding item_of
same_line n m fields = grind (arith, nat_tests, line_of, unwrap_or, option_map, line_by)

-- a line to which the bank gave a reference of its own is one, whoever's it is
pub known_line : (number : ℕ) (l : Line) → (length l.bank_ref == 0) ≡ false
    → line_in (item_of_line number l) ≡ Some l
known_line number l e = line_by number l (owner_of l.reference) ∙ known_by l (owner_of l.reference) e

-- a line without a reference is nobody's, so the bank gave it a reference of its own
pub open_line : (number : ℕ) (l line : Line) → line_in (item_of_line number l) ≡ Some line
    → (length line.reference == 0) ≡ true → (l ≡ line) × ((length l.bank_ref == 0) ≡ false)
open_line number l line e opened = grind (arith, nat_tests, line_by, nobodys, passed)

-- the item of a record is that of the line that its five fields make
pub item_of_texts : (number : ℕ) (fields : List (List ℕ)) (l : Line) → length fields ≡ 5
    → Some l ≡ line_of_texts (get_or fields 0 []) (get_or fields 1 []) (get_or fields 2 []) (get_or fields 3 []) (get_or fields 4 [])
    → item_of_line number l ≡ item_of number fields
unfolding item_of
item_of_texts number fields l size e = grind (arith, nat_tests, unwrap_or, option_map)

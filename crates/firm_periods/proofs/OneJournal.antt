-- Each movement of a period stands in its receipts or in its disbursements, once.
use Rattle.firm_periods.proofs.Names.{◌≡◌, ℕ, Bool, true, false, not, cond, List, [], ◌∷◌, ◌++◌, map, Option, None, refl, sym, ap, ◌∙◌, arith, ℤ, pos, ◌+ℤ◌, ◌&&◌, filter, flat_map, ints, nat_tests, Entry, FirmLine, sum_of, Row, HeadRow, SeatRow, EntryRow, Firm, sum-append}
use Rattle.firm_periods.specs.declared.moved.Moved.{Moved}
use Rattle.firm_periods.specs.declared.moved.NamedMove.{NamedMove}
use Rattle.firm_periods.specs.Named.{EachStandsInOne, client_of, disbursements, is_disbursed, is_disbursed_within, is_earlier, is_received_within, is_within, moves_of, moves_where, named, named_in, own_moved, own_named, receipts}
use Rattle.firm_periods.proofs.Named.{order-sum}

module _ (from to : ℕ) (weight : NamedMove → ℤ) where
  -- what is made of the movements that pass a test
  abbrev weighed : {A : Type 0} → (A → List NamedMove) → (A → Bool) → List A → ℤ
  weighed made test vs = sum_of weight (flat_map made (filter test vs))

  put : {A : Type 0} (made : A → List NamedMove) (b : Bool) (v : A) (vs : List A) → sum_of weight (flat_map made (cond b (v ∷ vs) vs)) ≡ cond b (sum_of weight (made v)) (pos 0) +ℤ sum_of weight (flat_map made vs)
  put made true v vs = sum-append weight (made v) (flat_map made vs)
  put made false v vs = omega (arith, ints)

  one-side : (b c : Bool) (z : ℤ) → cond (b && not c) z (pos 0) +ℤ cond (b && c) z (pos 0) ≡ cond b z (pos 0)
  one-side b c z = grind (arith, ints)

  -- the two tests part the list
  parted : {A : Type 0} (made : A → List NamedMove) (within out : A → Bool) (vs : List A)
      → weighed made (λ v. within v && not (out v)) vs +ℤ weighed made (λ v. within v && out v) vs ≡ weighed made within vs
  parted made within out [] = refl
  parted made within out (v ∷ vs) =
      let r = put made (within v && not (out v)) v (filter (λ x. within x && not (out x)) vs) in
      let d = put made (within v && out v) v (filter (λ x. within x && out x) vs) in
      let w = put made (within v) v (filter within vs) in
      omega (arith, ints, r, d, w, one-side (within v) (out v) (sum_of weight (made v)), parted made within out vs)

  rows-parted : (c : Option (List ℕ)) (rows : List (ℕ × Row))
      → sum_of weight (named_in (λ e. filter (is_received_within from to) (moves_of e)) c rows)
      +ℤ sum_of weight (named_in (λ e. filter (is_disbursed_within from to) (moves_of e)) c rows)
      ≡ sum_of weight (named_in (λ e. filter (is_within from to) (moves_of e)) c rows)
  rows-parted c [] = refl
  rows-parted c ((m, HeadRow h) ∷ rows) = rows-parted (client_of h.holder) rows
  rows-parted c ((m, SeatRow s) ∷ rows) = rows-parted c rows
  rows-parted c ((m, EntryRow n e) ∷ rows) =
      let made = named c m n e in
      let first = λ (test : Moved → Bool). sum-append weight (flat_map made (filter test (moves_of e))) (named_in (λ x. filter test (moves_of x)) c rows) in
      omega (arith, ints, first (is_received_within from to), first (is_disbursed_within from to), first (is_within from to), parted made (is_within from to) is_disbursed (moves_of e), rows-parted c rows)

  alone : (ls : List FirmLine) → map own_named ls ≡ flat_map (λ l. own_named l ∷ []) ls
  alone [] = refl
  alone (l ∷ ls) = ap (λ vs. own_named l ∷ vs) (alone ls)

  own-parted : (ls : List FirmLine)
      → sum_of weight (map own_named (filter (λ l. is_received_within from to (own_moved l)) ls))
      +ℤ sum_of weight (map own_named (filter (λ l. is_disbursed_within from to (own_moved l)) ls))
      ≡ sum_of weight (map own_named (filter (λ l. is_within from to (own_moved l)) ls))
  own-parted ls =
      let each = λ (test : FirmLine → Bool). ap (sum_of weight) (alone (filter test ls)) in
      let both = parted (λ l. own_named l ∷ []) (λ l. is_within from to (own_moved l)) (λ l. is_disbursed (own_moved l)) ls in
      omega (arith, ints, each (λ l. is_received_within from to (own_moved l)), each (λ l. is_disbursed_within from to (own_moved l)), each (λ l. is_within from to (own_moved l)), both)

pub stands-in-one : EachStandsInOne
stands-in-one from to firm weight =
    let all = λ (test : Moved → Bool). sum-append weight (named_in (λ e. filter test (moves_of e)) None firm.rows) (map own_named (filter (λ l. test (own_moved l)) firm.firm_lines)) in
    let r = order-sum is_earlier weight (moves_where (is_received_within from to) firm) in
    let d = order-sum is_earlier weight (moves_where (is_disbursed_within from to) firm) in
    omega (arith, ints, r, d, all (is_received_within from to), all (is_disbursed_within from to), all (is_within from to), rows-parted from to weight None firm.rows, own-parted from to weight firm.firm_lines)

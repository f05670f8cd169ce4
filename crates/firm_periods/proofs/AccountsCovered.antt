-- No balance on a statement of account is below zero.
use Rattle.firm_periods.proofs.Names.{◌≡◌, ℕ, zero, suc, ◌+◌, ◌-◌, ◌*◌, ◌≤◌, Bool, true, false, not, cond, List, [], ◌∷◌, ◌++◌, length, map, take, Option, Some, None, is_some, refl, sym, ap, ◌∙◌, subst, arith, ℤ, pos, ◌+ℤ◌, ◌-ℤ◌, ◌≤ℤ◌, ◌==◌, ◌&&◌, ◌||◌, nat_le, nat_lt, AllByRecursion, IsStrictWeakOrder, filter, flat_map, ints, nat_tests, Entry, Event, events_of, Movement, sum_of, Firm, of, FirmSound, is_event_by, sum-append, sum-filter, sum-same, in_order, put_in_order}
use Rattle.trust_base.specs.Periods.{Span}
use Rattle.matter_rows.specs.Rows.{entry_at}
use Rattle.matter_rows.specs.Events.{events_in, paid_out, payments, received}
use Rattle.matter_rows.specs.Sound.{AreRising}
use Rattle.matter_rows.specs.declared.payment.Payment.{Payment}
use Rattle.matter_rows.specs.declared.payment.PaymentState.{PaymentState}
use Rattle.matter_rows.specs.declared.payment.VoidedPayment.{VoidedPayment}
use Rattle.matter_rows.specs.declared.payment.PaymentState.TheVariants as payment
use Rattle.matter_rows.specs.declared.entry.Entry.TheVariants as entry
use Rattle.firm_rows.specs.declared.movement.Owner.{Owner}
use Rattle.firm_rows.specs.declared.movement.Owner.TheVariants as owner
use Rattle.firm_rows.specs.Firm.{is_of_matter}
use Rattle.firm_rows.specs.Journal.{amount_for, event_of, is_of_entry, events_moved, days_moved, moved_for}
use Rattle.firm_rows.proofs.Sums.{at, sum-agree}
use Rattle.firm_periods.specs.declared.moved.Moved.{Moved}
use Rattle.firm_periods.specs.declared.moved.Cause.TheVariants as cause
use Rattle.firm_periods.specs.Named.{event_in, in_by, is_below_zero, is_within, moves_of, out_by, paying}
use Rattle.firm_periods.specs.Accounts.{AccountsAreCovered, EntryMoved, account_from, account_moves, account_of, entry_moved, is_before_moved, is_last, is_passing, is_passing_state, ledger_before, moved_before, moves_at, numbered_moves, place}
use Rattle.firm_periods.proofs.Accounts.{closing-ledger, numbered-sum, opening-before}
use Rattle.firm_periods.proofs.Named.{moves-events, order-sum, sum-both}
use Rattle.firm_figures.proofs.OneMatter.{as_of-least}
use Rattle.firm_figures.proofs.Sorted.{Up, in_order-up}

-- The order.

before-way : (a b i j : ℕ) (r s : Bool) → (nat_lt a b || (a == b && (not r && (s || nat_lt i j)))) ≡ true → (nat_lt b a || (b == a && (not s && (r || nat_lt j i)))) ≡ false
before-way a b i j r s is = grind (arith, nat_tests)

before-chain : (a b c i j k : ℕ) (r s t : Bool) → (nat_lt a b || (a == b && (not r && (s || nat_lt i j)))) ≡ false → (nat_lt b c || (b == c && (not s && (t || nat_lt j k)))) ≡ false → (nat_lt a c || (a == c && (not r && (t || nat_lt i k)))) ≡ false
before-chain a b c i j k r s t one other = grind (arith, nat_tests)

pub moved-order : IsStrictWeakOrder is_before_moved
moved-order = record {
  one_way = λ x y is. before-way x.moved.day y.moved.day (place x) (place y) (is_last x) (is_last y) is;
  chain = λ x y z one other. before-chain x.moved.day y.moved.day z.moved.day (place x) (place y) (place z) (is_last x) (is_last y) (is_last z) one other;
}

-- The balances after each movement.

-- what a movement adds to the balance after another, which it does not stand behind
abbrev upto : EntryMoved → EntryMoved → ℤ
upto w x = cond (is_before_moved w x) (pos 0) x.moved.amount

abbrev upto_in : EntryMoved → List EntryMoved → ℤ
upto_in w vs = sum_of (upto w) vs

-- what ties with what goes out goes out too
tie-least : (a b n l : ℕ) (p q : Bool) (y z : ℤ) → is_below_zero y ≡ true → (nat_lt b a || (b == a && (not (not q && is_below_zero z) && ((not p && is_below_zero y) || nat_lt (cond q (2 * l + cond (is_below_zero z) 1 2) 0) (cond p (2 * n + cond (is_below_zero y) 1 2) 0))))) ≡ false → cond (nat_lt a b || (a == b && (not (not p && is_below_zero y) && ((not q && is_below_zero z) || nat_lt (cond p (2 * n + cond (is_below_zero y) 1 2) 0) (cond q (2 * l + cond (is_below_zero z) 1 2) 0))))) (pos 0) z ≤ℤ pos 0
tie-least a b n l true true y z out is = grind (arith, ints, nat_tests)
tie-least a b n l true false y z out is = grind (arith, ints, nat_tests)
tie-least a b n l false true y z out is = grind (arith, ints, nat_tests)
tie-least a b n l false false y z out is = grind (arith, ints, nat_tests)

out-least : (v : EntryMoved) (vs : List EntryMoved) → is_below_zero v.moved.amount ≡ true → AllByRecursion (λ y. is_before_moved y v ≡ false) vs → upto_in v vs ≤ℤ pos 0
out-least v [] out all = omega (arith, ints)
out-least v (y ∷ vs) out all = omega (arith, ints, tie-least v.moved.day y.moved.day v.number y.number (is_passing v.entry) (is_passing y.entry) v.moved.amount y.moved.amount out all.0, out-least v vs out all.1)

least : (z : ℤ) → is_below_zero z ≡ false → pos 0 ≤ℤ z
least z is = grind (arith, ints)

itself : (b : Bool) → (b ≡ true → b ≡ false) → b ≡ false
itself true is = is refl
itself false is = refl

abbrev HasLeast : ℤ → List EntryMoved → EntryMoved → Type 0
HasLeast z vs w = is_below_zero w.moved.amount ≡ true → pos 0 ≤ℤ (z +ℤ upto_in w vs)

one-more : (z y r : ℤ) (b : Bool) → b ≡ false → pos 0 ≤ℤ (z +ℤ (cond b (pos 0) y +ℤ r)) → pos 0 ≤ℤ ((z +ℤ y) +ℤ r)
one-more z y r true is some = absurd (cc)
one-more z y r false is some = omega (arith, ints, some)

more-least : (z : ℤ) (v : EntryMoved) (all vs : List EntryMoved) → AllByRecursion (λ y. is_before_moved y v ≡ false) vs → AllByRecursion (HasLeast z (v ∷ all)) vs → AllByRecursion (HasLeast (z +ℤ v.moved.amount) all) vs
more-least z v all [] up each = tt
more-least z v all (w ∷ vs) up each = (λ out. one-more z v.moved.amount (upto_in w all) (is_before_moved w v) up.0 (each.0 out), more-least z v all vs up.1 each.1)

-- where the balance is at least zero after what went out and all that it does not stand before, each balance is
covered-from : (z : ℤ) (vs : List EntryMoved) → Up is_before_moved moved-order vs → pos 0 ≤ℤ z → AllByRecursion (HasLeast z vs) vs → AllByRecursion (λ l. pos 0 ≤ℤ l.ledger) (account_from z vs)
covered-from z [] up some each = tt
covered-from z (v ∷ vs) up some each = (here, covered-from (z +ℤ v.moved.amount) vs up.1 here (more-least z v vs vs up.0 each.1))
  where
    cases : (b : Bool) → is_below_zero v.moved.amount ≡ b → pos 0 ≤ℤ (z +ℤ v.moved.amount)
    cases true out =
        let with_it = one-more z v.moved.amount (upto_in v vs) (is_before_moved v v) (itself (is_before_moved v v) (moved-order.one_way v v)) (each.0 out) in
        omega (arith, ints, with_it, out-least v vs out up.0)
    cases false in_ = omega (arith, ints, some, least v.moved.amount in_)

    here : pos 0 ≤ℤ (z +ℤ v.moved.amount)
    here = cases (is_below_zero v.moved.amount) refl

-- The journal up to the first movement of an entry.

entry-matter : (m i : ℕ) (o : Owner) → is_of_entry m i o ≡ true → is_of_matter m o ≡ true
entry-matter m i (owner.Matter k j) is = grind (arith)
entry-matter m i owner.Firm is = is

abbrev among : ℕ → ℕ → List Movement → List Movement
among m i vs = filter (λ v. is_of_entry m i v.owner) vs

record Split (m n : ℕ) (e : Event) (from : ℕ) (vs : List Movement) : Type 0 where
  k : ℕ
  post : List Movement
  low : from ≤ e.day
  whole : (i : ℕ) → events_moved m i (take k vs) ++ events_moved m i post ≡ events_moved m i vs
  mine : events_moved m n (take k vs) ≡ e ∷ []
  early : (i : ℕ) → AllByRecursion (λ (x : Event). x.day ≤ e.day) (events_moved m i (take k vs))
  late : (i : ℕ) → AllByRecursion (λ (x : Event). e.day ≤ x.day) (events_moved m i post)

all-step : (P : Event → Type 0) (d : Bool) (v : Movement) (xs : List Movement) → (d ≡ true → P (event_of v)) → AllByRecursion P (map event_of xs) → AllByRecursion P (map event_of (cond d (v ∷ xs) xs))
all-step P true v xs one all = (one refl, all)
all-step P false v xs one all = all

whole-step : (d : Bool) (v : Movement) (xs zs : List Movement) (ys : List Event) → map event_of xs ++ ys ≡ map event_of zs → map event_of (cond d (v ∷ xs) xs) ++ ys ≡ map event_of (cond d (v ∷ zs) zs)
whole-step true v xs zs ys same = ap (λ l. event_of v ∷ l) same
whole-step false v xs zs ys same = same

late-all : (m i day from : ℕ) (vs : List Movement) → day ≤ from → AreRising from (days_moved m vs) → AllByRecursion (λ (x : Event). day ≤ x.day) (events_moved m i vs)
late-all m i day from [] le up = tt
late-all m i day from (v ∷ vs) le up = cases (is_of_matter m v.owner) refl up (λ later. late-all m i day later vs)
  where
    cases : (b : Bool) → is_of_matter m v.owner ≡ b → AreRising from (map (λ v. v.day) (cond b (v ∷ filter (λ v. is_of_matter m v.owner) vs) (filter (λ v. is_of_matter m v.owner) vs))) → ((later : ℕ) → day ≤ later → AreRising later (days_moved m vs) → AllByRecursion (λ (x : Event). day ≤ x.day) (events_moved m i vs)) → AllByRecursion (λ (x : Event). day ≤ x.day) (events_moved m i (v ∷ vs))
    cases true is up more =
        let here = up.0 in
        let after : day ≤ v.day = omega (arith, le, here) in
        all-step (λ (x : Event). day ≤ x.day) (is_of_entry m i v.owner) v (among m i vs) (λ own. after) (more v.day after up.1)
    cases false is up more =
        all-step (λ (x : Event). day ≤ x.day) (is_of_entry m i v.owner) v (among m i vs) (λ own. absurd (let h = entry-matter m i v.owner own in cc)) (more from le up)

module _ (m n : ℕ) (e : Event) (es : List Event) where
  split-here : (from : ℕ) (v : Movement) (vs : List Movement) → is_of_entry m n v.owner ≡ true → event_of v ≡ e → from ≤ v.day → AreRising v.day (days_moved m vs) → Split m n e from (v ∷ vs)
  split-here from v vs own is low up = subst (λ x. Split m n x from (v ∷ vs)) is (record {
    k = 1;
    post = vs;
    low = low;
    whole = λ i. whole-step (is_of_entry m i v.owner) v [] (among m i vs) (events_moved m i vs) refl;
    mine = ap (λ b. map event_of (cond b (v ∷ []) [])) own;
    early = λ i. all-step (λ (x : Event). x.day ≤ v.day) (is_of_entry m i v.owner) v [] (λ mine. omega arith) tt;
    late = λ i. late-all m i v.day v.day vs (omega arith) up;
  })

  split-later : (from day : ℕ) (v : Movement) (vs : List Movement) → is_of_entry m n v.owner ≡ false → (is_of_matter m v.owner ≡ true → v.day ≤ day) → from ≤ day → Split m n e day vs → Split m n e from (v ∷ vs)
  split-later from day v vs own before low s = record {
    k = suc s.k;
    post = s.post;
    low = omega (arith, low, s.low);
    whole = λ i. whole-step (is_of_entry m i v.owner) v (among m i (take s.k vs)) (among m i vs) (events_moved m i s.post) (s.whole i);
    mine = ap (λ b. map event_of (cond b (v ∷ among m n (take s.k vs)) (among m n (take s.k vs)))) own ∙ s.mine;
    early = λ i. all-step (λ (x : Event). x.day ≤ e.day) (is_of_entry m i v.owner) v (among m i (take s.k vs)) (λ mine. let b = before (entry-matter m i v.owner mine) in omega (arith, b, s.low)) (s.early i);
    late = s.late;
  }

  split : (from : ℕ) (vs : List Movement) → AreRising from (days_moved m vs) → events_moved m n vs ≡ e ∷ es → Split m n e from vs
  split from [] up is = absurd (cc)
  split from (v ∷ vs) up is = cases (is_of_matter m v.owner) refl (is_of_entry m n v.owner) refl up is (λ later. split later vs)
    where
      cases : (b : Bool) → is_of_matter m v.owner ≡ b → (c : Bool) → is_of_entry m n v.owner ≡ c → AreRising from (map (λ v. v.day) (cond b (v ∷ filter (λ v. is_of_matter m v.owner) vs) (filter (λ v. is_of_matter m v.owner) vs))) → map event_of (cond c (v ∷ among m n vs) (among m n vs)) ≡ e ∷ es → ((later : ℕ) → AreRising later (days_moved m vs) → events_moved m n vs ≡ e ∷ es → Split m n e later vs) → Split m n e from (v ∷ vs)
      cases true own true mine up is more = split-here from v vs mine (let same : event_of v ≡ e = cc in same) up.0 up.1
      cases true own false mine up is more = split-later from v.day v vs mine (λ h. omega arith) up.0 (more v.day up.1 is)
      cases false own true mine up is more = absurd (let h = entry-matter m n v.owner mine in cc)
      cases false own false mine up is more = split-later from from v vs mine (λ h. absurd cc) (omega arith) (more from up is)

-- What a matter has moved is what its entries have.

entry_at-zero : (es : List Entry) → entry_at es 0 ≡ None
entry_at-zero [] = refl
entry_at-zero (e ∷ es) = entry_at-zero es

entry_at-more : (e : Entry) (es : List Entry) (j : ℕ) → entry_at (e ∷ es) (suc (suc j)) ≡ entry_at es (suc j)
entry_at-more e es j =
    let other : (suc (suc j) == 1) ≡ false = grind (arith, nat_tests) in
    let less : suc (suc j) - 1 ≡ suc j = omega arith in
    rw (other, less) refl

numbers : ℕ → List Entry → List ℕ
numbers k [] = []
numbers k (e ∷ es) = k ∷ numbers (k + 1) es

numbers-at : (c : ℤ) (n k : ℕ) (es : List Entry) → sum_of (λ i. cond (i == n) c (pos 0)) (numbers (k + 1) es) ≡ cond (is_some (entry_at es (n - k))) c (pos 0)
unfolding numbers
numbers-at c n k [] = refl
numbers-at c n k (e ∷ es) = grind (arith, ints, nat_tests, numbers, entry_at-zero, (numbers-at c n (k + 1) es))

module _ (m : ℕ) (vs : List Movement) where
  abbrev moved_by : ℕ → ℤ
  moved_by i = sum_of (λ (e : Event). e.amount) (events_moved m i vs)

  entry_of : Owner → ℕ
  entry_of (owner.Matter m n) = n
  entry_of owner.Firm = 0

  entry-at : (n : ℕ) (ws : List Movement) → sum_of (at (λ v. entry_of v.owner) (amount_for m) n) ws ≡ sum_of (λ (e : Event). e.amount) (events_moved m n ws)
  unfolding entry_of
  entry-at n [] = refl
  entry-at n (v ∷ ws) = one v.owner refl (entry-at n ws)
    where
      both : (b c : Bool) → sum_of (at (λ v. entry_of v.owner) (amount_for m) n) ws ≡ sum_of (λ (e : Event). e.amount) (events_moved m n ws) → cond c (cond b v.amount (pos 0)) (pos 0) +ℤ sum_of (at (λ v. entry_of v.owner) (amount_for m) n) ws ≡ sum_of (λ (e : Event). e.amount) (map event_of (cond (b && c) (v ∷ among m n ws) (among m n ws)))
      both b c more = grind (arith, ints)

      one : (o : Owner) → v.owner ≡ o → sum_of (at (λ v. entry_of v.owner) (amount_for m) n) ws ≡ sum_of (λ (e : Event). e.amount) (events_moved m n ws) → cond (entry_of o == n) (cond (is_of_matter m o) v.amount (pos 0)) (pos 0) +ℤ sum_of (at (λ v. entry_of v.owner) (amount_for m) n) ws ≡ sum_of (λ (e : Event). e.amount) (map event_of (cond (is_of_entry m n o) (v ∷ among m n ws) (among m n ws)))
      one (owner.Matter k j) is more = both (k == m) (j == n) more
      one owner.Firm is more = both false (0 == n) more

  same-at : (n i : ℕ) → cond (i == n) (moved_by i) (pos 0) ≡ cond (i == n) (moved_by n) (pos 0)
  same-at n i = grind (arith, nat_tests)

  entries-moved : (es : List Entry) → ((n : ℕ) → is_some (entry_at es n) ≡ false → moved_by n ≡ pos 0) → moved_for m vs ≡ sum_of moved_by (numbers 1 es)
  entries-moved es none = sum-agree (λ v. entry_of v.owner) (amount_for m) vs (λ i. i) moved_by (numbers 1 es) at-each
    where
      some : (n : ℕ) (b : Bool) → is_some (entry_at es n) ≡ b → moved_by n ≡ cond b (moved_by n) (pos 0)
      some n true is = refl
      some n false is = none n is

      less-none : (n : ℕ) → n - 0 ≡ n
      less-none n = omega arith

      at-each : (n : ℕ) → sum_of (at (λ v. entry_of v.owner) (amount_for m) n) vs ≡ sum_of (at (λ i. i) moved_by n) (numbers 1 es)
      at-each n =
          entry-at n vs
          ∙ (some n (is_some (entry_at es n)) refl
          ∙ sym (sum-same (λ i. cond (i == n) (moved_by i) (pos 0)) (λ i. cond (i == n) (moved_by n) (pos 0)) (numbers 1 es) (same-at n)
          ∙ (numbers-at (moved_by n) n 0 es ∙ ap (λ j. cond (is_some (entry_at es j)) (moved_by n) (pos 0)) (less-none n))))

  -- what is at most so at each entry
  entries-least : (g : EntryMoved → ℤ) (k : ℕ) (es : List Entry) → ((j : ℕ) (e : Entry) → entry_at es j ≡ Some e → moved_by (k + j) ≤ℤ sum_of g (moves_at (k + j) e)) → sum_of moved_by (numbers (k + 1) es) ≤ℤ sum_of g (numbered_moves (k + 1) es)
  unfolding numbers
  entries-least g k [] each = omega (arith, ints)
  entries-least g k (e ∷ es) each =
      omega (arith, ints, each 1 e refl, entries-least g (k + 1) es next, sum-append g (moves_at (k + 1) e) (numbered_moves (k + 1 + 1) es))
    where
      shifted : (j : ℕ) → k + suc j ≡ k + 1 + j
      shifted j = omega arith

      next : (j : ℕ) (f : Entry) → entry_at es j ≡ Some f → moved_by (k + 1 + j) ≤ℤ sum_of g (moves_at (k + 1 + j) f)
      next zero f found = absurd (let h = entry_at-zero es in cc)
      next (suc j) f found = subst (λ i. moved_by i ≤ℤ sum_of g (moves_at i f)) (shifted (suc j)) (each (suc (suc j)) f (entry_at-more e es j ∙ found))

-- What an entry has moved at some place of the journal is at most what it adds by a passing payment of that day.

abbrev day_adds : ℕ → Event → ℤ
day_adds d x = cond (nat_lt d x.day || (d == x.day && is_below_zero x.amount)) (pos 0) x.amount

early-one : (d b : ℕ) (z : ℤ) → b ≤ d → z ≤ℤ cond (nat_lt d b || (d == b && is_below_zero z)) (pos 0) z
early-one d b z le = grind (arith, ints, nat_tests)

late-one : (d b : ℕ) (z : ℤ) → d ≤ b → pos 0 ≤ℤ cond (nat_lt d b || (d == b && is_below_zero z)) (pos 0) z
late-one d b z le = grind (arith, ints, nat_tests)

early-least : (d : ℕ) (xs : List Event) → AllByRecursion (λ (x : Event). x.day ≤ d) xs → sum_of (λ (x : Event). x.amount) xs ≤ℤ sum_of (day_adds d) xs
early-least d [] all = omega (arith, ints)
early-least d (x ∷ xs) all = omega (arith, ints, early-one d x.day x.amount all.0, early-least d xs all.1)

late-least : (d : ℕ) (xs : List Event) → AllByRecursion (λ (x : Event). d ≤ x.day) xs → pos 0 ≤ℤ sum_of (day_adds d) xs
late-least d [] all = omega (arith, ints)
late-least d (x ∷ xs) all = omega (arith, ints, late-one d x.day x.amount all.0, late-least d xs all.1)

-- what it adds by the payment in place n, by its day d
abbrev adds : ℕ → ℕ → EntryMoved → ℤ
adds d n x = cond (nat_lt d x.moved.day || (d == x.moved.day && (is_last x || nat_lt (2 * n + 1) (place x)))) (pos 0) x.moved.amount

none-before : (n : ℕ) → nat_lt n 0 ≡ false
none-before n = grind (arith, nat_tests)

plain-one : (d n i : ℕ) (e : Entry) (v : Moved) → is_passing e ≡ false → adds d n (entry_moved i e v) ≡ day_adds d (event_in v)
plain-one d n i e v is =
    (λ j. cond (nat_lt d v.day || (d == v.day && ((not (is j) && is_below_zero v.amount) || nat_lt (2 * n + 1) (cond (is j) (2 * i + cond (is_below_zero v.amount) 1 2) 0)))) (pos 0) v.amount)
    ∙ last (is_below_zero v.amount)
  where
    last : (b : Bool) → cond (nat_lt d v.day || (d == v.day && (b || nat_lt (2 * n + 1) 0))) (pos 0) v.amount ≡ cond (nat_lt d v.day || (d == v.day && b)) (pos 0) v.amount
    last true = refl
    last false = ap (λ c. cond (nat_lt d v.day || (d == v.day && c)) (pos 0) v.amount) (none-before (2 * n + 1))

plain-all : (d n i : ℕ) (e : Entry) (vs : List Moved) → is_passing e ≡ false → sum_of (adds d n) (map (entry_moved i e) vs) ≡ sum_of (day_adds d) (map event_in vs)
plain-all d n i e [] is = refl
plain-all d n i e (v ∷ vs) is = omega (arith, ints, plain-one d n i e v is, plain-all d n i e vs is)

-- a front of an entry's movements, none after a day, and the rest, none before it
record IsCut (d n i : ℕ) (e : Entry) (front rest : List Event) : Type 0 where
  whole : front ++ rest ≡ events_of e
  early : AllByRecursion (λ (x : Event). x.day ≤ d) front
  late : AllByRecursion (λ (x : Event). d ≤ x.day) rest
  mine : i ≡ n → length front ≡ 1

abbrev IsWithin : ℕ → ℕ → ℕ → Entry → Type 0
IsWithin d n i e = (front rest : List Event) → IsCut d n i e front rest → sum_of (λ (x : Event). x.amount) front ≤ℤ sum_of (adds d n) (moves_at i e)

plain-within : (d n i : ℕ) (e : Entry) → is_passing e ≡ false → IsWithin d n i e
plain-within d n i e is front rest cut =
    omega (arith, ints, early-least d front cut.early, late-least d rest cut.late, sum-append (day_adds d) front rest, ap (sum_of (day_adds d)) cut.whole, ap (sum_of (day_adds d)) (moves-events e), plain-all d n i e (moves_of e) is)

pass-most : (d n i a b : ℕ) → (pos 0 -ℤ pos a) ≤ℤ (cond (nat_lt d b || (d == b && nat_lt (2 * n + 1) (2 * i + cond (is_below_zero (pos 0 -ℤ pos a)) 1 2))) (pos 0) (pos 0 -ℤ pos a) +ℤ (cond (nat_lt d b || (d == b && nat_lt (2 * n + 1) (2 * i + 2))) (pos 0) (pos a) +ℤ pos 0))
pass-most d n i a b = grind (arith, ints, nat_tests)

pass-none : (d n i a b : ℕ) → (i ≡ n → ⊥) → cond (nat_lt d b || (d == b && nat_lt (2 * n + 1) (2 * i + cond (is_below_zero (pos 0 -ℤ pos a)) 1 2))) (pos 0) (pos 0 -ℤ pos a) +ℤ (cond (nat_lt d b || (d == b && nat_lt (2 * n + 1) (2 * i + 2))) (pos 0) (pos a) +ℤ pos 0) ≡ pos 0
pass-none d n i a b other = grind (arith, ints, nat_tests)

pass-sum : (d n i : ℕ) (e : Entry) (x y : Moved) → is_passing e ≡ true → sum_of (adds d n) (map (entry_moved i e) (x ∷ y ∷ [])) ≡ cond (nat_lt d x.day || (d == x.day && nat_lt (2 * n + 1) (2 * i + cond (is_below_zero x.amount) 1 2))) (pos 0) x.amount +ℤ (cond (nat_lt d y.day || (d == y.day && nat_lt (2 * n + 1) (2 * i + cond (is_below_zero y.amount) 1 2))) (pos 0) y.amount +ℤ pos 0)
pass-sum d n i e x y is = λ j.
    cond (nat_lt d x.day || (d == x.day && ((not (is j) && is_below_zero x.amount) || nat_lt (2 * n + 1) (cond (is j) (2 * i + cond (is_below_zero x.amount) 1 2) 0)))) (pos 0) x.amount
    +ℤ (cond (nat_lt d y.day || (d == y.day && ((not (is j) && is_below_zero y.amount) || nat_lt (2 * n + 1) (cond (is j) (2 * i + cond (is_below_zero y.amount) 1 2) 0)))) (pos 0) y.amount +ℤ pos 0)

same-days : (a b : ℕ) → (a == b) ≡ true → b ≡ a
same-days a b is = grind (arith, nat_tests)

module _ (d n i : ℕ) (p : Payment) where
  void-events : (v : VoidedPayment) → p.state ≡ payment.Voided v → events_of (entry.Payment p) ≡ paid_out v.issued p.amount ∷ received v.undone p.amount ∷ []
  unfolding events_of
  void-events v same = ap (λ s. payments s p.amount) same

  void-sum : (v : VoidedPayment) → p.state ≡ payment.Voided v → (v.issued == v.undone) ≡ true → sum_of (adds d n) (moves_at i (entry.Payment p)) ≡ cond (nat_lt d v.issued || (d == v.issued && nat_lt (2 * n + 1) (2 * i + cond (is_below_zero (pos 0 -ℤ pos p.amount)) 1 2))) (pos 0) (pos 0 -ℤ pos p.amount) +ℤ (cond (nat_lt d v.issued || (d == v.issued && nat_lt (2 * n + 1) (2 * i + 2))) (pos 0) (pos p.amount) +ℤ pos 0)
  void-sum v same is =
      ap (λ s. sum_of (adds d n) (map (entry_moved i (entry.Payment p)) (paying s p.amount))) same
      ∙ (pass-sum d n i (entry.Payment p) (out_by cause.Payment v.issued p.amount) (in_by cause.Voided v.undone p.amount) (ap is_passing_state same ∙ is)
      ∙ ap (λ b. cond (nat_lt d v.issued || (d == v.issued && nat_lt (2 * n + 1) (2 * i + cond (is_below_zero (pos 0 -ℤ pos p.amount)) 1 2))) (pos 0) (pos 0 -ℤ pos p.amount) +ℤ (cond (nat_lt d b || (d == b && nat_lt (2 * n + 1) (2 * i + 2))) (pos 0) (pos p.amount) +ℤ pos 0)) (same-days v.issued v.undone is))

  void-front : (v : VoidedPayment) → p.state ≡ payment.Voided v → (v.issued == v.undone) ≡ true → (front rest : List Event) → front ++ rest ≡ paid_out v.issued p.amount ∷ received v.undone p.amount ∷ [] → (i ≡ n → length front ≡ 1) → sum_of (λ (x : Event). x.amount) front ≤ℤ sum_of (adds d n) (moves_at i (entry.Payment p))
  void-front v same is [] rest whole mine =
      omega (arith, ints, void-sum v same is, pass-none d n i p.amount v.issued (λ h. let k = mine h in omega (arith, k)))
  void-front v same is (x ∷ []) rest whole mine =
      let first : x ≡ paid_out v.issued p.amount = cc in
      omega (arith, ints, ap (λ (y : Event). y.amount) first, void-sum v same is, pass-most d n i p.amount v.issued)
  void-front v same is (x ∷ y ∷ []) rest whole mine =
      let first : x ≡ paid_out v.issued p.amount = cc in
      let second : y ≡ received v.undone p.amount = cc in
      omega (arith, ints, ap (λ (y : Event). y.amount) first, ap (λ (y : Event). y.amount) second, void-sum v same is, pass-none d n i p.amount v.issued (λ h. let k = mine h in omega (arith, k)))
  void-front v same is (x ∷ y ∷ z ∷ front) rest whole mine = absurd (cc)

  pass-within : (s : PaymentState) → p.state ≡ s → is_passing_state s ≡ true → IsWithin d n i (entry.Payment p)
  pass-within payment.Proposed same is front rest cut = absurd (cc)
  pass-within payment.Declined same is front rest cut = absurd (cc)
  pass-within (payment.Issued day) same is front rest cut = absurd (cc)
  pass-within (payment.Cleared c) same is front rest cut = absurd (cc)
  pass-within (payment.Voided v) same is front rest cut = void-front v same is front rest (cut.whole ∙ void-events v same) cut.mine

  payment-within : (b : Bool) → is_passing_state p.state ≡ b → IsWithin d n i (entry.Payment p)
  payment-within true is = pass-within p.state refl is
  payment-within false is = plain-within d n i (entry.Payment p) is

within : (d n i : ℕ) (e : Entry) → IsWithin d n i e
within d n i (entry.Deposit x) = plain-within d n i (entry.Deposit x) refl
within d n i (entry.Payment p) = payment-within d n i p (is_passing_state p.state) refl
within d n i (entry.Fee f) = plain-within d n i (entry.Fee f) refl
within d n i (entry.Claim c) = plain-within d n i (entry.Claim c) refl

-- All movements of a matter.

all-append : {X : Type 0} (P : X → Type 0) (xs ys : List X) → AllByRecursion P xs → AllByRecursion P ys → AllByRecursion P (xs ++ ys)
all-append P [] ys one other = other
all-append P (x ∷ xs) ys one other = (one.0, all-append P xs ys one.1 other)

all-filter : {X : Type 0} (test : X → Bool) (P Q : X → Type 0) (xs : List X) → ((x : X) → test x ≡ true → P x → Q x) → AllByRecursion P xs → AllByRecursion Q (filter test xs)
all-filter test P Q [] each all = tt
all-filter test P Q (x ∷ xs) each all = cases (test x) refl (all-filter test P Q xs each all.1)
  where
    cases : (b : Bool) → test x ≡ b → AllByRecursion Q (filter test xs) → AllByRecursion Q (cond b (x ∷ filter test xs) (filter test xs))
    cases true is more = (each x is all.0, more)
    cases false is more = more

all-put : {X : Type 0} (lt : X → X → Bool) (P : X → Type 0) (x : X) (ys : List X) → P x → AllByRecursion P ys → AllByRecursion P (put_in_order lt x ys)
all-put lt P x [] one all = (one, tt)
all-put lt P x (y ∷ ys) one all = cases (lt y x) (all-put lt P x ys one all.1)
  where
    cases : (b : Bool) → AllByRecursion P (put_in_order lt x ys) → AllByRecursion P (cond b (y ∷ put_in_order lt x ys) (x ∷ y ∷ ys))
    cases true more = (all.0, more)
    cases false more = (one, all)

all-ordered : {X : Type 0} (lt : X → X → Bool) (P : X → Type 0) (xs : List X) → AllByRecursion P xs → AllByRecursion P (in_order lt xs)
all-ordered lt P [] all = tt
all-ordered lt P (x ∷ xs) all = all-put lt P x (in_order lt xs) all.0 (all-ordered lt P xs all.1)

module _ (P : EntryMoved → Type 0) where
  all-moves : (n : ℕ) (e : Entry) (vs : List Moved) → ((v : Moved) → P (entry_moved n e v)) → AllByRecursion P (map (entry_moved n e) vs)
  all-moves n e [] each = tt
  all-moves n e (v ∷ vs) each = (each v, all-moves n e vs each)

  all-numbered : (k : ℕ) (es : List Entry) → ((j : ℕ) (e : Entry) → entry_at es j ≡ Some e → AllByRecursion P (moves_at (k + j) e)) → AllByRecursion P (numbered_moves (k + 1) es)
  all-numbered k [] each = tt
  all-numbered k (e ∷ es) each =
      all-append P (moves_at (k + 1) e) (numbered_moves (k + 1 + 1) es) (each 1 e refl) (all-numbered (k + 1) es next)
    where
      shifted : (j : ℕ) → k + suc j ≡ k + 1 + j
      shifted j = omega arith

      next : (j : ℕ) (f : Entry) → entry_at es j ≡ Some f → AllByRecursion P (moves_at (k + 1 + j) f)
      next zero f found = absurd (let h = entry_at-zero es in cc)
      next (suc j) f found = subst (λ i. AllByRecursion P (moves_at i f)) (shifted (suc j)) (each (suc (suc j)) f (entry_at-more e es j ∙ found))

front-none : {X : Type 0} (xs ys : List X) → xs ++ ys ≡ [] → xs ≡ []
front-none [] ys is = refl
front-none (x ∷ xs) ys is = absurd (cc)

no-events : (o : Option Entry) → is_some o ≡ false → events_in o ≡ []
no-events None is = refl
no-events (Some e) is = absurd (cc)

last-one : (d b : ℕ) (z : ℤ) → cond (nat_lt d b || (d == b && false)) (pos 0) z ≡ cond (nat_le b d) z (pos 0)
last-one d b z = grind (arith, nat_tests)

from-zero : (j : ℕ) → j ≡ 0 + j
from-zero j = omega arith

module _ (m : ℕ) (firm : Firm) (sound : FirmSound firm) where
  abbrev entries : List Entry
  entries = (of m firm).entries

  abbrev moves : List EntryMoved
  moves = numbered_moves 1 entries

  abbrev IsLeast : EntryMoved → Type 0
  IsLeast w = is_below_zero w.moved.amount ≡ true → pos 0 ≤ℤ upto_in w moves

  plain-upto : (w x : EntryMoved) → is_passing w.entry ≡ false → is_below_zero w.moved.amount ≡ true → upto w x ≡ cond (nat_le x.moved.day w.moved.day) x.moved.amount (pos 0)
  plain-upto w x is out =
      (λ j. cond (nat_lt w.moved.day x.moved.day || (w.moved.day == x.moved.day && (not (not (is j) && out j) && (is_last x || nat_lt (place w) (place x))))) (pos 0) x.moved.amount)
      ∙ last-one w.moved.day x.moved.day x.moved.amount

  plain-least : (w : EntryMoved) → is_passing w.entry ≡ false → IsLeast w
  plain-least w is out =
      let d = w.moved.day in
      omega (arith, ints, sum-same (upto w) (λ (x : EntryMoved). cond (nat_le x.moved.day d) x.moved.amount (pos 0)) moves (λ x. plain-upto w x is out), numbered-sum (λ (e : Event). cond (nat_le e.day d) e.amount (pos 0)) 1 entries, sum-filter (is_event_by d) (λ (e : Event). e.amount) (flat_map events_of entries), as_of-least d m firm sound)

  pass-upto : (w x : EntryMoved) → is_passing w.entry ≡ true → is_below_zero w.moved.amount ≡ true → upto w x ≡ adds w.moved.day w.number x
  pass-upto w x is out = λ j. cond (nat_lt w.moved.day x.moved.day || (w.moved.day == x.moved.day && (not (not (is j) && is_below_zero w.moved.amount) && (is_last x || nat_lt (cond (is j) (2 * w.number + cond (out j) 1 2) 0) (place x))))) (pos 0) x.moved.amount

  -- at the place of its issue the matter had as much, and all that it had stands above it
  void-least : (n : ℕ) (p : Payment) (v : VoidedPayment) → p.state ≡ payment.Voided v → entry_at entries n ≡ Some (entry.Payment p) → pos 0 ≤ℤ sum_of (adds v.issued n) moves
  void-least n p v same found =
      omega (arith, ints, sound.covered m s.k, entries-moved m (take s.k firm.movements) entries none, entries-least m (take s.k firm.movements) (adds v.issued n) 0 entries each)
    where
      s : Split m n (paid_out v.issued p.amount) 0 firm.movements
      s = split m n (paid_out v.issued p.amount) (received v.undone p.amount ∷ []) 0 firm.movements (sound.in_time m).rising (sound.events m n ∙ (ap events_in found ∙ void-events 0 0 0 p v same))

      none : (j : ℕ) → is_some (entry_at entries j) ≡ false → sum_of (λ (e : Event). e.amount) (events_moved m j (take s.k firm.movements)) ≡ pos 0
      none j is = ap (sum_of (λ (e : Event). e.amount)) (front-none (events_moved m j (take s.k firm.movements)) (events_moved m j s.post) (s.whole j ∙ (sound.events m j ∙ no-events (entry_at entries j) is)))

      at-most : (j : ℕ) (e : Entry) → entry_at entries j ≡ Some e → sum_of (λ (x : Event). x.amount) (events_moved m j (take s.k firm.movements)) ≤ℤ sum_of (adds v.issued n) (moves_at j e)
      at-most j e there = within v.issued n j e (events_moved m j (take s.k firm.movements)) (events_moved m j s.post) (record {
        whole = s.whole j ∙ (sound.events m j ∙ ap events_in there);
        early = s.early j;
        late = s.late j;
        mine = λ own. ap (λ i. length (events_moved m i (take s.k firm.movements))) own ∙ ap length s.mine;
      })

      each : (j : ℕ) (e : Entry) → entry_at entries j ≡ Some e → sum_of (λ (x : Event). x.amount) (events_moved m (0 + j) (take s.k firm.movements)) ≤ℤ sum_of (adds v.issued n) (moves_at (0 + j) e)
      each j e there = subst (λ i. sum_of (λ (x : Event). x.amount) (events_moved m i (take s.k firm.movements)) ≤ℤ sum_of (adds v.issued n) (moves_at i e)) (from-zero j) (at-most j e there)

  pass-least : (n : ℕ) (p : Payment) → entry_at entries n ≡ Some (entry.Payment p) → (s : PaymentState) → p.state ≡ s → is_passing_state s ≡ true → AllByRecursion IsLeast (moves_at n (entry.Payment p))
  pass-least n p found payment.Proposed same is = absurd (cc)
  pass-least n p found payment.Declined same is = absurd (cc)
  pass-least n p found (payment.Issued day) same is = absurd (cc)
  pass-least n p found (payment.Cleared c) same is = absurd (cc)
  pass-least n p found (payment.Voided v) same is =
      let w = entry_moved n (entry.Payment p) (out_by cause.Payment v.issued p.amount) in
      let first : IsLeast w = λ out.
      omega (arith, ints, void-least n p v same found, sum-same (upto w) (adds v.issued n) moves (λ x. pass-upto w x (ap is_passing_state same ∙ is) out)) in
      subst (λ s. AllByRecursion IsLeast (map (entry_moved n (entry.Payment p)) (paying s p.amount))) (sym same) (first, ((λ out. absurd (cc)), tt))

  payment-least : (n : ℕ) (p : Payment) → entry_at entries n ≡ Some (entry.Payment p) → (b : Bool) → is_passing_state p.state ≡ b → AllByRecursion IsLeast (moves_at n (entry.Payment p))
  payment-least n p found true is = pass-least n p found p.state refl is
  payment-least n p found false is = all-moves IsLeast n (entry.Payment p) (moves_of (entry.Payment p)) (λ v. plain-least (entry_moved n (entry.Payment p) v) is)

  entry-least : (n : ℕ) (e : Entry) → entry_at entries n ≡ Some e → AllByRecursion IsLeast (moves_at n e)
  entry-least n (entry.Deposit d) found = all-moves IsLeast n (entry.Deposit d) (moves_of (entry.Deposit d)) (λ v. plain-least (entry_moved n (entry.Deposit d) v) refl)
  entry-least n (entry.Payment p) found = payment-least n p found (is_passing_state p.state) refl
  entry-least n (entry.Fee f) found = tt
  entry-least n (entry.Claim c) found = tt

  moves-least : AllByRecursion IsLeast moves
  moves-least = all-numbered IsLeast 0 entries (λ j e found. subst (λ i. AllByRecursion IsLeast (moves_at i e)) (from-zero j) (entry-least j e found))

  -- The opening.

  before-none : (vs : List Event) → sum_of (λ (e : Event). cond (nat_lt e.day 0) e.amount (pos 0)) vs ≡ pos 0
  before-none [] = refl
  before-none (e ∷ vs) =
      let no : nat_lt e.day 0 ≡ false = grind (arith, nat_tests) in
      rw no (omega (arith, ints, before-none vs))

  day-before : (d n : ℕ) → nat_lt d (suc n) ≡ nat_le d n
  day-before d n = grind (arith, nat_tests)

  before-least : (from : ℕ) → pos 0 ≤ℤ ledger_before from entries
  before-least zero = omega (arith, ints, sum-filter (λ (e : Event). nat_lt e.day 0) (λ (e : Event). e.amount) (flat_map events_of entries), before-none (flat_map events_of entries))
  before-least (suc n) =
      let evs = flat_map events_of entries in
      let a = sum-filter (λ (e : Event). nat_lt e.day (suc n)) (λ (e : Event). e.amount) evs in
      let b = sum-filter (is_event_by n) (λ (e : Event). e.amount) evs in
      let same = sum-same (λ (e : Event). cond (nat_lt e.day (suc n)) e.amount (pos 0)) (λ (e : Event). cond (is_event_by n e) e.amount (pos 0)) evs (λ e. ap (λ t. cond t e.amount (pos 0)) (day-before e.day n)) in
      omega (arith, ints, a, b, same, as_of-least n m firm sound)

-- The period.

-- what was before it and what in it stands above a movement in it is all that stands above it
in-part : (from to d b : ℕ) (c : Bool) (z : ℤ) → (nat_le from d && nat_le d to) ≡ true → cond (nat_le from b && nat_le b to) (cond (nat_lt d b || (d == b && c)) (pos 0) z) (pos 0) +ℤ cond (nat_lt b from) z (pos 0) ≡ cond (nat_lt d b || (d == b && c)) (pos 0) z
in-part from to d b c z is = grind (arith, ints, nat_tests)

module _ (s : Span) (m : ℕ) (firm : Firm) (sound : FirmSound firm) (le : s.from ≤ s.to) where
  abbrev all : List EntryMoved
  all = numbered_moves 1 (of m firm).entries

  abbrev within_it : List EntryMoved
  within_it = filter (λ (v : EntryMoved). is_within s.from s.to v.moved) all

  opening-least : pos 0 ≤ℤ moved_before s.from all
  opening-least = subst (λ z. pos 0 ≤ℤ z) (sym (opening-before s (of m firm).entries)) (before-least m firm sound s.from)

  one-least : (w : EntryMoved) → is_within s.from s.to w.moved ≡ true → IsLeast m firm sound w → HasLeast (moved_before s.from all) (account_moves s all) w
  one-least w is some out =
      omega (arith, ints, some out, order-sum is_before_moved (upto w) within_it, sum-filter (λ (v : EntryMoved). is_within s.from s.to v.moved) (upto w) all, sum-filter (λ (v : EntryMoved). nat_lt v.moved.day s.from) (λ (v : EntryMoved). v.moved.amount) all, sum-both (λ (v : EntryMoved). cond (is_within s.from s.to v.moved) (upto w v) (pos 0)) (λ (v : EntryMoved). cond (nat_lt v.moved.day s.from) v.moved.amount (pos 0)) (upto w) all (λ v. in-part s.from s.to w.moved.day v.moved.day (not (is_last w) && (is_last v || nat_lt (place w) (place v))) v.moved.amount is))

  each : AllByRecursion (HasLeast (moved_before s.from all) (account_moves s all)) (account_moves s all)
  each = all-ordered is_before_moved (HasLeast (moved_before s.from all) (account_moves s all)) within_it
      (all-filter (λ (v : EntryMoved). is_within s.from s.to v.moved) (IsLeast m firm sound) (HasLeast (moved_before s.from all) (account_moves s all)) all one-least (moves-least m firm sound))

  closing-least : pos 0 ≤ℤ (account_of s (of m firm).entries).closing
  closing-least = subst (λ z. pos 0 ≤ℤ z) (sym (closing-ledger s (of m firm).entries le)) (as_of-least s.to m firm sound)

pub accounts-covered : AccountsAreCovered
accounts-covered s m firm sound le = record {
  opening = opening-least s m firm sound le;
  lines = covered-from (moved_before s.from (numbered_moves 1 (of m firm).entries)) (account_moves s (numbered_moves 1 (of m firm).entries))
      (in_order-up is_before_moved moved-order (filter (λ (v : EntryMoved). is_within s.from s.to v.moved) (numbered_moves 1 (of m firm).entries)))
      (opening-least s m firm sound le)
      (each s m firm sound le);
  closing = closing-least s m firm sound le;
}

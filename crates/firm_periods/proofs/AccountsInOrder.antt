-- On a statement of account the movements of each entry stand in the entry's own order.
use Rattle.firm_periods.proofs.Names.{◌≡◌, ℕ, ◌+◌, ◌*◌, ◌<◌, ◌≤◌, Bool, true, false, not, cond, List, [], ◌∷◌, ◌++◌, map, Option, Some, None, refl, sym, ap, ◌∙◌, subst, arith, ℤ, pos, ◌-ℤ◌, ◌==◌, ◌&&◌, ◌||◌, nat_lt, AllByRecursion, filter, nat_tests, Entry, Head, Seat, in_order, put_in_order}
use Rattle.matter_rows.specs.Sound.{AreRising, IsHeaded, IsRising, deposit_days, payment_days}
use Rattle.matter_rows.specs.declared.deposit.Deposit.{Deposit}
use Rattle.matter_rows.specs.declared.deposit.DepositState.{DepositState}
use Rattle.matter_rows.specs.declared.deposit.DepositState.TheVariants as deposit
use Rattle.matter_rows.specs.declared.payment.Payment.{Payment}
use Rattle.matter_rows.specs.declared.payment.PaymentState.{PaymentState}
use Rattle.matter_rows.specs.declared.payment.VoidedPayment.{VoidedPayment}
use Rattle.matter_rows.specs.declared.payment.PaymentState.TheVariants as payment
use Rattle.matter_rows.specs.declared.entry.Entry.TheVariants as entry
use Rattle.firm_periods.specs.declared.moved.Moved.{Moved}
use Rattle.firm_periods.specs.declared.moved.Cause.TheVariants as cause
use Rattle.firm_periods.specs.Named.{in_by, is_below_zero, is_within, moves_of, out_by, paying, undoing}
use Rattle.firm_periods.specs.Accounts.{EntriesInOrder, EntryMoved, entry_moved, is_before_moved, is_passing_state, moves_at, numbered_moves}

-- What passes a test stands in a list in order as it stood, where none of it is before what stood in front of it.
module _ {X : Type 0} (lt : X → X → Bool) (p : X → Bool) where
  AreUp : List X → Type 0
  AreUp [] = Unit {0}
  AreUp (x ∷ xs) = (p x ≡ true → AllByRecursion (λ y. lt y x ≡ false) (filter p xs)) × AreUp xs

  put-kept : (x : X) (ys : List X) → (p x ≡ true → AllByRecursion (λ y. lt y x ≡ false) (filter p ys)) → filter p (put_in_order lt x ys) ≡ filter p (x ∷ ys)
  put-kept x [] up = refl
  put-kept x (y ∷ ys) up = cases (lt y x) refl (p x) refl (p y) refl up (put-kept x ys)
    where
      cases : (b : Bool) → lt y x ≡ b → (c : Bool) → p x ≡ c → (d : Bool) → p y ≡ d → (c ≡ true → AllByRecursion (λ z. lt z x ≡ false) (cond d (y ∷ filter p ys) (filter p ys))) → ((p x ≡ true → AllByRecursion (λ y. lt y x ≡ false) (filter p ys)) → filter p (put_in_order lt x ys) ≡ filter p (x ∷ ys)) → filter p (cond b (y ∷ put_in_order lt x ys) (x ∷ y ∷ ys)) ≡ filter p (x ∷ y ∷ ys)
      cases false is c px d py up more = refl
      cases true is true px true py up more = absurd (let h = (up refl).0 in cc)
      cases true is true px false py up more =
          let rest : filter p (put_in_order lt x ys) ≡ filter p (x ∷ ys) = more (λ h. up refl) in
          rw py (rest ∙ rw px refl)
      cases true is false px d py up more =
          let rest : filter p (put_in_order lt x ys) ≡ filter p (x ∷ ys) = more (λ h. absurd (cc)) in
          rw px (ap (λ zs. cond (p y) (y ∷ zs) zs) (rest ∙ rw px refl))

  order-kept : (xs : List X) → AreUp xs → filter p (in_order lt xs) ≡ filter p xs
  unfolding AreUp
  order-kept [] up = refl
  order-kept (x ∷ xs) up =
      let rest = order-kept xs up.1 in
      put-kept x (in_order lt xs) (λ h. subst (AllByRecursion (λ y. lt y x ≡ false)) (sym rest) (up.0 h))
      ∙ ap (λ zs. cond (p x) (x ∷ zs) zs) rest

-- Of one entry none stands before what stood in front of it.

abbrev IsBehind : EntryMoved → EntryMoved → Type 0
IsBehind x y = (y.number == x.number) ≡ true → is_before_moved y x ≡ false

Own : List EntryMoved → Type 0
Own [] = Unit {0}
Own (x ∷ xs) = AllByRecursion (IsBehind x) xs × Own xs

same-number : (n a b : ℕ) → (a == n) ≡ true → (b == n) ≡ true → (b == a) ≡ true
same-number n a b one other = grind (arith, nat_tests)

kept-up : (n : ℕ) (x : EntryMoved) (xs : List EntryMoved) → (x.number == n) ≡ true → AllByRecursion (IsBehind x) xs → AllByRecursion (λ y. is_before_moved y x ≡ false) (filter (λ (v : EntryMoved). v.number == n) xs)
kept-up n x [] is all = tt
kept-up n x (y ∷ xs) is all = cases (y.number == n) refl (kept-up n x xs is all.1)
  where
    cases : (b : Bool) → (y.number == n) ≡ b → AllByRecursion (λ y. is_before_moved y x ≡ false) (filter (λ (v : EntryMoved). v.number == n) xs) → AllByRecursion (λ y. is_before_moved y x ≡ false) (cond b (y ∷ filter (λ (v : EntryMoved). v.number == n) xs) (filter (λ (v : EntryMoved). v.number == n) xs))
    cases true mine more = (all.0 (same-number n x.number y.number is mine), more)
    cases false other more = more

own-up : (n : ℕ) (xs : List EntryMoved) → Own xs → AreUp is_before_moved (λ (v : EntryMoved). v.number == n) xs
unfolding Own AreUp
own-up n [] own = tt
own-up n (x ∷ xs) own = ((λ is. kept-up n x xs is own.0), own-up n xs own.1)

all-some : (test : EntryMoved → Bool) (P : EntryMoved → Type 0) (xs : List EntryMoved) → AllByRecursion P xs → AllByRecursion P (filter test xs)
all-some test P [] all = tt
all-some test P (x ∷ xs) all = cases (test x) (all-some test P xs all.1)
  where
    cases : (b : Bool) → AllByRecursion P (filter test xs) → AllByRecursion P (cond b (x ∷ filter test xs) (filter test xs))
    cases true more = (all.0, more)
    cases false more = more

own-some : (test : EntryMoved → Bool) (xs : List EntryMoved) → Own xs → Own (filter test xs)
unfolding Own
own-some test [] own = tt
own-some test (x ∷ xs) own = cases (test x) (own-some test xs own.1)
  where
    cases : (b : Bool) → Own (filter test xs) → Own (cond b (x ∷ filter test xs) (filter test xs))
    cases true more = (all-some test (IsBehind x) xs own.0, more)
    cases false more = more

own-append : (xs ys : List EntryMoved) → AllByRecursion (λ x. AllByRecursion (IsBehind x) ys) xs → Own xs → Own ys → Own (xs ++ ys)
unfolding Own
own-append [] ys apart one other = other
own-append (x ∷ xs) ys apart one other = (both xs one.0, own-append xs ys apart.1 one.1 other)
  where
    both : (zs : List EntryMoved) → AllByRecursion (IsBehind x) zs → AllByRecursion (IsBehind x) (zs ++ ys)
    both [] all = apart.0
    both (z ∷ zs) all = (all.0, both zs all.1)

-- those of later entries have other numbers
later-moves : (x : EntryMoved) (k : ℕ) (e : Entry) (vs : List Moved) (zs : List EntryMoved) → x.number < k → AllByRecursion (IsBehind x) zs → AllByRecursion (IsBehind x) (map (entry_moved k e) vs ++ zs)
later-moves x k e [] zs lt all = all
later-moves x k e (v ∷ vs) zs lt all =
    let other : (k == x.number) ≡ false = grind (arith, nat_tests) in
    ((λ is. absurd (cc)), later-moves x k e vs zs lt all)

later-all : (x : EntryMoved) (k : ℕ) (es : List Entry) → x.number < k → AllByRecursion (IsBehind x) (numbered_moves k es)
later-all x k [] lt = tt
later-all x k (e ∷ es) lt = later-moves x k e (moves_of e) (numbered_moves (k + 1) es) lt (later-all x (k + 1) es (omega (arith, lt)))

each-later : (k : ℕ) (e : Entry) (vs : List Moved) (es : List Entry) → AllByRecursion (λ x. AllByRecursion (IsBehind x) (numbered_moves (k + 1) es)) (map (entry_moved k e) vs)
each-later k e [] es = tt
each-later k e (v ∷ vs) es = (later-all (entry_moved k e v) (k + 1) es (omega arith), each-later k e vs es)

-- The movements of one entry.

back-behind : (a b : ℕ) (y : ℤ) → a ≤ b → (nat_lt b a || (b == a && (not (is_below_zero y) && (false || nat_lt 0 0)))) ≡ false
back-behind a b y le = grind (arith, nat_tests)

void-behind : (k a b : ℕ) (p q : Bool) → a ≤ b → p ≡ (a == b) → (nat_lt b a || (b == a && (not (not p && false) && ((not p && q) || nat_lt (cond p (2 * k + 2) 0) (cond p (2 * k + cond q 1 2) 0))))) ≡ false
void-behind k a b p q le is = grind (arith, nat_tests)

deposit-own : (k : ℕ) (d : Deposit) (s : DepositState) → AreRising d.book (deposit_days s) → Own (map (entry_moved k (entry.Deposit d)) (in_by cause.Deposit d.book d.amount ∷ undoing s d.amount))
unfolding Own
deposit-own k d deposit.Held up = (tt, tt)
deposit-own k d (deposit.Cleared c) up = (tt, tt)
deposit-own k d (deposit.Cancelled day) up = (((λ is. back-behind d.book day (pos 0 -ℤ pos d.amount) up.0), tt), (tt, tt))
deposit-own k d (deposit.Returned r) up = (((λ is. back-behind d.book r.undone (pos 0 -ℤ pos d.amount) up.0), tt), (tt, tt))

void-own : (k : ℕ) (p : Payment) (v : VoidedPayment) → p.state ≡ payment.Voided v → v.issued ≤ v.undone → AllByRecursion (IsBehind (entry_moved k (entry.Payment p) (out_by cause.Payment v.issued p.amount))) (entry_moved k (entry.Payment p) (in_by cause.Voided v.undone p.amount) ∷ [])
void-own k p v same le =
    ((λ is. void-behind k v.issued v.undone (is_passing_state p.state) (is_below_zero (pos 0 -ℤ pos p.amount)) le (ap is_passing_state same)), tt)

payment-own : (k : ℕ) (p : Payment) (s : PaymentState) → p.state ≡ s → AreRising p.book (payment_days s) → Own (map (entry_moved k (entry.Payment p)) (paying s p.amount))
unfolding Own
payment-own k p payment.Proposed same up = tt
payment-own k p payment.Declined same up = tt
payment-own k p (payment.Issued day) same up = (tt, tt)
payment-own k p (payment.Cleared c) same up = (tt, tt)
payment-own k p (payment.Voided v) same up = (void-own k p v same up.1.0, (tt, tt))

entry-own : (k : ℕ) (e : Entry) → IsRising e → Own (moves_at k e)
unfolding Own
entry-own k (entry.Deposit d) up = deposit-own k d d.state up.0
entry-own k (entry.Payment p) up = payment-own k p p.state refl up
entry-own k (entry.Fee f) up = tt
entry-own k (entry.Claim c) up = tt

all-own : (k : ℕ) (es : List Entry) → AllByRecursion IsRising es → Own (numbered_moves k es)
unfolding Own
all-own k [] up = tt
all-own k (e ∷ es) up = own-append (moves_at k e) (numbered_moves (k + 1) es) (each-later k e (moves_of e) es) (entry-own k e up.0) (all-own (k + 1) es up.1)

rising : (h : Option Head) (seats : List Seat) (es : List Entry) → IsHeaded h seats es → AllByRecursion IsRising es
rising None seats es headed = subst (AllByRecursion IsRising) (sym headed.1) tt
rising (Some h) seats es headed = headed.0.changed

pub entries-in-order : EntriesInOrder
entries-in-order s n rows sound =
    let some = filter (λ (v : EntryMoved). is_within s.from s.to v.moved) (numbered_moves 1 rows.entries) in
    order-kept is_before_moved (λ (v : EntryMoved). v.number == n) some
    (own-up n some (own-some (λ (v : EntryMoved). is_within s.from s.to v.moved) (numbered_moves 1 rows.entries) (all-own 1 rows.entries (rising rows.head rows.seats rows.entries sound.headed))))

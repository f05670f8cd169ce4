-- What one matter's movements by a day say, and what its entries say, agree; and they are never below zero.
use Rattle.firm_figures.proofs.Names.{◌≡◌, ℕ, suc, ◌+◌, ◌-◌, ◌<◌, Bool, true, false, cond, List, [], ◌∷◌, map, take, Option, Some, None, refl, sym, ap, ◌∙◌, arith, ℤ, pos, ◌+ℤ◌, ◌==◌, ◌&&◌, nat_le, filter, flat_map, ints, nat_tests, Entry, Event, events_of, Movement, sum_of, of, is_event_by, at, sum-agree, sum-filter, sum-flat}
use Rattle.matter_rows.specs.Rows.{entry_at}
use Rattle.matter_rows.specs.Events.{events_in}
use Rattle.matter_rows.specs.Sound.{AreRising}
use Rattle.firm_rows.specs.declared.movement.Owner.{Owner}
use Rattle.firm_rows.specs.declared.movement.Owner.TheVariants as owner
use Rattle.firm_rows.specs.Firm.{is_of_matter}
use Rattle.firm_rows.specs.Journal.{event_of, is_of_entry, events_moved, days_moved, moved_for}
use Rattle.firm_rows.proofs.Agree.{events_share, of_matter}
use Rattle.firm_figures.specs.Clients.{ledger_as_of, LedgersAsOfCovered}
use Rattle.firm_figures.proofs.Shares.{event_by, ledger_by}

-- The entries by number (as in firm_rows.proofs.Agree, where they are private).

entry_at-zero : (es : List Entry) → entry_at es 0 ≡ None
entry_at-zero [] = refl
entry_at-zero (e ∷ es) = entry_at-zero es

numbered : ℕ → List Entry → List (ℕ × Entry)
numbered k [] = []
numbered k (e ∷ es) = (k, e) ∷ numbered (k + 1) es

numbered-all : (g : Entry → ℤ) (k : ℕ) (es : List Entry) → sum_of (λ p. g p.1) (numbered k es) ≡ sum_of g es
unfolding numbered
numbered-all g k [] = refl
numbered-all g k (e ∷ es) = omega (arith, ints, numbered-all g (k + 1) es)

less-none : (n : ℕ) → n - 0 ≡ n
less-none n = omega arith

abbrev maybe : (Entry → ℤ) → Option Entry → ℤ
maybe g None = pos 0
maybe g (Some e) = g e

numbered-at : (g : Entry → ℤ) (n k : ℕ) (es : List Entry) → sum_of (at (λ p. p.0) (λ p. g p.1) n) (numbered (k + 1) es) ≡ maybe g (entry_at es (n - k))
unfolding numbered
numbered-at g n k [] = refl
numbered-at g n k (e ∷ es) = grind (arith, ints, nat_tests, numbered, entry_at-zero, (numbered-at g n (k + 1) es))

module _ (h : Event → ℤ) where
  abbrev share : Movement → ℤ
  share v = h (event_of v)

  entry_of : Owner → ℕ
  entry_of (owner.Matter m n) = n
  entry_of owner.Firm = 0

  entry-at : (m n : ℕ) (vs : List Movement) → sum_of (at (λ v. entry_of v.owner) (of_matter h m) n) vs ≡ sum_of h (events_moved m n vs)
  unfolding entry_of
  entry-at m n [] = refl
  entry-at m n (v ∷ vs) = one v.owner refl (entry-at m n vs)
    where
      both : (b c : Bool) → sum_of (at (λ v. entry_of v.owner) (of_matter h m) n) vs ≡ sum_of h (events_moved m n vs) → cond c (cond b (share v) (pos 0)) (pos 0) +ℤ sum_of (at (λ v. entry_of v.owner) (of_matter h m) n) vs ≡ sum_of h (map event_of (cond (b && c) (v ∷ filter (λ v. is_of_entry m n v.owner) vs) (filter (λ v. is_of_entry m n v.owner) vs)))
      both b c more = grind (arith, ints)

      one : (o : Owner) → v.owner ≡ o → sum_of (at (λ v. entry_of v.owner) (of_matter h m) n) vs ≡ sum_of h (events_moved m n vs) → cond (entry_of o == n) (cond (is_of_matter m o) (share v) (pos 0)) (pos 0) +ℤ sum_of (at (λ v. entry_of v.owner) (of_matter h m) n) vs ≡ sum_of h (map event_of (cond (is_of_entry m n o) (v ∷ filter (λ v. is_of_entry m n v.owner) vs) (filter (λ v. is_of_entry m n v.owner) vs)))
      one (owner.Matter k j) is more = both (k == m) (j == n) more
      one owner.Firm is more = both false (0 == n) more

  pub matter-agrees : (m : ℕ) (vs : List Movement) (es : List Entry) → ((n : ℕ) → events_moved m n vs ≡ events_in (entry_at es n)) → sum_of (of_matter h m) vs ≡ sum_of (events_share h) es
  matter-agrees m vs es told =
      sum-agree (λ v. entry_of v.owner) (of_matter h m) vs (λ p. p.0) (λ p. events_share h p.1) (numbered 1 es) at-each
      ∙ numbered-all (events_share h) 1 es
    where
      maybe-events : (o : Option Entry) → sum_of h (events_in o) ≡ maybe (events_share h) o
      maybe-events o = grind (arith)

      at-each : (n : ℕ) → sum_of (at (λ v. entry_of v.owner) (of_matter h m) n) vs ≡ sum_of (at (λ p. p.0) (λ p. events_share h p.1) n) (numbered 1 es)
      at-each n = entry-at m n vs ∙ (ap (sum_of h) (told n) ∙ (maybe-events (entry_at es n) ∙ sym (numbered-at (events_share h) n 0 es ∙ ap (λ i. maybe (events_share h) (entry_at es i)) (less-none n))))

-- The ledger as of a day.

pub as-shares : (p : ℕ) (es : List Entry) → ledger_as_of p es ≡ sum_of (ledger_by p) es
as-shares p es = sum-filter (is_event_by p) (λ e. e.amount) (flat_map events_of es) ∙ sum-flat events_of (event_by p) es

-- what a matter moved by the day
abbrev by_day : ℕ → ℕ → List Movement → ℤ
by_day p m vs = sum_of (of_matter (event_by p) m) vs

-- nothing, if its first movement is later
none-after : (p m : ℕ) (vs : List Movement) (from : ℕ) → p < from → AreRising from (days_moved m vs) → by_day p m vs ≡ pos 0
none-after p m [] from lt up = refl
none-after p m (v ∷ vs) from lt up = cases (is_of_matter m v.owner) (none-after p m vs) up
  where
    cases : (b : Bool) → ((day : ℕ) → p < day → AreRising day (days_moved m vs) → by_day p m vs ≡ pos 0) → AreRising from (map (λ v. v.day) (cond b (v ∷ filter (λ v. is_of_matter m v.owner) vs) (filter (λ v. is_of_matter m v.owner) vs))) → cond b (cond (nat_le v.day p) v.amount (pos 0)) (pos 0) +ℤ by_day p m vs ≡ pos 0
    cases true more up =
        let low = up.0 in
        let late : nat_le v.day p ≡ false = grind (arith, nat_tests) in
        let rest = more v.day (omega (arith, lt, low)) up.1 in
        rw late (omega (arith, ints, rest))
    cases false more up = omega (arith, ints, more from lt up)

-- what a matter moved by a day is what it had moved at some place of the list, since its movements rise
front-of : (p m : ℕ) (vs : List Movement) (from : ℕ) → AreRising from (days_moved m vs) → (k : ℕ) × (by_day p m vs ≡ moved_for m (take k vs))
front-of p m [] from up = (0, refl)
front-of p m (v ∷ vs) from up = cases (is_of_matter m v.owner) refl (nat_le v.day p) refl (front-of p m vs) up
  where
    cases : (b : Bool) → is_of_matter m v.owner ≡ b → (c : Bool) → nat_le v.day p ≡ c → ((day : ℕ) → AreRising day (days_moved m vs) → (k : ℕ) × (by_day p m vs ≡ moved_for m (take k vs))) → AreRising from (map (λ v. v.day) (cond b (v ∷ filter (λ v. is_of_matter m v.owner) vs) (filter (λ v. is_of_matter m v.owner) vs))) → (k : ℕ) × (cond b (cond c v.amount (pos 0)) (pos 0) +ℤ by_day p m vs ≡ moved_for m (take k (v ∷ vs)))
    cases true own true early more up = let r = more v.day up.1 in (suc r.0, rw own (omega (arith, ints, r.1)))
    cases true own false late more up =
        let after : p < v.day = grind (arith, nat_tests) in
        let rest = none-after p m vs v.day after up.1 in
        (0, omega (arith, ints, rest))
    cases false own c when more up = let r = more from up in (suc r.0, rw own (omega (arith, ints, r.1)))

pub as_of-least : LedgersAsOfCovered
as_of-least p m firm sound =
    let es = (of m firm).entries in
    let moved = matter-agrees (event_by p) m firm.movements es (sound.events m) in
    let front = front-of p m firm.movements 0 (sound.in_time m).rising in
    omega (arith, ints, as-shares p es, moved, front.1, sound.covered m front.0)

-- Deposits, as steps.
use Rattle.trust_matter.proofs.Names.{AreBacked, Caller, Deposit, DepositAsk, DepositState, Entry, HasAmount, Head, IsBy, IsRanged, List, MayTake, MovesWithin, None, Numbered, Option, ReturnedDeposit, Seat, Some, Sound, [], all-at, arith, available, available_share, cancelled, cleared_deposit, days_of, deposit-may, deposit_bank, deposit_days, deposit_of, draw, entry_at, events_of, false, inl, ints, is_deposit_not_held, is_fee, is_no_deposit, is_none, is_settled, le_refl, left-moved, length, made-before, names, of_kind, paid_out, pos, refl, rows-of, target-apart, total-undrawn, within, worth, ℕ, ◌+ℤ◌, ◌+◌, ◌-ℤ◌, ◌<◌, ◌∷◌, ◌≡◌, ◌≤ℤ◌, ◌≤◌}
use Rattle.matter_rows.specs.declared.clearing.Clearing.{Clearing}
use Rattle.matter_rows.specs.declared.deposit.DepositState.TheVariants as deposit
use Rattle.matter_rows.specs.declared.entry.Entry.TheVariants as entry
use Rattle.matter_parts.specs.declared.edit.Edit.TheVariants as edit
use Rattle.trust_matter.specs.declared.ask.Ask.TheVariants as ask
use Rattle.trust_matter.proofs.StepForms.{step-append, step-exchange, exchange-moves, held-is, asked, Stepped}

-- A deposit.

pub step-deposit : (h : Head) (seats : List Seat) (es : List Entry) (c : Caller) (a : DepositAsk) (day : ℕ) → Sound (rows-of (Some h) seats es) → HasAmount (ask.Deposit a) → h.closed ≡ None → h.last ≤ day → (length es < 9_999) × (a.number ≡ length es + 1) → Stepped (Some h) seats es (asked c (ask.Deposit a) day) (edit.Append (record { number = a.number; entry = deposit_of a day }))
unfolding events_of days_of
step-deposit h seats es c a day s amount unclosed later next =
    let x : Numbered = record { number = a.number; entry = deposit_of a day } in
    let may = deposit-may es (record { book = day; amount = a.amount; source = a.source; description = a.description; state = deposit.Held }) s.backed refl next.0 amount in
    step-append h seats es x _ _ day s unclosed may next.1 later later (le_refl day, tt) (tt, tt)
    (record { moved = refl; dated = (later, le_refl day) }) (inl refl)

-- A deposit that was held.

abbrev with-state : Deposit → DepositState → Entry
with-state d state = entry.Deposit (record d { state = state })

cleared-some : (s : DepositState) (amount : ℕ) → pos 0 ≤ℤ cleared_deposit s amount
cleared-some s amount = grind (arith, ints)

-- it may be in a state that leaves what is available above zero
other-may : (es : List Entry) (n : ℕ) (d : Deposit) (state : DepositState) → AreBacked es → entry_at es n ≡ Some (entry.Deposit d) → pos 0 ≤ℤ ((available es -ℤ cleared_deposit d.state d.amount) +ℤ cleared_deposit state d.amount) → MayTake es n (entry.Deposit d) (with-state d state)
unfolding names draw worth available_share
other-may es n d state s at enough =
    let some = within es n (entry.Deposit d) at in
    let no-fee : of_kind is_fee (entry_at es n) ≡ false = rw at refl in
    let no-claim : of_kind is_settled (entry_at es n) ≡ false = rw at refl in
    let all = total-undrawn es n s.named some.0 no-fee no-claim in
    record {
      at = at;
      ranged = record { amount = (all-at IsRanged es n (entry.Deposit d) s.ranged at).amount; part = tt };
      named = refl;
      fee = λ h. h;
      settled = λ h. h;
      available = enough;
      same_target = refl;
      apart = target-apart es n some.0 no-fee no-claim (with-state d state) refl;
      own = omega (arith, ints, all);
      left = λ k e h elsewhere. left-moved es (entry.Deposit d) (with-state d state) refl (λ e h. let l = s.left 0 e h in omega (arith, ints, l)) s.left k e h;
    }

-- a held deposit may be cleared or cancelled
pub restated-may : (es : List Entry) (n : ℕ) (d : Deposit) (state : DepositState) → AreBacked es → entry_at es n ≡ Some (entry.Deposit d) → d.state ≡ deposit.Held → MayTake es n (entry.Deposit d) (with-state d state)
restated-may es n d state s at held = other-may es n d state s at (rw held (let a = s.available in let b = cleared-some state d.amount in omega (arith, ints, a, b)))

-- a cleared deposit may be taken back, where what is available covers it
pub returned-may : (es : List Entry) (n : ℕ) (d : Deposit) (c : Clearing) (r : ReturnedDeposit) → AreBacked es → entry_at es n ≡ Some (entry.Deposit d) → d.state ≡ deposit.Cleared c → pos d.amount ≤ℤ available es → MayTake es n (entry.Deposit d) (with-state d (deposit.Returned r))
returned-may es n d c r s at cleared covered = other-may es n d (deposit.Returned r) s at (rw cleared (omega (arith, ints, covered)))

-- a return takes the amount out again
pub returning-moves : (es : List Entry) (n last : ℕ) (d : Deposit) (c : Clearing) (r : ReturnedDeposit) → entry_at es n ≡ Some (entry.Deposit d) → d.state ≡ deposit.Cleared c → last ≤ r.undone → MovesWithin es (edit.Exchange (record { number = n; entry = with-state d (deposit.Returned r) })) last r.undone
unfolding events_of
returning-moves es n last d c r at cleared later = grind (arith, ints, exchange-moves, paid_out, le_refl)

-- the days of a deposit that is taken back
pub returned-by : (d : Deposit) (c : Clearing) (r : ReturnedDeposit) (last : ℕ) → d.state ≡ deposit.Cleared c → r.clearing ≡ c → IsBy last (entry.Deposit d) → last ≤ r.undone → r.returning.bank_day ≤ r.undone → IsBy r.undone (with-state d (deposit.Returned r))
unfolding days_of
returned-by d c r last cleared same by later back = grind (arith, ints, deposit_days, deposit_bank)

pub step-cancel : (h : Head) (seats : List Seat) (es : List Entry) (c : Caller) (n day : ℕ) (o : Option Entry) → entry_at es n ≡ o → Sound (rows-of (Some h) seats es) → h.closed ≡ None → h.last ≤ day → is_none o ≡ false → is_no_deposit o ≡ false → is_deposit_not_held o ≡ false → Stepped (Some h) seats es (asked c (ask.CancelDeposit n) day) (cancelled n o day)
unfolding events_of days_of
step-cancel h seats es c n day (Some (entry.Deposit d)) at s unclosed later there kind state =
    let x : Numbered = record { number = n; entry = with-state d (deposit.Cancelled day) } in
    let held = held-is d.state state in
    let may = restated-may es n d (deposit.Cancelled day) s.backed at held in
    let made : d.book ≤ day = let b = made-before h es n (entry.Deposit d) s.headed.0 at in omega (arith, b, later) in
    step-exchange h seats es x (entry.Deposit d) _ _ day s unclosed may refl (λ _. omega arith) later
    (made, (le_refl day, tt)) ((made, tt), tt) (exchange-moves es x h.last day (paid_out day d.amount ∷ [])
    (rw (at, held) refl) (later, le_refl day)) (inl refl) (refl)
step-cancel h seats es c n day o at s unclosed later there kind state = absurd (cc)

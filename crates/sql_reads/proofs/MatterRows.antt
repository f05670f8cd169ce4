-- The seats and the entries of one matter, as a sink was handed them.
use Rattle.sql_reads.proofs.Names.{◌≡◌, ℕ, ℤ, pos, ◌+◌, List, [], ◌∷◌, ◌++◌, map, fold, length, Result, Ok, Err, IsErr, sym, subst, ◌∙◌, arith, append-nil, length-append, HandedOver, FoldsFront, begun, one_more, some_more, all_more, ended, Int, Database, State, SeatRow, EntryRow, Layout, lists_in, entries_in, entries_of, numbered_shown, seats_in, seats_of, seat_shown, Stands, entries_read_asks, seats_read_asks, entries_read_answer, seats_read_answer, AreCounted, IsFed, entry_rows, kept_at, seat_at, seat_rows}
use Rattle.std.specs.Result.{IfOk}
use Rattle.firm_rows.specs.Firm.{Row}
use Rattle.sql_tables.specs.Texts.{entries_read_text, seats_read_text}
use Rattle.sql_reads.proofs.Answer.{fed_counted}
use Rattle.sql_reads.proofs.Fed.{counted_mapped, of_err}
use Rattle.sql_reads.proofs.Shown.{entries_shown, seats_shown}

module _ {K : Type 0} (step : K → ℕ × Row → K) (l : Layout) (was : Database) (stands : Stands l was) (old new : State)
    (same : old.now ≡ was) (m : ℕ) (z : ℤ) (own : z ≡ pos m) {E : Type 0} (r : Result ℕ E) (before after : K) where
  abbrev still : Stands l old.now
  still = subst (Stands l) (sym same) stands

  pub seats_fed : IsFed (λ sink row. step sink (m, SeatRow (seat_at m row))) (λ _. Unit {0}) seats_read_text
      (Int z ∷ []) old new r before after → AreCounted step (seat_rows (lists_in l was.trees) m) r before after
  seats_fed fed =
      let seats = seats_of (pos m) (seats_in l was.trees) in
      let counted = fed_counted (seats_read_asks l) (Int z ∷ []) old new still.schema (map seat_shown seats)
      (λ found a. seats_read_answer l old.now z still found a
      ∙ (λ i. map seat_shown (seats_of (own i) (seats_in l (same i).trees)))) _ _ r before after fed in
      subst (λ rows. AreCounted step rows r before after) (seats_shown m seats)
      (counted_mapped step (λ row. (m, SeatRow (seat_at m row))) (map seat_shown seats) r before after counted)

  pub entries_fed : IsFed (λ sink row. step sink (m, EntryRow (kept_at m row).number (kept_at m row).entry))
      (λ _. Unit {0}) entries_read_text (Int z ∷ []) old new r before after
      → AreCounted step (entry_rows (lists_in l was.trees) m) r before after
  entries_fed fed =
      let entries = entries_of (pos m) (entries_in l was.trees) in
      let counted = fed_counted (entries_read_asks l) (Int z ∷ []) old new still.schema (map numbered_shown entries)
      (λ found a. entries_read_answer l old.now z still found a
      ∙ (λ i. map numbered_shown (entries_of (own i) (entries_in l (same i).trees)))) _ _ r before after fed in
      subst (λ rows. AreCounted step rows r before after) (entries_shown m entries)
      (counted_mapped step (λ row. (m, EntryRow (kept_at m row).number (kept_at m row).entry)) (map numbered_shown entries)
      r before after counted)

-- The head of a matter, its seats and its entries, one behind the other.
module _ {K : Type 0} (step : K → ℕ × Row → K) (row : ℕ × Row) (seats entries : List (ℕ × Row)) (old : K) where
  abbrev all : List (ℕ × Row)
  all = row ∷ (seats ++ entries)

  -- at an error some front is enough
  pub counted_err : {E : Type 0} (r : Result ℕ E) → IsErr r → {now : K} → FoldsFront step old all now
      → AreCounted step all r old now
  counted_err r is {now} part =
      of_err (λ q. AreCounted step all q old now) (λ e. record { all = tt; some = part; count = tt }) r is

  module _ (t : K) (first : t ≡ step old row) where
    head_done : HandedOver step old all (seats ++ entries) t
    head_done = one_more step old old t all row (seats ++ entries) (begun step old all) first

    pub seats_stopped : (u : K) → FoldsFront step t seats u → FoldsFront step old all u
    seats_stopped u part = (part.0 ++ entries, some_more step old t u all seats part.0 entries head_done part.1)

    module _ (u : K) (second : u ≡ fold step t seats) (v : K) where
      seats_done : HandedOver step old all (entries ++ []) u
      seats_done =
          subst (λ xs. HandedOver step old all xs u) (sym (append-nil entries))
          (all_more step old t u all seats entries head_done second)

      pub entries_stopped : FoldsFront step u entries v → FoldsFront step old all v
      entries_stopped part = (part.0 ++ [], some_more step old u v all entries part.0 [] seats_done part.1)

      pub counted : v ≡ fold step u entries → (i j : ℕ) → i ≡ length seats → j ≡ length entries
          → {E : Type 0} (r : Result ℕ E) → IfOk r (λ n. n ≡ i + j + 1) → AreCounted step all r old v
      counted third i j is js r sums =
          let done = all_more step old u v all entries [] seats_done third in
          let lengths = length-append seats entries in
          whole (ended step old v all done) done r sums lengths
        where
          whole : v ≡ fold step old all → HandedOver step old all [] v → {E : Type 0} (r : Result ℕ E)
              → IfOk r (λ n. n ≡ i + j + 1) → length (seats ++ entries) ≡ length seats + length entries
              → AreCounted step all r old v
          whole folded done (Ok n) sums lengths =
              record { all = folded; some = ([], done); count = omega (arith, is, js, sums, lengths) }
          whole folded done (Err e) sums lengths = record { all = tt; some = ([], done); count = tt }

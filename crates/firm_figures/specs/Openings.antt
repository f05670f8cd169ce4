-- OPENING: openings that differ from the latest closing before them.
use Rattle.std.specs.Prelude.{◌≡◌, ℕ, Bool, true, not, ◌&&◌, nat_le, nat_lt, List, [], ◌∷◌, ◌++◌, Option, Some, None, fold, if◌then◌else◌}
use Rattle.std.specs.List.{AllByRecursion, flat_map}
use Rattle.std.specs.List.Sorted.{IsNonDecreasingBy}
use Rattle.std.specs.Ordering.{int_eq}
use Rattle.firm_rows.specs.declared.ledger.BalanceRow.{BalanceRow}
use Rattle.firm_figures.specs.declared.day_lists.OpeningLine.{OpeningLine}
use Rattle.firm_figures.specs.Figures.{is_closing}

-- a closing dated before this day
abbrev pub is_closing_before : ℕ → BalanceRow → Bool
is_closing_before day r = is_closing r.kind && nat_lt r.day day

-- the last of these in the list, which is the latest if the balances are sorted
abbrev pub latest_before : ℕ → List BalanceRow → Option BalanceRow
latest_before day rows = fold (λ found r. if is_closing_before day r then Some r else found) None rows

-- an opening whose latest closing has another amount
abbrev pub after_closing : BalanceRow → Option BalanceRow → List OpeningLine
after_closing r None = []
after_closing r (Some c) =
    if int_eq r.amount c.amount
    then []
    else (record { day = r.day; amount = r.amount; after = c.day; closing = c.amount } ∷ [])

-- an opening dated by p
abbrev pub is_opening_by : ℕ → BalanceRow → Bool
is_opening_by p r = not (is_closing r.kind) && nat_le r.day p

abbrev pub opening_line : List BalanceRow → ℕ → BalanceRow → List OpeningLine
opening_line rows p r = if is_opening_by p r then after_closing r (latest_before r.day rows) else []

-- the lines of OPENING as of p
abbrev pub opening_list : ℕ → List BalanceRow → List OpeningLine
opening_list p rows = flat_map (opening_line rows p) rows

-- How they are built from balances that arrive one at a time.

-- the balances dated by the day, openings and closings apart
pub record BalancesKept : Type 0 where
  pub day : ℕ
  pub openings : List BalanceRow
  pub closings : List BalanceRow

abbrev pub no_balances : ℕ → BalancesKept
no_balances p = record { day = p; openings = []; closings = [] }

abbrev pub with_dated : BalancesKept → BalanceRow → BalancesKept
with_dated s r =
    if is_closing r.kind
    then record s { closings = s.closings ++ r ∷ [] }
    else record s { openings = s.openings ++ r ∷ [] }

abbrev pub with_balance_kept : BalancesKept → BalanceRow → BalancesKept
with_balance_kept s r = if nat_le r.day s.day then with_dated s r else s

-- closings in order of day
pub record AreClosings (rows : List BalanceRow) : Type 0 where
  pub rising : IsNonDecreasingBy (λ (r : BalanceRow). r.day) rows
  pub closings : AllByRecursion (λ (r : BalanceRow). is_closing r.kind ≡ true) rows

-- the lines of openings, each with the latest of these closings before it
abbrev pub openings_after : List BalanceRow → List BalanceRow → List OpeningLine
openings_after closings openings =
    flat_map (λ (r : BalanceRow). after_closing r (latest_before r.day closings)) openings

abbrev pub openings_kept : BalancesKept → List OpeningLine
openings_kept s = openings_after s.closings s.openings

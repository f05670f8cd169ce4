-- A matter in memory: its totals, its counts and some of its entries.
use Rattle.std.specs.Prelude.{◌≡◌, ℕ, ◌+◌, ◌≤◌, ◌==◌, ◌||◌, nat_lt, cond, Bool, true, false, List, [], ◌∷◌, length, map, ℤ, pos, Option, Some, None, find, is_some}
use Rattle.std.specs.List.{filter}
use Rattle.matter_rows.specs.declared.head.Head.{Head}
use Rattle.matter_rows.specs.declared.seat.Seat.{Seat}
use Rattle.matter_rows.specs.declared.entry.Entry.{Entry}
use Rattle.matter_rows.specs.Rows.{Rows, entry_at}
use Rattle.matter_rows.specs.Balances.{left_of, held, available, disputed, fees, claims, total, pending}
use Rattle.matter_rows.specs.Shares.{target_in}
use Rattle.matter_rows.specs.declared.limits.TheConstants.{MAX_TOTAL}
use Rattle.matter_parts.specs.declared.figures.Balances.{Balances}
use Rattle.matter_parts.specs.declared.figures.Figures.{Figures}
use Rattle.matter_parts.specs.declared.kept.Kept.{Kept}
use Rattle.trust_base.specs.TheConstants.{MAX_ENTRY}

-- the parts of a matter that are in memory
pub record Part : Type 0 where
  pub head : Option Head
  pub seats : List Seat
  pub figures : Figures
  pub kept : List Kept

-- a matter has at most 9,999 entries, and no total is above 9,999 times the greatest amount
pub record AreSmall (f : Figures) : Type 0 where
  pub entries : f.entries ≤ MAX_ENTRY
  pub pending : f.pending ≤ MAX_TOTAL
  pub held : f.held ≤ MAX_TOTAL
  pub available : f.available ≤ MAX_TOTAL
  pub disputed : f.disputed ≤ MAX_TOTAL
  pub fees : f.fees ≤ MAX_TOTAL
  pub claims : f.claims ≤ MAX_TOTAL

-- the totals of a matter without entries
abbrev pub no_figures : Figures
no_figures = record { entries = 0; pending = 0; held = 0; available = 0; disputed = 0; fees = 0; claims = 0 }

-- the loaded entry n
abbrev pub kept_in : List Kept → ℕ → Option Kept
kept_in ks n = find (λ k. k.number == n) ks

abbrev pub kept_at : Part → ℕ → Option Kept
kept_at m n = kept_in m.kept n

-- totals, counts and what is left of each loaded entry are within the range of a matter
pub record AreInRange (f : Figures) (kept : List Kept) : Type 0 where
  pub figures : AreSmall f
  pub lefts : (n : ℕ) (k : Kept) → find (λ k. k.number == n) kept ≡ Some k → k.left ≤ MAX_TOTAL

-- the entry is loaded or does not exist
abbrev pub is_held : Part → ℕ → Bool
is_held m n = is_some (kept_at m n) || nat_lt m.figures.entries n

-- every entry is loaded or does not exist
abbrev pub HoldsAll : Part → Type 0
HoldsAll m = (n : ℕ) → 1 ≤ n → is_held m n ≡ true

-- an entry that was loaded or did not exist is so after it
abbrev pub HoldsOn : Part → Part → Type 0
HoldsOn m m' = (n : ℕ) → is_held m n ≡ true → is_held m' n ≡ true

-- these totals and counts are what the entries add up to
pub record AreFigures (f : Figures) (es : List Entry) : Type 0 where
  pub entries : f.entries ≡ length es
  pub pending : pos f.pending ≡ pending es
  pub held : pos f.held ≡ held es
  pub available : pos f.available ≡ available es
  pub disputed : pos f.disputed ≡ disputed es
  pub fees : pos f.fees ≡ fees es
  pub claims : pos f.claims ≡ claims es

-- these balances are what the entries add up to
pub record AreBalances (b : Balances) (es : List Entry) : Type 0 where
  pub held : pos b.held ≡ held es
  pub available : pos b.available ≡ available es
  pub fees : pos b.fees ≡ fees es
  pub claims : pos b.claims ≡ claims es
  pub disputed : pos b.disputed ≡ disputed es
  pub total : pos b.total ≡ total es

-- the loaded entry is the one of the rows, and what is left of it follows from the entries
pub record IsEntryOf (es : List Entry) (n : ℕ) (k : Kept) : Type 0 where
  pub there : entry_at es n ≡ Some k.entry
  pub left : pos k.left ≡ left_of es n k.entry

abbrev pub AreKept : List Kept → List Entry → Type 0
AreKept ks es = (n : ℕ) (k : Kept) → kept_in ks n ≡ Some k → IsEntryOf es n k

-- the matter is a part of the rows: it has their head, seats, totals and counts, and some of the entries loaded
pub record IsPart (m : Part) (rows : Rows) : Type 0 where
  pub head : m.head ≡ rows.head
  pub seats : m.seats ≡ rows.seats
  pub figures : AreFigures m.figures rows.entries
  pub kept : AreKept m.kept rows.entries

-- the loaded entries have the numbers n, n + 1 and so on
abbrev pub AreNumbered : ℕ → List Kept → Type 0
AreNumbered n [] = Unit {0}
AreNumbered n (k ∷ ks) = (k.number ≡ n) × AreNumbered (n + 1) ks

-- the entries, without what is left of them
abbrev pub entries_kept : List Kept → List Entry
entries_kept ks = map (λ k. k.entry) ks

-- the matter is a part of the rows with all their entries loaded, in the order of their numbers
pub record IsWhole (m : Part) (rows : Rows) : Type 0 where
  pub part : IsPart m rows
  pub entries : entries_kept m.kept ≡ rows.entries
  pub numbered : AreNumbered 1 m.kept

abbrev pub entry_in : Option Kept → Option Entry
entry_in None = None
entry_in (Some k) = Some k.entry

abbrev pub left_kept : Option Kept → ℤ
left_kept None = pos 0
left_kept (Some k) = pos k.left

-- the entry that a named, loaded entry draws on; 0 for none
abbrev pub target_by : Part → Option ℕ → ℕ
target_by m None = 0
target_by m (Some n) = target_in (entry_in (kept_at m n))

abbrev pub is_it : Option ℕ → ℕ → Bool
is_it None n = false
is_it (Some m) n = n == m

-- the entry is one of the two that are named, or one that either of them draws on
abbrev pub is_named : Part → Option ℕ → Option ℕ → ℕ → Bool
is_named m a b n = is_it a n || (is_it b n || (n == target_by m a || n == target_by m b))

-- the same matter, with only the named entries loaded
abbrev pub named_part : Part → Option ℕ → Option ℕ → Part
named_part m a b = record m { kept = filter (λ k. is_named m a b k.number) m.kept }

-- what is left of a loaded entry, if it is of this kind
abbrev pub left_if : (Entry → Bool) → Option Kept → Option ℤ
left_if kind None = None
left_if kind (Some k) = cond (kind k.entry) (Some (pos k.left)) None

-- cleared deposits less payments, according to the totals
abbrev pub total_kept : Figures → ℕ
total_kept f = f.available + f.disputed + f.fees + f.claims

-- no entry is named, or it is loaded, or it does not exist
abbrev pub is_held_or_none : Part → ℕ → Bool
is_held_or_none m n = n == 0 || is_held m n

-- if the matter is closed, no money is left and nothing waits
abbrev pub AreEmptyIfClosed : Option ℕ → Figures → Type 0
AreEmptyIfClosed None f = Unit {0}
AreEmptyIfClosed (Some day) f = (total_kept f + f.held ≡ 0) × (f.pending ≡ 0)

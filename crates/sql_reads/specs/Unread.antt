-- Rows of the trail that were read one by one, whether or not each stands for an act.
use Rattle.std.specs.Prelude.{◌≡◌, ◌≢◌, ◌⊎◌, ℕ, pos, ◌+◌, List, [], ◌∷◌, Option, Some, None}
use Rattle.sqlite_value.specs.declared.value.Value.TheVariants.{Int, Null}
use Rattle.sqlite_value.specs.Order.{Row, column}
use Rattle.trust_base.specs.Limits.{IsMatterNo}
use Rattle.firm_rows.specs.declared.matter_act.MatterAct.{MatterAct}
use Rattle.trust_store.specs.declared.unread_act.UnreadAct.{UnreadAct}
use Rattle.sql_tables.specs.Rows as table
use Rattle.sql_rows.specs.Dismissals.{dismissal_row}
use Rattle.sql_rows.specs.Meaning.{IsWrittenAct, IsWrittenDismissal}
use Rattle.sql_reads.specs.Shown.{act_at}

-- no program writes the row for an act
abbrev pub StandsForNone : Row → Type 0
StandsForNone r = (x : table.Act) → IsWrittenAct x → r ≢ table.act_values x

-- the matter that the row names, or none if it names none that there may be
abbrev pub NamesMatter : Row → Option ℕ → Type 0
NamesMatter r (Some m) = column r 0 ≡ Int (pos m)
NamesMatter r None = (m : ℕ) → IsMatterNo m → column r 0 ≢ Int (pos m)

-- this is told of the row with this number, which stands for no act
pub record IsTold (number : ℕ) (r : Row) (told : UnreadAct) : Type 0 where
  pub numbered : told.number ≡ number
  pub named : NamesMatter r told.matter
  pub none : StandsForNone r

-- of rows numbered from here on, a sink took the act that each shows, but for those that are told, in their order
abbrev pub AreRead : {K : Type 0} → (K → MatterAct → K) → ℕ → List Row → List UnreadAct → K → K → Type 0
AreRead step n [] unread old new = (unread ≡ []) × (new ≡ old)
AreRead step n (r ∷ rows) unread old new =
    AreRead step (n + 1) rows unread (step old (act_at r)) new
    ⊎ ((told : UnreadAct) × (rest : List UnreadAct) × (unread ≡ told ∷ rest) × IsTold n r told
    × AreRead step (n + 1) rows rest old new)

-- Rows of no matter, whether or not each stands for a dismissal.

-- no program writes the row for a dismissal
abbrev pub StandsForNoDismissal : Row → Type 0
StandsForNoDismissal r = (x : table.Act) → IsWrittenDismissal x → r ≢ table.act_values x

-- the row has the columns of a dismissal on its day with its text
abbrev pub IsLikeDismissal : Row → Type 0
IsLikeDismissal r =
    let shown = table.act_in (Int (pos 0) ∷ Null ∷ r) in
    (day : ℕ) → pos day ≡ shown.day → shown ≡ dismissal_row day shown.text

-- of rows numbered from here on, these are the numbers of those that stand for no dismissal; each other is like one
abbrev pub AreNoDismissals : ℕ → List Row → List ℕ → Type 0
AreNoDismissals n [] numbers = numbers ≡ []
AreNoDismissals n (r ∷ rows) numbers =
    (IsLikeDismissal r × AreNoDismissals (n + 1) rows numbers)
    ⊎ ((rest : List ℕ) × (numbers ≡ n ∷ rest) × StandsForNoDismissal r × AreNoDismissals (n + 1) rows rest)

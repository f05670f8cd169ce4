-- An act or a dismissal that was read from a row of the trail is the one that the row shows.
use Rattle.sql_reads.proofs.Names.{◌≡◌, ◌∙◌, ℕ, ◌≤◌, pos, ◌∷◌, Option, Some, None, IfSome, Result, Ok, Err, sym, ap, subst, Int, Null, Row, StoreFault, Store, Dismissal, MatterAct, act_at, dismissal_at}
use Rattle.std.specs.Prelude.{IfOk}
use Rattle.trust_base.specs.Limits.{IsEntryNo}
use Rattle.trust_base.specs.declared.refusal.StoreFault.TheVariants.{Memory}
use Rattle.sql_tables.specs.Rows as table
use Rattle.sql_rows.specs.Acts.{IsAct, act_columns}
use Rattle.sql_rows.specs.Dismissals.{IsDismissal, dismissal_columns}
use Rattle.sql_rows.specs.Columns.{GivesBack}
use Rattle.sql_rows.specs.Meaning.{act_from, dismissal_from}
use Rattle.sql_rows.proofs.Acts.{act_back}
use Rattle.sql_rows.proofs.Dismissals as dismissals
use Rattle.sql_reads.specs.Unread.{StandsForNone}

numbered : (o : Option ℕ) → IfSome o IsEntryNo → IfSome o (λ n. 1 ≤ n)
numbered None is = is
numbered (Some n) is = is.0

pub act_read : (a : MatterAct) (columns : table.Act) (r : Row) → IsAct a → act_columns a ≡ columns
    → columns ≡ table.act_in (Int (pos 0) ∷ Null ∷ r) → a ≡ act_at r
act_read a columns r is has given =
    sym (act_back a (pos 0) (numbered a.act.entry is.entry, is.caller)) ∙ ap act_from (has ∙ given)

pub any_read : (columns : table.Act) (r : Row) (result : Result MatterAct StoreFault)
    → IfOk result (λ a. act_columns a ≡ columns) → IfOk result IsAct
    → columns ≡ table.act_in (Int (pos 0) ∷ Null ∷ r) → IfOk result (λ a. a ≡ act_at r)
any_read columns r (Ok a) has is given = act_read a columns r is has given
any_read columns r (Err e) has is given = tt

-- a row that was refused stands for none
pub none_read : (columns : table.Act) (r : Row) (result : Result MatterAct StoreFault)
    → ((a : MatterAct) → IsAct a → act_columns a ≡ columns → GivesBack a result)
    → columns ≡ table.act_in (Int (pos 0) ∷ Null ∷ r) → result ≡ Err Store → StandsForNone r
none_read columns r result back given is x written shows =
    let gives = back (act_from x) written.1
    (sym written.0 ∙ ap (λ s. table.act_in (Int (pos 0) ∷ Null ∷ s)) (sym shows) ∙ sym given) in
    let never : Store ≡ Memory = subst (GivesBack (act_from x)) is gives in absurd (let e = never in cc)

dismissal_read : (d : Dismissal) (columns : table.Act) (r : Row) → IsDismissal d → dismissal_columns d ≡ columns
    → columns ≡ table.act_in (Int (pos 0) ∷ Null ∷ r) → d ≡ dismissal_at r
dismissal_read d columns r is has given = dismissals.dismissal_read d columns is has ∙ ap dismissal_from given

pub any_dismissal_read : (columns : table.Act) (r : Row) (result : Result Dismissal StoreFault)
    → IfOk result (λ d. dismissal_columns d ≡ columns) → IfOk result IsDismissal
    → columns ≡ table.act_in (Int (pos 0) ∷ Null ∷ r) → IfOk result (λ d. d ≡ dismissal_at r)
any_dismissal_read columns r (Ok d) has is given = dismissal_read d columns r is has given
any_dismissal_read columns r (Err e) has is given = tt

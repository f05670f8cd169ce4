use Rattle.sql_making.proofs.Names.{◌≡◌, inl, Option, None, Some, IsTrue, refl, sym, ap, subst, ◌∙◌, IsPermutation, numbered_versions}
use Rattle.std.specs.Option.{is_some}
use Rattle.sql_making.proofs.VersionRead.{one_stored, one_read}
use Rattle.sql_making.proofs.taking.is_old_book.Goals as goal

some_of : {T : Type 0} (o : Option T) → IsTrue (is_some o) → (x : T) × (o ≡ Some x)
some_of (Some x) h = (x, refl)
some_of None h = absurd (let e = h in cc)

pub returns-clause-is : goal.returns-clause-is
returns-clause-is g c clean has =
    let stored = numbered_versions (g.S.Store.view c.args.conn.now.store).trees in
    let rows = c.as_slice.result.now in
    let seen : IsPermutation stored rows = subst (IsPermutation stored) (sym c.as_slice.ensures.value) (c.in_ok-rows.ensures.rows clean (inl has)) in (
      λ some.
          let it = some_of c.old_number.result (subst IsTrue c.is_some.ensures some) in
          record { schema = has; id = it.0; version = one_stored stored rows _ seen ((c.old_number.ensures it.0).0 it.1) },
      λ book. c.is_some.ensures ∙ ap is_some ((c.old_number.ensures book.id).1 (one_read stored rows _ seen book.version)),
    )

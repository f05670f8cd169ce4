use Rattle.sql_making.proofs.Names.{inl, inr, rules, sym, ap, ◌∙◌, subst, map, IsPermutation, Int, Row, column, numbered_versions}
use Rattle.sql_making.proofs.VersionRead.{one_stored, one_read, one_numbered, versions_shown}
use Rattle.sql_making.proofs.taking.version_of.Goals as goal

pub returns-clause-is : goal.returns-clause-is
returns-clause-is g c l clean has v =
    let db = (g.S.Store.view c.args.conn.now.store).trees in
    let rows = c.as_slice.result.now in
    let seen : IsPermutation (numbered_versions db) rows = subst (IsPermutation (numbered_versions db)) (sym c.as_slice.ensures.value) (c.in_ok-rows.ensures.rows clean (inr (inl (l, has)))) in
    let version = c.one_version.ensures v in (
      λ some.
          let it = version.0 some in
          sym (versions_shown l db) ∙ ap (map (λ (r : Row). column r 1)) (one_stored (numbered_versions db) rows _ seen it.1),
      λ is.
          let it = one_numbered (db 0) (Int v) is in
          version.1 (it.0, one_read (numbered_versions db) rows _ seen it.1),
    )

pub returns-in_err-rows-clause-told : goal.returns-in_err-rows-clause-told
returns-in_err-rows-clause-told g c l clean has =
    let looked = c.version_rows.ensures.look clean (inr (inl (l, has))) in
    search rules

use Rattle.sql_making.proofs.Names.{◌≡◌, inr, Some, rules, sym, ap, ◌∙◌, subst, map, IsPermutation, Int, Row, column, numbered_versions, version_now}
use Rattle.sql_making.proofs.VersionRead.{one_stored, one_read, one_numbered, versions_shown}
use Rattle.sql_making.proofs.taking.is_bare_book.Goals as goal

pub returns-clause-is : goal.returns-clause-is
returns-clause-is g c l clean has =
    let db = (g.S.Store.view c.args.conn.now.store).trees in
    let rows = c.as_slice.result.now in
    let seen : IsPermutation (numbered_versions db) rows = subst (IsPermutation (numbered_versions db)) (sym c.as_slice.ensures.value) (c.in_ok-rows.ensures.rows clean (inr (inr (l, has)))) in
    let version = c.one_version-version.ensures version_now in (
      λ some.
          let told : c.one_version-version.result ≡ Some version_now = search rules in
          let it = version.0 told in
          record { schema = has; version = sym (versions_shown l db) ∙ ap (map (λ (r : Row). column r 1)) (one_stored (numbered_versions db) rows _ seen it.1) },
      λ bare.
          let it = one_numbered (db 0) (Int version_now) bare.version in
          let told : c.one_version-version.result ≡ Some version_now = version.1 (it.0, one_read (numbered_versions db) rows _ seen it.1) in
          search rules,
    )

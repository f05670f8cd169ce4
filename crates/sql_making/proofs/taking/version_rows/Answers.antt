use Rattle.sql_making.proofs.Names.{◌≡◌, sym, ap, ◌∙◌, IsTrue, not, Database, state, version_text, shown_unchanged, kept_unchanged, kept_either, fails_kept, when_shown}
use Rattle.std.proofs.lemmas.Result.{IfOk-weaker, IfErr-weaker}
use Rattle.sqlite.proofs.StateLemmas.{survives_weaker}
use Rattle.sql_tables.proofs.Selects.{select_commits}
use Rattle.sql_making.proofs.Endings.{if_ok, either_way}
use Rattle.sql_making.proofs.VersionRead.{version_selects, version_shown, query_cause}
use Rattle.sql_making.proofs.taking.version_rows.Goals as goal

pub returns-clause-rows : goal.returns-clause-rows
returns-clause-rows g c clean has =
    IfOk-weaker c.query_all.result _ _ (λ rows shown. version_shown (state g.S.Store c.args.conn.now) (state g.S.Store c.query_all.new.self) rows.items has shown) (c.query_all.ensures.ok clean)

pub returns-clause-look : goal.returns-clause-look
returns-clause-look g c clean has =
    let old = state g.S.Store c.args.conn.now in
    let end = c.query_all.new.self in
    let new = state g.S.Store end in
    let outside : IsTrue c.is_autocommit-settled.result = c.is_autocommit-settled.ensures.value ∙ ap not c.requires in
    record {
      settled = if_ok c.query_all.result (c.query_all.ensures.ok clean) (λ rows shown.
          let same = shown_unchanged version_text _ old new rows.items version_selects shown in
          let alike : new.committed ≡ new.now = same.0.committed_is ∙ sym (c.is_autocommit-settled.ensures.settled outside same.0.was_open) ∙ sym same.0.now_is in
          ((alike, λ db left. g.met.S.Store.settled end.store db same.0.is_open left ∙ ap (λ (d : Database). d.trees) alike), kept_unchanged old new same));
      told = IfErr-weaker c.query_all.result _ _ (λ e failed. query_cause old new e has failed) (c.query_all.ensures.err clean);
    }

pub returns-clause-kept : goal.returns-clause-kept
returns-clause-kept g c clean still =
    let old = state g.S.Store c.args.conn.now in
    let new = state g.S.Store c.query_all.new.self in
    let outside : IsTrue c.is_autocommit-settled.result = c.is_autocommit-settled.ensures.value ∙ ap not c.requires in
    either_way c.query_all.result (c.query_all.ensures.ok clean) (c.query_all.ensures.err clean)
    (λ rows shown. kept_unchanged old new (shown_unchanged version_text _ old new rows.items version_selects shown))
    (λ e failed. kept_either old new (c.is_autocommit-settled.ensures.settled outside) still (fails_kept version_text _ old new e version_selects failed))

pub returns-clause-crash : goal.returns-clause-crash
returns-clause-crash g c =
    let old = state g.S.Store c.args.conn.now in
    survives_weaker old (state g.S.Store c.query_all.new.self) _ _ (λ _ db. select_commits version_text _ old db version_selects) c.query_all.ensures.survives

pub returns-clause-serves : goal.returns-clause-serves
returns-clause-serves g c clean =
    let old = state g.S.Store c.args.conn.now in
    when_shown (λ rows. rows.items) version_text _ old (state g.S.Store c.query_all.new.self) c.query_all.result version_selects (c.query_all.ensures.ok clean)

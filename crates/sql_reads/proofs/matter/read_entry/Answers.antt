use Rattle.sql_reads.proofs.Names.{rules, ◌≡◌, pos, IfOk-weaker, to_z, w64}
use Rattle.sql_reads.proofs.Shown.{entry_shown}
use Rattle.sql_reads.proofs.matter.read_entry.Goals as goal

pub returns : goal.returns
returns c =
    let own : to_z w64 c.get.result ≡ pos c.args.matter = search rules in
    IfOk-weaker c.entry_of.result _ _
    (λ k has. entry_shown c.args.matter _ k _ c.args.row.now own has c.in_ok-columns.ensures.ok) c.entry_of.ensures.ok

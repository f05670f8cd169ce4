use Rattle.sql_reads.proofs.Names.{rules, ap, ◌∙◌, numbered_shown, kept_from, kept_at}
use Rattle.sql_reads.proofs.Gathered.{all_taken, one_more}
use Rattle.sql_reads.proofs.matter.read_entries.Goals as goal

pub each-preserved : goal.each-preserved
each-preserved c xs is =
    c.in_ok-push.ensures.items
    ∙ one_more numbered_shown kept_from _ _ (λ x e. c.in_ok-entry.ensures ∙ ap (kept_at c.args.matter) e) xs _ _ _ is
    (search rules) c.row-item.is (c.each.invariant xs is)

pub returns : goal.returns
returns c xs is = all_taken numbered_shown kept_from xs _ _ _ is (search rules) (c.each.invariant xs is)

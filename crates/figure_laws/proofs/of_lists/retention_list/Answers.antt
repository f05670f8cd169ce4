use Rattle.figure_laws.proofs.Names.{ap, ◌∙◌, fold, map}
use Rattle.std.proofs.Common.{◌≡◌, []}
use Rattle.firm_rows.specs.Handing.{in_memory, row_pair}
use Rattle.firm_figures.specs.Lists.{Retained, none_retained, with_row_retained}
use Rattle.figure_laws.proofs.Lists.{retention-kept}
use Rattle.figure_laws.proofs.of_lists.retention_list.Goals as goal

pub returns : goal.returns
returns c =
    let took : c.hand_rows.new.sink ≡ fold with_row_retained (none_retained c.args.today) (map row_pair c.args.rows.now) =
    c.in_ok-hand_rows.ensures.all ∙ ap (λ (s : Retained). fold with_row_retained s (map row_pair c.args.rows.now)) c.new-sink.ensures in
    c.finish.ensures ∙ ap (λ (s : Retained). s.lines) (took ∙ retention-kept c.args.today (in_memory c.args.rows.now [] [] [] []))

use Rattle.std.proofs.Common.{◌++◌, ◌∙◌, ap}
use Rattle.std.specs.List.{flat_map}
use Rattle.firm_periods.specs.Named.{NamedKept, named, pick_of}
use Rattle.firm_periods.proofs.named_sink.NamedSink.list_entry.Goals as goal

pub returns-clause-ok : goal.returns-clause-ok
returns-clause-ok c =
    let lines = c.push_picked.ensures ∙ (λ i. c.in_ok-reserve.ensures.items i ++ c.in_ok-picked.ensures i) in
    (λ i. record { pick = c.self.inside.pick; client = c.self.inside.client; lines = lines i; purged = c.self.inside.purged })
    ∙ ap (λ (s : NamedKept). record s { lines = s.lines ++ flat_map (named s.client c.args.matter c.args.number c.args.entry.now) (pick_of s.pick c.args.entry.now) }) c.self.view_is

use Rattle.std.proofs.Common.{◌∙◌}
use Rattle.serde_json.proofs.Texts.{print-outline}
use Rattle.json_bodies.proofs.to_json.json_text.Goals as goal

pub returns : goal.returns
returns g c =
    (rw (c.in_ok-write.ensures.tokens, c.write.ensures.before, c.in_ok-out.ensures.before, c.in_ok-out.ensures.tokens) at c.into_inner.ensures.items)
    ∙ print-outline (g.T.ToJson.told c.args.value.now)

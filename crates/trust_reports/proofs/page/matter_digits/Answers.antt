use Rattle.trust_reports.proofs.Names.{◌∙◌, sym, ap}
use Rattle.byte_streams.specs.Digits.{fixed_digits}
use Rattle.byte_streams.proofs.FixedFacts.{six-digits}
use Rattle.trust_reports.proofs.page.matter_digits.Goals as goal

pub returns : goal.returns
returns c = sym (six-digits c.get-n.result) ∙ ap (λ n. fixed_digits 6 n) c.get-n.ensures.value

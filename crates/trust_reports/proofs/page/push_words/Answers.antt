use Rattle.trust_reports.proofs.Names.{subst, sym, IsUtf8}
use Rattle.trust_reports.proofs.TextFacts.{IsUtf8-words}
use Rattle.trust_reports.proofs.page.push_words.Goals as goal

pub unreachable-requires : goal.unreachable-requires
unreachable-requires c = c.in_default.ensures.cases.0 (subst IsUtf8 (sym c.as_slice-words.ensures.value) (IsUtf8-words _ c.as_slice-words.ensures.form))

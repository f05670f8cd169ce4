use Rattle.statement_match.proofs.Names.{rules, day_key, entry_key, mark_of, reference_key}
use Rattle.statement_match.proofs.entry_index.EntryIndex.of.Goals as goal

pub invariant_of-result : goal.invariant_of-result
invariant_of-result c = record {
  amounts_found = c.in_ok-amounts.ensures entry_key (λ x r k. search rules);
  references_found = c.in_ok-references.ensures reference_key (λ x r k. search rules);
  days_found = c.in_ok-days.ensures day_key (λ x r k. search rules);
  marks_found = rw c.requires at (c.in_ok-marks.ensures mark_of (λ x r k. search rules));
}

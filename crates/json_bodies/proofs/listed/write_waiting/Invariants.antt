use Rattle.json_bodies.proofs.Names.{◌≡◌, ◌++◌, drop, value_tokens}
use Rattle.std.specs.Prelude.{◌+◌}
use Rattle.std.specs.List.{flat_map}
use Rattle.matter_parts.specs.Parts.{IsWhole}
use Rattle.matter_rows.specs.Rows.{Rows}
use Rattle.json_bodies.specs.Listed.{waiting_in}
use Rattle.json_bodies.proofs.EntryFacts.{waiting_rest}
use Rattle.json_bodies.proofs.listed.write_waiting.Given as goal

abbrev pub invariant-loop-one : goal.invariant-loop-one
invariant-loop-one l = record {
  before : l.out.before ≡ l.fn.out.before;
  tokens : (rows : Rows) → IsWhole l.matter rows → l.out.tokens ++ waiting_rest l.no rows (l.one-index + 1) (drop l.one-index l.kept) ≡ l.fn.out.tokens ++ flat_map value_tokens (waiting_in l.no rows);
}

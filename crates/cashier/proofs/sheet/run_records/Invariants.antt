use Rattle.cashier.proofs.Names.{◌≡◌, ◌<◌, ◌++◌, not, ℕ, List, Some, Bor, Appends, concat, Ready, default_config, source_of, rest_records, IsSame, KeepsBook, all_accepted, firm_from, lines_from, sheet_records}
use Rattle.csv.specs.declared.reader.Trim.TheVariants as trim
use Rattle.desk_trail.specs.KeptTrails.{KeepsTrail}
use Rattle.cashier.specs.Calls.{LeavesTrail}
use Rattle.cashier.proofs.SheetKept.{IsGoing}
use Rattle.cashier.proofs.sheet.run_records.Given as goal

abbrev pub invariant-loop-row : goal.invariant-loop-row
invariant-loop-row g l = record {
  plain : l.row-iterator.rdr.trim ≡ trim.None;
  ready : Ready l.row-iterator.rdr;
  turns : 0 < l.row-iterator.left;
  config : l.row-iterator.rdr.config ≡ default_config;
  kept : KeepsBook IsSame (g.B.Book.seen l.initial.desk) (g.B.Book.seen l.desk);
  going : (g.B.Book.seen l.desk).sure → (g.B.Book.seen l.initial.desk).clean → (g.B.Book.seen l.initial.desk).stands → IsGoing (g.B.Book.seen l.initial.desk) (g.B.Book.seen l.desk);
  trail : (g.B.Book.seen l.desk).clean → (g.B.Book.seen l.initial.desk).stands → KeepsTrail (g.B.Book.seen l.initial.desk).firm (g.B.Book.seen l.desk).firm;
  stopped : (g.B.Book.seen l.desk).sure → (g.B.Book.seen l.initial.desk).clean → (g.B.Book.seen l.initial.desk).stands → LeavesTrail (g.B.Book.seen l.initial.desk) (g.B.Book.seen l.desk);
  left : (y : List ℕ) × (source_of (λ (s : Bor (List ℕ)). Some s.now) l.row-iterator.rdr ≡ Some y)
      × ((g.B.Book.seen l.desk).clean → (g.B.Book.seen l.initial.desk).stands → (past : List (List (List ℕ)))
      × (past ++ rest_records l.row-iterator.rdr.state y ≡ sheet_records l.fn.bytes)
      × Appends (g.W.Write.contents l.initial.writer) (g.W.Write.contents l.writer) (concat (lines_from l.fn.day (g.B.Book.seen l.initial.desk).firm past))
      × ((g.B.Book.seen l.desk).firm ≡ firm_from l.fn.day (g.B.Book.seen l.initial.desk).firm past)
      × (l.refused ≡ not (all_accepted l.fn.day (g.B.Book.seen l.initial.desk).firm past)));
}

-- What the import of a statement says of its bytes, where less is known of them.
use Rattle.cashier.proofs.Names.{ℕ, List, Option, option_map, Keeps, Output, Firm, Seen, IsAfterFirst, MayLeave, arith, ints, nat_tests}
use Rattle.statement_csv.specs.Items.{items}
use Rattle.trust_desk.specs.Imports.{Imports}
use Rattle.trust_desk.specs.declared.importing.ImportEnd.{ImportEnd}
use Rattle.cashier.specs.Statement.{Imported, Run, StatementEnds, is_told_longer}
use Rattle.cashier.specs.declared.outcome.Outcome.{Outcome}

imports-known : (day : ℕ) (before after : Firm) (known bytes : Option (List ℕ)) (ran : ImportEnd) → Keeps known bytes
    → Imports day before (option_map items bytes) ran after → Imports day before (option_map items known) ran after
imports-known day before after known bytes ran keeps h = grind (arith, ints, nat_tests)

imported-known : (day : ℕ) (before after : Firm) (known bytes : Option (List ℕ)) (ran : ImportEnd) → Keeps known bytes
    → Imported day before bytes after ran → Imported day before known after ran
imported-known day before after known bytes ran keeps h = grind (arith, ints, nat_tests, imports-known)

run-known : (day : ℕ) (before after : Firm) (known bytes : Option (List ℕ)) (output : Output) (e : Outcome) → Keeps known bytes
    → Run day bytes output e before after → Run day known output e before after
run-known day before after known bytes output e keeps h = grind (arith, ints, nat_tests, imported-known)

pub ends-known : (day : ℕ) (before after : Firm) (size : Option ℕ) (known bytes : Option (List ℕ)) (output : Output) (e : Outcome) → Keeps known bytes
    → StatementEnds day size bytes output e before after → StatementEnds day size known output e before after
ends-known day before after size known bytes output e keeps h =
    grind (arith, ints, nat_tests, is_told_longer, run-known)

-- what a crash leaves

first-known : (day : ℕ) (firm found : Firm) (known bytes : Option (List ℕ)) → Keeps known bytes → IsAfterFirst day firm (option_map items bytes) found → IsAfterFirst day firm (option_map items known) found
first-known day firm found known bytes keeps h = grind (arith, ints, nat_tests)

pub leaves-known : {done : Type 0} (day : ℕ) (firm after : Firm) (known bytes : Option (List ℕ)) (old new : Seen) → Keeps known bytes
    → MayLeave done (IsAfterFirst day firm (option_map items bytes)) firm after old new → MayLeave done (IsAfterFirst day firm (option_map items known)) firm after old new
leaves-known day firm after known bytes old new keeps may = grind (arith, ints, nat_tests, first-known)

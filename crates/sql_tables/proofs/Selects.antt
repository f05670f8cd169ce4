-- A SELECT has no RETURNING, whatever tables there are.
use Rattle.sql_tables.proofs.Names.{◌≡◌, ℕ, Bool, true, if◌then◌else◌, List, None, Ok, Err, Command, Schema, Trees, Row, understood, reads_listing, is_select, if_select, listing_schema, State, CommitsShowing, is_selection, selects, IsSelect, arith, ints, nat_tests}
use Rattle.sqlite_ast.specs.declared.Statement.{Statement}
use Rattle.sqlite_syntax.specs.declared.statement.Parsed.{Parsed}
use Rattle.sqlite_resolve.specs.Compile.{first, planned, meaning, returning, small, with_command, compiled}
use Rattle.sqlite_resolve.specs.declared.compiled.Compiled.{Compiled}
use Rattle.sqlite_resolve.specs.Lowering.{Checked, and_then}

-- where the text compiles, it shows nothing of what it writes
abbrev pub ReturnsNothing : Checked Compiled → Type 0
ReturnsNothing (Ok c) = c.returning ≡ None
ReturnsNothing (Err e) = Unit {0}

selection_returns : (schema : Schema) (base : ℕ) (s : Statement) → is_selection s ≡ true → returning schema base s ≡ Ok None
unfolding returning
selection_returns schema base s is = grind (arith, ints, nat_tests)

left_none : (formats : List (List ℕ)) (p : Parsed) (c : Checked Command)
    → ReturnsNothing (and_then (and_then (and_then c (λ c. Ok (c, None))) (λ found. Ok (formats, found))) (λ plan. Ok (with_command p plan)))
left_none formats p c = grind (arith, ints, nat_tests)

planned_returns : (schema : Schema) (p : Parsed) → is_selection p.statement ≡ true → ReturnsNothing (and_then (planned schema p) (λ plan. Ok (with_command p plan)))
unfolding planned meaning
planned_returns schema p is = grind (arith, ints, nat_tests, small, and_then, selection_returns, left_none)

parsed_returns : (schema : Schema) (r : Checked Parsed) → selects r ≡ true → ReturnsNothing (and_then r (λ p. and_then (planned schema p) (λ plan. Ok (with_command p plan))))
parsed_returns schema r is = grind (arith, ints, nat_tests, planned_returns)

compiled_returns : (schema : Schema) (sql : List ℕ) → IsSelect sql → ReturnsNothing (compiled schema sql)
unfolding compiled
compiled_returns schema sql is = parsed_returns schema (first sql) is

either_returns : (b : Bool) (x y : Checked Compiled) → ReturnsNothing x → ReturnsNothing y → ReturnsNothing (if b then x else y)
either_returns b x y p q = grind (arith, ints, nat_tests)

listed_returns : (r : Checked Compiled) → ReturnsNothing r → ReturnsNothing (if_select r)
listed_returns r none = grind (arith, ints, nat_tests, either_returns, is_select)

pub select_returns : (schema : Schema) (sql : List ℕ) → IsSelect sql → ReturnsNothing (understood schema sql)
unfolding understood
select_returns schema sql is =
    either_returns (reads_listing schema sql) (if_select (compiled listing_schema sql)) (compiled schema sql) (listed_returns (compiled listing_schema sql) (compiled_returns listing_schema sql is)) (compiled_returns schema sql is)

-- so it commits nothing
pub select_commits : (sql : List ℕ) (params : Row) (s : State) (db : Trees) → IsSelect sql → ¬ CommitsShowing sql params s db
unfolding CommitsShowing
select_commits sql params s db is h = grind (arith, ints, nat_tests, select_returns)

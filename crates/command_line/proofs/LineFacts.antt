-- What a parse of the program's own command line says.
use Rattle.command_line.proofs.Names.{◌≡◌, ◌≢◌, ◌∙◌, sym, refl, true, ℕ, List, Option, Some, None, IfErr, IfOk, Result, option_map, option_and_then, codes, App, Row, Text, fault_of, first_of, found_of, is_simple, is_simple_and_free, kind_of, rows_of, subcommand_name_of, subcommand_rows_of, ErrorKind, ArgMatches, first_value, Found, clap_on_literals, first_value-rows, day_of, Gives, IsParse, IsRefused, IsTask, LeavesNoPlan, MeetsTask, Means, MeansNothing, db_rule, fault_by, operand_rule, options_app, quiet_rule, all_commands, program, today_rule, Task, arith, ints, nat_tests}
use Rattle.clap.specs.Kinds.{FailsBy}
use Rattle.clap.specs.Simple.{HasMatchesOf}
use Rattle.clap.specs.declared.error.Error.{Error}
use Rattle.clap.specs.declared.error.kind.ErrorKind.TheVariants as kind
use Rattle.std.specs.Result.{IsErrAnd}
use Rattle.command_line.specs.declared.command.CliFault.{CliFault}

pub is_simple_program : is_simple program ≡ true
unfolding clap_on_literals program options_app today_rule db_rule quiet_rule operand_rule all_commands
is_simple_program = refl

pub is_free_program : is_simple_and_free program ≡ true
unfolding clap_on_literals program options_app today_rule db_rule quiet_rule operand_rule all_commands
is_free_program = refl

-- words that are refused by an error other than want of memory mean nothing
none-means : (words : List Text) (k : ErrorKind) → k ≢ kind.OutOfMemory → IsRefused words k → MeansNothing words
none-means words k memory is today task says = grind (arith, ints, nat_tests)

pair-parts : {X Y : Type 0} (o : Option (X × Y)) (x : X) (y : Y) → option_map (λ q. q.0) o ≡ Some x → option_map (λ q. q.1) o ≡ Some y → o ≡ Some (x, y)
pair-parts o x y e f = grind (arith, ints, nat_tests)

twice : {X Y Z : Type 0} (f : Y → Z) (g : X → Y) (o : Option X) → option_map f (option_map g o) ≡ option_map (λ x. f (g x)) o
twice f g o = grind (arith, ints, nat_tests)

-- the name of the command that a parse met, also beside its rows
name_in_rows : (m : ArgMatches) → option_map (λ (q : Text × List Row). q.0) (subcommand_rows_of m) ≡ subcommand_name_of m
name_in_rows m = twice _ _ _

-- the command that a parse met, by its name and its values
pub met : (m : ArgMatches) (name : Text) (values : List Row) → subcommand_name_of m ≡ Some name → option_map (λ (q : Text × List Row). q.1) (subcommand_rows_of m) ≡ Some values
    → subcommand_rows_of m ≡ Some (name, values)
met m name values n v = pair-parts (subcommand_rows_of m) name values (name_in_rows m ∙ n) v

-- what a parse of this command line returned
pub parsed : (a : App) (words : List Text) (r : Result ArgMatches Error) → a ≡ program → (is_simple_and_free a ≡ true → FailsBy (fault_of a words) r)
    → IfOk r (HasMatchesOf a words) → IfOk r (IsParse words) × IfErr r (λ e. IsRefused words (kind_of e))
parsed a words r same kinds has =
    grind (arith, ints, nat_tests, is_simple, is_simple_program, fault_of, is_simple_and_free, is_free_program)

given : (rows rows2 : List Row) (met met2 : Option (Text × List Row)) (today : ℕ) (task : Task) → rows ≡ rows2 → met ≡ met2 → Gives rows met today task → Gives rows2 met2 today task
given rows rows2 met met2 today task r n g = grind (arith, ints, nat_tests, option_and_then, day_of, codes)

-- what the values of a parse give is what the words mean
pub means : (words : List Text) (m : ArgMatches) → IsParse words m → (today : ℕ) (task : Task) → Gives (rows_of (found_of m)) (subcommand_rows_of m) today task
    → Means words today task
means words m parse today task g = grind (arith, ints, nat_tests, given)

-- and the other way round
pub gives : (words : List Text) (m : ArgMatches) → IsParse words m → (today : ℕ) (task : Task) → Means words today task
    → Gives (rows_of (found_of m)) (subcommand_rows_of m) today task
gives words m parse today task says = given _ _ _ _ today task (sym parse.values) (sym parse.met) says.gives

-- words that are refused leave no plan
leaves : (words : List Text) (k : ErrorKind) (fault : CliFault) → IsRefused words k → fault ≡ fault_by k → LeavesNoPlan words fault
leaves words k fault is e = grind (arith, ints, nat_tests, none-means, fault_by)

pub leaves-by : {T : Type 0} (words : List Text) (k : ErrorKind) (r : Result T CliFault) → IsRefused words k → IsErrAnd r (λ fault. fault ≡ fault_by k)
    → IfErr r (LeavesNoPlan words)
leaves-by words k r is e = grind (arith, ints, nat_tests, leaves)

-- the value of an argument, among the rows of a parse
pub first-given : {o : Option Text} (f : Found) (id : Text) → o ≡ first_value f id → first_of id (rows_of f) ≡ o
first-given f id is = sym (first_value-rows f id) ∙ sym is

-- the command that was met, and the task that it is
pub meets : (m : Option (Text × List Row)) (name : Text) (values : List Row) (task : Task) → m ≡ Some (name, values) → IsTask name values task → MeetsTask m task
meets m name values task e h = rw e h

pub unmet : (m : Option (Text × List Row)) (task : Task) → None ≡ option_map (λ (q : Text × List Row). q.1) m → MeetsTask m task → ⊥
unmet m task e h = grind (arith, ints, nat_tests)

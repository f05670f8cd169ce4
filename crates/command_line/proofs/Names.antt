-- The names that the proofs of this crate cite, passed on from one place. Declares nothing.
unfoldable pub use Rattle.clap.proofs.OnLiterals.{clap_on_literals}
pub use Rattle.clap.proofs.WalkLemmas.{first_value-rows}
pub use Rattle.clap.specs.Matches.{first_value}
pub use Rattle.clap.specs.Words.{App, Row, Rule, Text, app_of, fault_of, first_of, found_of, is_simple, is_simple_and_free, kind_of, matches_of, new_app, rows_of, rule_of, subcommand_name_of, subcommand_of, subcommand_rows_of, with_rule, with_subcommand}
pub use Rattle.clap.specs.declared.error.kind.ErrorKind.{ErrorKind}
pub use Rattle.clap.specs.declared.parser.matches.ArgMatches.{ArgMatches}
pub use Rattle.clap.specs.declared.parser.matches.Found.{Found}
pub use Rattle.std.proofs.Common.{Bool, IfErr, IfNone, IfOk, IfSome, List, None, Ok, Option, Result, Some, [], add-one, ap, ap₂, arith, codes, drop, drop-cons, false, find, get_or, inl, inr, length, map, min, option_and_then, option_map, refl, rules, slice_get, subst, suc, sym, take, true, ℕ, ◌+◌, ◌<◌, ◌^◌, ◌||◌, ◌∙◌, ◌≡◌, ◌≢◌}
pub use Rattle.std.proofs.lemmas.Option.{slice_get-get_or, slice_get-map}
pub use Rattle.std.proofs.lemmas.Slice.Eq.{bytes_eq-Decides}
pub use Rattle.std.specs.Borrow.{Bor}
pub use Rattle.std.specs.List.{list_any}
pub use Rattle.std.specs.Option.{option_or}
pub use Rattle.std.specs.Str.{bytes_eq}
pub use Rattle.trust_base.specs.Texts.{day_of}
pub use Rattle.command_line.specs.Advice.{HasCommand, HasWrongValue, IsFront, IsRepeated, IsStray, IsStrayed, IsTakenSoFar, IsWrong, IsWrongValue, LacksValue, LacksValueAt, Names, front_by, last_setting, names_day, setting_named}
pub use Rattle.command_line.specs.Numerals.{IsNumberBetween}
pub use Rattle.command_line.specs.Program.{FailsAs, Gives, IsParse, IsRefused, IsTask, LeavesNoPlan, Means, MeansCheck, MeansNothing, MeetsTask, app_called, command_app, fault_by, task_command, task_text, with_commands, with_operands, words_of}
unfoldable pub use Rattle.command_line.specs.Program.{db_rule, operand_rule, options_app, program, quiet_rule, today_rule}
pub use Rattle.command_line.specs.Table.{command_text}
unfoldable pub use Rattle.command_line.specs.Table.{all_commands}
pub use Rattle.command_line.specs.declared.command.Task.{Task}
pub use Rattle.command_line.specs.declared.faults.Front.{Front}
pub use Rattle.std.proofs.lemmas.Bool.Decides.{nat_tests}
pub use Rattle.std.proofs.lemmas.Int.{ints}

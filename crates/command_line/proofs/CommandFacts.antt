-- The names of commands, and the tasks that they name.
use Rattle.command_line.proofs.Names.{◌≡◌, ◌∙◌, ◌+◌, ◌<◌, sym, ap, suc, add-one, arith, all_commands, Bool, false, ℕ, Option, None, Some, List, bytes_eq, drop, drop-cons, find, get_or, length, Row, Text, IsTask, command_text, task_command, Task}
use Rattle.std.specs.Prelude.{if◌then◌else◌}
use Rattle.command_line.specs.Commands.{IsTaskOf}
use Rattle.command_line.specs.declared.table.CommandName.{CommandName}

-- the command has this name
abbrev pub is_called : Text → CommandName → Bool
is_called name command = bytes_eq (command_text command) name

-- the command with this name
abbrev pub named : Text → Option CommandName
named name = find (is_called name) all_commands

-- each command has a name of its own, and is among them all
named-back : (command : CommandName) → named (command_text command) ≡ Some command
unfolding all_commands
named-back command = grind arith

-- a command without the name is passed over
pub named-more : (name : Text) (items : List CommandName) (i : ℕ) (d : CommandName) → i < length items
    → is_called name (get_or items i d) ≡ false → find (is_called name) (drop i items) ≡ find (is_called name) (drop (i + 1) items)
named-more name items i d within unlike = rw add-one
    (ap (find (is_called name)) (drop-cons items i d within)
    ∙ ap (λ (b : Bool). if b then Some (get_or items i d) else find (is_called name) (drop (suc i) items)) unlike)

-- a name that no command has
pub unnamed : (name : Text) → named name ≡ None → (command : CommandName) → name ≡ command_text command → ⊥
unnamed name none command is = let e : Some command ≡ None = sym (named-back command) ∙ sym (ap named is) ∙ none in cc

-- no two commands have one name
one_command : (a b : CommandName) → command_text a ≡ command_text b → a ≡ b
one_command a b same = let e : Some a ≡ Some b = sym (named-back a) ∙ ap named same ∙ named-back b in cc

-- the task of a command is that of its name
pub by_name : (name : Text) (command : CommandName) (values : List Row) (task : Task) → name ≡ command_text command → IsTaskOf command values task
    → IsTask name values task
by_name name command values task called is = record {
  named = called ∙ sym (ap command_text is.command_is);
  operands = is.operands;
}

-- and the other way round
pub of_name : (name : Text) (command : CommandName) (values : List Row) (task : Task) → name ≡ command_text command → IsTask name values task
    → IsTaskOf command values task
of_name name command values task called is = record {
  command_is = one_command _ _ (sym is.named ∙ called);
  operands = is.operands;
}

-- a name that is no command's is that of no task
pub uncalled : (name : Text) (values : List Row) → ((command : CommandName) → name ≡ command_text command → ⊥) → (task : Task) → IsTask name values task → ⊥
uncalled name values unlike task is = unlike (task_command task) is.named

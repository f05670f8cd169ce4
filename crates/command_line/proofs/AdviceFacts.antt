-- What is wrong with words, by the errors of the parser on them and on their fronts.
use Rattle.command_line.proofs.Names.{arith, ◌≡◌, ◌≢◌, ◌∙◌, ◌+◌, ◌<◌, ◌||◌, inl, ap, sym, refl, subst, Bool, ℕ, List, [], Option, Some, None, IfNone, IfSome, get_or, length, min, option_map, slice_get, take, slice_get-get_or, slice_get-map, list_any, option_or, Row, Text, fault_of, found_of, matches_of, rows_of, subcommand_of, subcommand_rows_of, ErrorKind, ArgMatches, clap_on_literals, Bor, HasCommand, HasWrongValue, IsFront, IsRepeated, IsStrayed, IsStray, IsTakenSoFar, IsWrong, IsWrongValue, LacksValue, LacksValueAt, Names, front_by, last_setting, names_day, setting_named, command_text, FailsAs, IsParse, IsRefused, db_rule, operand_rule, options_app, program, quiet_rule, all_commands, today_rule, words_of, Front, ints, nat_tests}
use Rattle.std.proofs.lemmas.List.{get_or-map, length-map, take-map, take_min}
use Rattle.std.proofs.lemmas.List.Folds.{list_any_more}
use Rattle.std.proofs.lemmas.List.Sums.{fold_more}
use Rattle.clap.specs.declared.error.kind.ErrorKind.TheVariants as kind
use Rattle.command_line.specs.declared.advice.Setting.{Setting}
use Rattle.command_line.specs.declared.table.CommandName.{CommandName}
use Rattle.command_line.specs.declared.advice.Wrong.{Wrong}
use Rattle.command_line.specs.declared.faults.Front.TheVariants as fronts

-- without words a command is wanted
pub none-taken : FailsAs [] kind.MissingSubcommand
unfolding clap_on_literals program options_app today_rule db_rule quiet_rule operand_rule all_commands
none-taken = inl refl

-- a wrong value of a parse is one of the words
pub has-wrong-value : (words : List Text) (m : ArgMatches) (w : Wrong) → IsParse words m → IsWrongValue (rows_of (found_of m)) (subcommand_rows_of m) w
    → HasWrongValue words w
has-wrong-value words m w parse value = grind (arith, ints, nat_tests, subcommand_of, program, rows_of, found_of)

-- how far the command line takes words
pub front-fits : (words : List Text) (f : Option ErrorKind) → IfNone f (fault_of program words ≡ []) → IfSome f (IsRefused words)
    → IsFront words (front_by f)
front-fits words f n s = grind (arith, ints, nat_tests)

-- words that do not stray, repeat no option and do not fail otherwise are taken so far
so-far : (words : List Text) (front : Front) → front ≢ fronts.Strays → front ≢ fronts.Repeats → front ≢ fronts.Fails → IsFront words front → IsTakenSoFar words
so-far words front s r f h = grind (arith, ints, nat_tests)

-- a front of the words, as the front of their texts
abbrev front-of : List (Bor (List ℕ)) → ℕ → List Text
front-of words i = take i (words_of words)

front-is : (words : List (Bor (List ℕ))) (i : ℕ) (P : List Text → Type 0) → P (words_of (take i words)) → P (front-of words i)
front-is words i P h = subst P (sym (take-map _ i words)) h

word-at : (words : List (Bor (List ℕ))) (i : ℕ) (d : Bor (List ℕ)) → i < length words → slice_get (words_of words) i ≡ Some (get_or words i d).now
word-at words i d less = slice_get-map (λ (s : Bor (List ℕ)). s.now) words i ∙ ap (option_map (λ (s : Bor (List ℕ)). s.now)) (slice_get-get_or words i d less)

pub still-taken : (words : List (Bor (List ℕ))) (i : ℕ) (front : Front) → front ≢ fronts.Strays → front ≢ fronts.Repeats → front ≢ fronts.Fails
    → IsFront (words_of (take (i + 1) words)) front → IsTakenSoFar (front-of words (i + 1))
still-taken words i front s r f h = front-is words (i + 1) IsTakenSoFar (so-far _ front s r f h)

pub stray : (words : List (Bor (List ℕ))) (i : ℕ) (d : Bor (List ℕ)) (front : Front) → i < length words → IsTakenSoFar (front-of words i)
    → front ≡ fronts.Strays → IsFront (words_of (take (i + 1) words)) front → IsStray (words_of words) (get_or words i d).now
stray words i d front less before e h = record {
  place = i;
  stands = word-at words i d less;
  before = before;
  refused = front-is words (i + 1) IsStrayed (rw e at h);
}

-- the option that was named last is given again
pub repeated : (words : List (Bor (List ℕ))) (i : ℕ) (front : Front) (setting : Setting) → IsTakenSoFar (front-of words i) → front ≡ fronts.Repeats
    → IsFront (words_of (take (i + 1) words)) front → Some setting ≡ last_setting (words_of (take (i + 1) words)) → IsRepeated (words_of words) setting
repeated words i front setting before e h named = record {
  place = i;
  before = before;
  refused = front-is words (i + 1) (λ w. FailsAs w kind.ArgumentConflict) (rw e at h);
  named = front-is words (i + 1) (λ w. last_setting w ≡ Some setting) (sym named);
}

-- the option that was named last has no value
pub lacks-at : (words : List (Bor (List ℕ))) (i next : ℕ) → next ≡ min (i + 2) (length words) → FailsAs (words_of (take i words)) kind.MissingSubcommand
    → FailsAs (words_of (take (i + 1) words)) kind.InvalidValue → FailsAs (words_of (take next words)) kind.InvalidValue → LacksValueAt (words_of words) i
lacks-at words i next is before wanted left = record {
  before = front-is words i (λ w. FailsAs w kind.MissingSubcommand) before;
  wanted = front-is words (i + 1) (λ w. FailsAs w kind.InvalidValue) wanted;
  left = front-is words (i + 2) (λ w. FailsAs w kind.InvalidValue)
      (subst (λ (w : List (Bor (List ℕ))). FailsAs (words_of w) kind.InvalidValue) (ap (λ (k : ℕ). take k words) is ∙ take_min (i + 2) words) left);
}

pub lacks-value : (words : List (Bor (List ℕ))) (i : ℕ) (o : Option Setting) → LacksValueAt (words_of words) i → o ≡ last_setting (words_of (take (i + 1) words))
    → IfSome o (LacksValue (words_of words))
lacks-value words i None at named = tt
lacks-value words i (Some setting) at named = record {
  place = i;
  lacks = at;
  named = front-is words (i + 1) (λ w. last_setting w ≡ Some setting) (sym named);
}

pub names : (words : List (Bor (List ℕ))) (i : ℕ) (d : Bor (List ℕ)) (front : Front) (command : CommandName) → i < length words → FailsAs (front-of words i) kind.MissingSubcommand
    → front ≡ fronts.Met → IsFront (words_of (take (i + 1) words)) front → (get_or words i d).now ≡ command_text command → Names (words_of words) command
names words i d front command less wanted e h name = record {
  place = i;
  stands = word-at words i d less ∙ ap Some name;
  wanted = wanted;
  met = front-is words (i + 1) HasCommand (rw e at h);
}

pub wants-command : (words : List (Bor (List ℕ))) (i : ℕ) (front : Front) → front ≡ fronts.WantsCommand → IsFront (words_of (take (i + 1) words)) front
    → FailsAs (front-of words (i + 1)) kind.MissingSubcommand
wants-command words i front e h = front-is words (i + 1) (λ w. FailsAs w kind.MissingSubcommand) (rw e at h)

-- another word is looked at
pub day-named-more : (words : List (Bor (List ℕ))) (i : ℕ) (d : Bor (List ℕ)) (so_far here : Bool) → i < length words → so_far ≡ list_any names_day (front-of words i)
    → here ≡ names_day (get_or words i d).now → (so_far || here) ≡ list_any names_day (front-of words (i + 1))
day-named-more words i d so_far here less so is =
    let text : Bor (List ℕ) → Text = λ s. s.now in
    let within : i < length (words_of words) = rw (length-map words text) less in
    let at : names_day (get_or (words_of words) i []) ≡ here = ap names_day (get_or-map text words i d [] less) ∙ sym is in
    ap (λ (b : Bool). b || here) so ∙ sym (ap (λ (b : Bool). list_any names_day (front-of words i) || b) at)
    ∙ sym (list_any_more names_day (words_of words) i [] within)

-- another word may name an option
pub named-more : (words : List (Bor (List ℕ))) (i : ℕ) (d : Bor (List ℕ)) (before here : Option Setting) → i < length words → before ≡ last_setting (front-of words i)
    → here ≡ setting_named (get_or words i d).now → option_or here before ≡ last_setting (front-of words (i + 1))
named-more words i d before here less so is =
    let text : Bor (List ℕ) → Text = λ s. s.now in
    let within : i < length (words_of words) = rw (length-map words text) less in
    let at : setting_named (get_or (words_of words) i []) ≡ here = ap setting_named (get_or-map text words i d [] less) ∙ sym is in
    grind (arith, ints, nat_tests, option_or, fold_more, setting_named, words_of)

-- a wrong value is wrong
pub value-wrong : (words : List Text) (w : Wrong) → HasWrongValue words w → IsWrong words w
value-wrong words w h = by (subcommand_of program words) w h h.value
  where
    by : (met : Option (Text × List Row)) (w : Wrong) → HasWrongValue words w
        → IsWrongValue (matches_of program words) met w → IsWrong words w
    by None w h value = grind (arith, h, value)
    by (Some met) w h value = grind (arith, h, value)

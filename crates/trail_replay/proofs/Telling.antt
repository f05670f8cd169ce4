-- What an act tells of an entry that is not there, and the entries of a matter in memory.
use Rattle.std.proofs.Common.{List, None, Option, Some, [], ap, arith, eqb, refl, true, ℕ, ◌∙◌, ◌≡◌}
use Rattle.std.proofs.lemmas.Bool.Decides.{nat_tests}
use Rattle.std.proofs.lemmas.Bool.{false≢true}
use Rattle.matter_rows.specs.declared.act.Act.{Act}
use Rattle.matter_rows.specs.declared.act.Deed.{Deed}
use Rattle.matter_rows.specs.declared.act.Deed.TheVariants as deed
use Rattle.matter_rows.specs.declared.entry.Entry.{Entry}
use Rattle.matter_rows.specs.Rows.{Rows, entry_at}
use Rattle.matter_parts.proofs.AllKept.{whole-all}
use Rattle.matter_parts.proofs.Parts.{held-entry}
use Rattle.matter_parts.specs.Audit.{rows_kept}
use Rattle.matter_parts.specs.Parts.{IsWhole, Part, entries_kept, entry_in, is_held_or_none, kept_at}
use Rattle.trust_matter.specs.Laws.{Doing}
use Rattle.trail_laws.specs.Replayed.{of_entry, of_found, own_by_deed}
use Rattle.std.specs.Str.{chars, is_utf8}
use Rattle.trust_base.specs.BankTexts.{is_line_text}
use Rattle.trail_replay.specs.Telling.{is_of_entry}

pub whole-holds : (m : Part) (rows : Rows) (n : ℕ) → IsWhole m rows → is_held_or_none m n ≡ true
whole-holds m rows n whole = grind (arith, nat_tests, eqb, (whole-all m rows whole n))

pub whole-entry : (m : Part) (n : ℕ) → IsWhole m (rows_kept m)
    → entry_in (kept_at m n) ≡ entry_at (entries_kept m.kept) n
whole-entry m n whole =
    (held-entry m.kept m.figures.entries n (entries_kept m.kept) whole.part.kept whole.part.figures.entries
    (whole-holds m (rows_kept m) n whole)).0

none-told : (made : ℕ → Entry → List Doing) (rows : Rows) (o : Option ℕ) (n : ℕ) → o ≡ Some n
    → entry_at rows.entries n ≡ None → of_entry made rows o ≡ []
none-told made rows o n is none = ap (of_entry made rows) is ∙ ap (of_found made n) none

pub own-none : (m : ℕ) (rows : Rows) (act : Act) (d : Deed) (n : ℕ) → is_of_entry d ≡ true → act.entry ≡ Some n
    → entry_at rows.entries n ≡ None → own_by_deed m rows act d ≡ []
own-none m rows act (deed.Opened lawyer) n of is none = absurd (false≢true of)
own-none m rows act (deed.Seated seat) n of is none = absurd (false≢true of)
own-none m rows act (deed.Unseated person) n of is none = absurd (false≢true of)
own-none m rows act deed.Closed n of is none = absurd (false≢true of)
own-none m rows act d n of is none = none-told _ rows act.entry n is none

pub of-none : (m : ℕ) (rows : Rows) (act : Act) (d : Deed) → is_of_entry d ≡ true → act.entry ≡ None
    → own_by_deed m rows act d ≡ []
of-none m rows act (deed.Opened lawyer) of is = absurd (false≢true of)
of-none m rows act (deed.Seated seat) of is = absurd (false≢true of)
of-none m rows act (deed.Unseated person) of is = absurd (false≢true of)
of-none m rows act deed.Closed of is = absurd (false≢true of)
of-none m rows act d of is = ap (of_entry _ rows) is

-- a line of the bank may have no words
pub empty-words : is_line_text [] ≡ true
unfolding is_line_text is_utf8 chars
empty-words = refl

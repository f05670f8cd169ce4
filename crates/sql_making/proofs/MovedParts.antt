-- How the text falls into its statements. Written by tools/moving-tables.
use Rattle.std.proofs.Common.{[], refl, arith}
use Rattle.sqlite_tied.specs.Compute.{everything}
use Rattle.sql_making.proofs.Parts.{IsFirst}
use Rattle.sql_making.specs.Text.{move_text, heads_made_part, seats_made_part, entries_made_part, acts_made_part, heads_copied_part, seats_copied_part, entries_copied_part, entries_emptied_part, seats_emptied_part, heads_emptied_part, version_set_part, after_heads_made, after_seats_made, after_entries_made, after_acts_made, after_heads_copied, after_seats_copied, after_entries_copied, after_entries_emptied, after_seats_emptied, after_heads_emptied}

pub heads_made_first : IsFirst move_text heads_made_part after_heads_made
unfolding everything
heads_made_first = record { some = omega arith; front = refl; after = refl }

pub seats_made_first : IsFirst after_heads_made seats_made_part after_seats_made
unfolding everything
seats_made_first = record { some = omega arith; front = refl; after = refl }

pub entries_made_first : IsFirst after_seats_made entries_made_part after_entries_made
unfolding everything
entries_made_first = record { some = omega arith; front = refl; after = refl }

pub acts_made_first : IsFirst after_entries_made acts_made_part after_acts_made
unfolding everything
acts_made_first = record { some = omega arith; front = refl; after = refl }

pub heads_copied_first : IsFirst after_acts_made heads_copied_part after_heads_copied
unfolding everything
heads_copied_first = record { some = omega arith; front = refl; after = refl }

pub seats_copied_first : IsFirst after_heads_copied seats_copied_part after_seats_copied
unfolding everything
seats_copied_first = record { some = omega arith; front = refl; after = refl }

pub entries_copied_first : IsFirst after_seats_copied entries_copied_part after_entries_copied
unfolding everything
entries_copied_first = record { some = omega arith; front = refl; after = refl }

pub entries_emptied_first : IsFirst after_entries_copied entries_emptied_part after_entries_emptied
unfolding everything
entries_emptied_first = record { some = omega arith; front = refl; after = refl }

pub seats_emptied_first : IsFirst after_entries_emptied seats_emptied_part after_seats_emptied
unfolding everything
seats_emptied_first = record { some = omega arith; front = refl; after = refl }

pub heads_emptied_first : IsFirst after_seats_emptied heads_emptied_part after_heads_emptied
unfolding everything
heads_emptied_first = record { some = omega arith; front = refl; after = refl }

pub version_set_first : IsFirst after_heads_emptied version_set_part []
unfolding everything
version_set_first = record { some = omega arith; front = refl; after = refl }

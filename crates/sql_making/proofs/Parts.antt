-- How the text that makes the tables falls into its statements. Written by tools/book-tables.
use Rattle.std.proofs.Common.{◌≡◌, ℕ, ◌<◌, List, [], length, take, drop, refl, arith}
use Rattle.sqlite_tied.specs.Compute.{everything}
use Rattle.sqlite.specs.Batch.{first_len}
use Rattle.sql_schema.specs.Making.{schema_text, book_part, matter_part, seat_part, entry_part, journal_part, firm_line_part, exception_part, balance_part, act_part, version_part, after_book, after_matter, after_seat, after_entry, after_journal, after_firm_line, after_exception, after_balance, after_act}

-- a text begins with a statement
pub record IsFirst (text part rest : List ℕ) : Type 0 where
  pub some : 0 < length text
  pub front : take (first_len text) text ≡ part
  pub after : drop (first_len text) text ≡ rest

pub book_first : IsFirst schema_text book_part after_book
unfolding everything
book_first = record { some = omega arith; front = refl; after = refl }

pub matter_first : IsFirst after_book matter_part after_matter
unfolding everything
matter_first = record { some = omega arith; front = refl; after = refl }

pub seat_first : IsFirst after_matter seat_part after_seat
unfolding everything
seat_first = record { some = omega arith; front = refl; after = refl }

pub entry_first : IsFirst after_seat entry_part after_entry
unfolding everything
entry_first = record { some = omega arith; front = refl; after = refl }

pub journal_first : IsFirst after_entry journal_part after_journal
unfolding everything
journal_first = record { some = omega arith; front = refl; after = refl }

pub firm_line_first : IsFirst after_journal firm_line_part after_firm_line
unfolding everything
firm_line_first = record { some = omega arith; front = refl; after = refl }

pub exception_first : IsFirst after_firm_line exception_part after_exception
unfolding everything
exception_first = record { some = omega arith; front = refl; after = refl }

pub balance_first : IsFirst after_exception balance_part after_balance
unfolding everything
balance_first = record { some = omega arith; front = refl; after = refl }

pub act_first : IsFirst after_balance act_part after_act
unfolding everything
act_first = record { some = omega arith; front = refl; after = refl }

pub version_first : IsFirst after_act version_part []
unfolding everything
version_first = record { some = omega arith; front = refl; after = refl }

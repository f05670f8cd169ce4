-- The SQL script that moves the rows of version 1 into the tables of this version, and its statements.
-- Written by tools/moving-tables.
use Rattle.std.specs.Prelude.{ℕ, List, ◌++◌, codes}
use Rattle.sql_schema.specs.Schema.{matter_text, seat_text, entry_text, act_text}

-- each SQL statement with its semicolon
abbrev pub heads_made_part : List ℕ
heads_made_part = matter_text ++ codes ";"

abbrev pub seats_made_part : List ℕ
seats_made_part = codes " " ++ seat_text ++ codes ";"

abbrev pub entries_made_part : List ℕ
entries_made_part = codes " " ++ entry_text ++ codes ";"

abbrev pub acts_made_part : List ℕ
acts_made_part = codes " " ++ act_text ++ codes ";"

abbrev pub heads_copied_part : List ℕ
heads_copied_part =
    codes " INSERT INTO matter_v2 (no, client, opened, closed, last, entries, held, available, disputed, fees, " ++
    codes "claims, pending, purged) SELECT no, client, opened, closed, last, entries, held, available, disputed, " ++
    codes "fees, claims, pending, 0 FROM matter ORDER BY no;"

abbrev pub seats_copied_part : List ℕ
seats_copied_part =
    codes " INSERT INTO seat_v2 (rowid, matter, person, role) SELECT rowid, matter, person, role FROM seat ORDER BY " ++
    codes "rowid;"

abbrev pub entries_copied_part : List ℕ
entries_copied_part =
    codes " INSERT INTO entry_v2 (rowid, matter, no, kind, day, amount, state, fund, of_no, text_a, text_b, text_c, " ++
    codes "day_done, day_undone, day_bank, bank_ref, part, left_now) SELECT rowid, matter, no, kind, day, amount, " ++
    codes "state, fund, of_no, text_a, text_b, text_c, day_done, day_undone, day_bank, bank_ref, part, left_now " ++
    codes "FROM entry ORDER BY rowid;"

abbrev pub entries_emptied_part : List ℕ
entries_emptied_part = codes " DELETE FROM entry;"

abbrev pub seats_emptied_part : List ℕ
seats_emptied_part = codes " DELETE FROM seat;"

abbrev pub heads_emptied_part : List ℕ
heads_emptied_part = codes " DELETE FROM matter;"

abbrev pub version_set_part : List ℕ
version_set_part = codes " UPDATE book SET version = 2"

-- what follows each of them
abbrev pub after_heads_emptied : List ℕ
after_heads_emptied = version_set_part

abbrev pub after_seats_emptied : List ℕ
after_seats_emptied = heads_emptied_part ++ after_heads_emptied

abbrev pub after_entries_emptied : List ℕ
after_entries_emptied = seats_emptied_part ++ after_seats_emptied

abbrev pub after_entries_copied : List ℕ
after_entries_copied = entries_emptied_part ++ after_entries_emptied

abbrev pub after_seats_copied : List ℕ
after_seats_copied = entries_copied_part ++ after_entries_copied

abbrev pub after_heads_copied : List ℕ
after_heads_copied = seats_copied_part ++ after_seats_copied

abbrev pub after_acts_made : List ℕ
after_acts_made = heads_copied_part ++ after_heads_copied

abbrev pub after_entries_made : List ℕ
after_entries_made = acts_made_part ++ after_acts_made

abbrev pub after_seats_made : List ℕ
after_seats_made = entries_made_part ++ after_entries_made

abbrev pub after_heads_made : List ℕ
after_heads_made = seats_made_part ++ after_seats_made

abbrev pub move_text : List ℕ
move_text = heads_made_part ++ after_heads_made

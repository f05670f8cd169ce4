-- What the statements that follow the CREATE TABLEs mean. Written by tools/moving-tables.
use Rattle.std.proofs.Common.{[], ◌∷◌, ℕ, List, map, pos, refl, false}
use Rattle.sqlite_value.specs.declared.value.Value.TheVariants.{Null, Int}
use Rattle.sqlite_value.specs.declared.keys.Collation.TheVariants.{Binary}
use Rattle.sqlite_sql.specs.Query.{Query}
use Rattle.sqlite_sql.specs.Term.{Term, col, lit}
use Rattle.sqlite_schema.specs.declared.command.Source.TheVariants as source
use Rattle.sqlite_schema.specs.declared.command.Command.TheVariants.{Insert, Update, Delete}
use Rattle.sqlite_tied.specs.Compute.{everything}
use Rattle.sqlite.specs.Listing.{understood}
use Rattle.sql_schema.specs.declared.layout.Layout.TheVariants.{Moved}
use Rattle.sql_schema.specs.Schema.{book_schema, matter_place, seat_place, entry_place, book_place}
use Rattle.sql_tables.specs.Picking.{changing, picked}
use Rattle.sql_tables.proofs.Calls.{IsCommand}
use Rattle.sql_making.specs.Text.{heads_copied_part, seats_copied_part, entries_copied_part, entries_emptied_part, seats_emptied_part, heads_emptied_part, version_set_part}

-- the rows of a table in the order of their rowids, as cells behind these
abbrev pub copying : ℕ → List Term → Query
copying tree cells = record (changing tree [] cells) {
  collations = map (λ (t : Term). Binary) (col 1 0 ∷ cells);
  order = (col 1 0, record { collation = Binary; descending = false }) ∷ [];
}

abbrev pub heads_copied_query : Query
heads_copied_query = copying 1 (lit Null ∷ col 1 2 ∷ col 1 3 ∷ col 1 4 ∷ col 1 5 ∷ col 1 6 ∷ col 1 7 ∷ col 1 8 ∷
    col 1 9 ∷ col 1 10 ∷ col 1 11 ∷ col 1 12 ∷ lit (Int (pos 0)) ∷ [])

pub heads_copied_means : IsCommand (book_schema Moved) heads_copied_part
    (Insert (matter_place Moved) (source.Query (record { lets = []; body = heads_copied_query })))
unfolding understood everything
heads_copied_means = record { is = refl; plain = (refl, refl) }

abbrev pub seats_copied_query : Query
seats_copied_query = copying 2 (col 1 1 ∷ col 1 2 ∷ col 1 3 ∷ [])

pub seats_copied_means : IsCommand (book_schema Moved) seats_copied_part
    (Insert (seat_place Moved) (source.Query (record { lets = []; body = seats_copied_query })))
unfolding understood everything
seats_copied_means = record { is = refl; plain = (refl, refl) }

abbrev pub entries_copied_query : Query
entries_copied_query = copying 4 (col 1 1 ∷ col 1 2 ∷ col 1 3 ∷ col 1 4 ∷ col 1 5 ∷ col 1 6 ∷ col 1 7 ∷ col 1 8 ∷
    col 1 9 ∷ col 1 10 ∷ col 1 11 ∷ col 1 12 ∷ col 1 13 ∷ col 1 14 ∷ col 1 15 ∷ col 1 16 ∷ col 1 17 ∷ [])

pub entries_copied_means : IsCommand (book_schema Moved) entries_copied_part
    (Insert (entry_place Moved) (source.Query (record { lets = []; body = entries_copied_query })))
unfolding understood everything
entries_copied_means = record { is = refl; plain = (refl, refl) }

pub entries_emptied_means : IsCommand (book_schema Moved) entries_emptied_part
    (Delete 3 (record { lets = []; body = picked 4 [] }))
unfolding understood everything
entries_emptied_means = record { is = refl; plain = (refl, refl) }

pub seats_emptied_means : IsCommand (book_schema Moved) seats_emptied_part
    (Delete 2 (record { lets = []; body = picked 2 [] }))
unfolding understood everything
seats_emptied_means = record { is = refl; plain = (refl, refl) }

pub heads_emptied_means : IsCommand (book_schema Moved) heads_emptied_part
    (Delete 1 (record { lets = []; body = picked 1 [] }))
unfolding understood everything
heads_emptied_means = record { is = refl; plain = (refl, refl) }

abbrev pub version_set_query : Query
version_set_query = changing 0 [] (col 1 0 ∷ lit (Int (pos 2)) ∷ [])

pub version_set_means : IsCommand (book_schema Moved) version_set_part
    (Update (book_place Moved) (record { lets = []; body = version_set_query }))
unfolding understood everything
version_set_means = record { is = refl; plain = (refl, refl) }

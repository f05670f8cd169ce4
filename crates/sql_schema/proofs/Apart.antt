-- A schema is not that of two kinds of books.
use Rattle.sql_schema.proofs.Names.{◌≢◌, [], map, length, slice_index_or, ap, arith}
use Rattle.sqlite_schema.specs.declared.schema.Table.{Table}
use Rattle.sqlite_schema.specs.declared.schema.Schema.{Schema}
use Rattle.sql_schema.specs.declared.layout.Layout.{Layout}
use Rattle.sql_schema.specs.declared.layout.Layout.TheVariants.{Made, Moved}
use Rattle.sql_schema.specs.Bare.{bare_schema}
use Rattle.sql_schema.specs.Schema.{book_schema}
use Rattle.sql_schema.specs.Old.{old_schema}

-- the name of the second table tells them apart
pub never_both : (l : Layout) → old_schema ≢ book_schema l
never_both Made h = omega (arith, ap (λ (s : Schema). length (slice_index_or (map (λ (t : Table). t.name) s.tables) 1 [])) h)
never_both Moved h = omega (arith, ap (λ (s : Schema). length s.tables) h)

-- the number of the tables does
pub bare_or_now : (l k : Layout) → bare_schema l ≢ book_schema k
bare_or_now Made Made h = omega (arith, ap (λ (s : Schema). length s.tables) h)
bare_or_now Made Moved h = omega (arith, ap (λ (s : Schema). length s.tables) h)
bare_or_now Moved Made h = omega (arith, ap (λ (s : Schema). length s.tables) h)
bare_or_now Moved Moved h = omega (arith, ap (λ (s : Schema). length s.tables) h)

pub bare_or_old : (l : Layout) → old_schema ≢ bare_schema l
bare_or_old Made h = omega (arith, ap (λ (s : Schema). length (slice_index_or (map (λ (t : Table). t.name) s.tables) 1 [])) h)
bare_or_old Moved h = omega (arith, ap (λ (s : Schema). length s.tables) h)

pub neither : (s : Schema) → s ≢ book_schema Made → s ≢ book_schema Moved → (l : Layout) → s ≢ book_schema l
neither s made moved Made = made
neither s made moved Moved = moved

pub neither_bare : (s : Schema) → s ≢ bare_schema Made → s ≢ bare_schema Moved → (l : Layout) → s ≢ bare_schema l
neither_bare s made moved Made = made
neither_bare s made moved Moved = moved

pub ruleset apart = (never_both, bare_or_now, bare_or_old)

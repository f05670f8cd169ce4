use Rattle.sql_book.proofs.Names.{rules, ◌≡◌, ◌∷◌, [], subst, sym, to_z, of_z, w64, state, versions_in, book_schema, HeldBook, at}
use Rattle.sqlite_value.specs.declared.value.Value.TheVariants.{Int}
use Rattle.sql_book.proofs.book.SqlBook.version.Goals as goal

pub returns-in-Ok-Some-clause-is : goal.returns-in-Ok-Some-clause-is
returns-in-Ok-Some-clause-is g c sure =
    let found = c.in-Ok-Some.version in
    let l = c.self.inside.layout in
    let same : to_z w64 (of_z w64 found) ≡ found = search rules in
    subst (λ (b : HeldBook _). (at g.S.Store b).now.schema ≡ book_schema b.layout
    → versions_in b.layout (at g.S.Store b).now.trees ≡ Int (to_z w64 (of_z w64 found)) ∷ []) c.self.view_is
    (λ has. subst (λ v. versions_in l (state g.S.Store c.self.inside.conn).now.trees ≡ Int v ∷ []) (sym same)
    ((c.in-Ok-Some.ensures.is l sure has found).0 c.in-Ok-Some.field-0-is))

use Rattle.day_sheet.proofs.Names.{◌≡◌, ◌∷◌, [], Bor, List, Option, ℕ, arith, find, map, option_map, refl, rules, tests}
use Rattle.std.specs.Str.{bytes_eq}
use Rattle.std.proofs.lemmas.Iterator.{YieldsList-from_slice}
use Rattle.std.proofs.lemmas.Iterator.Search.{find_from_yields_List}
use Rattle.day_sheet.specs.Records.{form_in, forms}
use Rattle.day_sheet.specs.declared.record.VerbForm.{VerbForm}
use Rattle.day_sheet.proofs.record.form_of.Goals as goal

-- the first row with a name has the first form with that name
form-found : (name : List ℕ) (rows : List VerbForm) (found : Option (Bor VerbForm)) → option_map (λ row. row.now) found ≡ find (λ row. bytes_eq name row.name.now) rows
    → option_map (λ row. form_in row.now) found ≡ find (λ f. bytes_eq name f.name) (map form_in rows)
form-found name [] found is = grind arith
form-found name (row ∷ rows) found is = grind (arith, form-found name rows found)

pub returns : goal.returns
unfolding forms
returns c =
    let name = c.field_bytes-name.result.now in
    let found = find_from_yields_List (λ row. bytes_eq name row.name.now) _ _ c.find.result c.find.ensures.ran (YieldsList-from_slice _ refl) (λ x b q k. search (rules, tests)) in
    rw (← c.field_bytes-name.ensures) (rw c.iter.ensures.rest at (form-found name c.iter.result.rest.now c.find.result found))

-- What a replay has made so far.
use Rattle.std.proofs.Common.{Bool, List, [], ap, arith, drop, false, length, subst, suc, sym, take, true, ℕ, ◌+◌, ◌++◌, ◌<◌, ◌∙◌, ◌≡◌, ◌∷◌}
use Rattle.std.proofs.Math.Seq.{split_at, take-append-add}
use Rattle.std.proofs.lemmas.List.{length-take}
use Rattle.std.specs.Prelude.{get_or}
use Rattle.matter_rows.specs.declared.act.Act.{Act}
use Rattle.matter_rows.specs.Rows.{Rows}
use Rattle.matter_parts.specs.Audit.{rows_kept}
use Rattle.matter_parts.specs.Parts.{Part}
use Rattle.trust_matter.specs.Laws.{Doing}
use Rattle.trail_replay.specs.Follows.{Follow, IsNext, rows_along, rows_next}
use Rattle.trail_replay.specs.Telling.{AreTaken}

pub follow-more : (own : Act → List Doing) (rows end : Rows) (acts : List Act) (act : Act) → Follow own rows acts end
    → IsNext own end act → Follow own rows (acts ++ act ∷ []) (rows_next own end act)
follow-more own rows end [] act follow next =
    (subst (λ (r : Rows). IsNext own r act) (sym follow) next, ap (λ (r : Rows). rows_next own r act) follow)
follow-more own rows end (first ∷ acts) act follow next =
    (follow.0, follow-more own (rows_next own rows first) end acts act follow.1 next)

pub along-is : (own : Act → List Doing) (rows end : Rows) (acts : List Act) → Follow own rows acts end
    → rows_along own rows acts ≡ end
along-is own rows end [] follow = follow
along-is own rows end (first ∷ acts) follow = along-is own (rows_next own rows first) end acts follow.1

pub acts-split : (acts : List Act) (place : ℕ) (act : Act) → place < length acts → act ≡ get_or acts place act
    → acts ≡ take place acts ++ act ∷ drop (suc place) acts
acts-split acts place act within is =
    split_at acts place act within
    ∙ ap (λ (a : Act). take place acts ++ a ∷ drop (suc place) acts) (sym is)

pub take-more : (acts : List Act) (place : ℕ) (act : Act) → place < length acts → act ≡ get_or acts place act
    → take (place + 1) acts ≡ take place acts ++ act ∷ []
take-more acts place act within is =
    let long : length (take place acts) ≡ place =
    let short = length-take place acts in grind (arith, short) in
    ap (take (place + 1)) (acts-split acts place act within is)
    ∙ (ap (λ (n : ℕ). take (n + 1) (take place acts ++ act ∷ drop (suc place) acts)) (sym long)
    ∙ take-append-add (take place acts) (act ∷ drop (suc place) acts) 1)

pub taken : (own : Act → List Doing) (old new : Part) (act : Act) (is : Bool) → is ≡ true → AreTaken old own act is new
    → AreTaken old own act true new
taken own old new act is so are = subst (λ (b : Bool). AreTaken old own act b new) so are

pub not-taken : (own : Act → List Doing) (old new : Part) (act : Act) (is : Bool) → is ≡ false
    → AreTaken old own act is new → ¬ IsNext own (rows_kept old) act
not-taken own old new act is so are = subst (λ (b : Bool). AreTaken old own act b new) so are

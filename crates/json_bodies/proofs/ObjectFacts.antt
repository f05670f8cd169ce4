-- An object's tokens and its text.
use Rattle.json_bodies.proofs.Names.{◌≡◌, ◌∷◌, ◌++◌, ◌∙◌, [], List, ℕ, ap, append_assoc, map, refl, sym, items_outline, members_outline, Data, Kept, Seat, items_of, kept_object, members_of, object_of, seat_object, value_tokens}
use Rattle.json_bodies.specs.Json.{members_between}
use Rattle.matter_rows.specs.declared.act.Act.{Act}
use Rattle.json_bodies.specs.Acts.{act_object}
use Rattle.json.specs.Token.{Token}
use Rattle.json.specs.Tree.{items_tokens, members_tokens}

-- the tokens of these seats and of the end of their array
abbrev pub seats_rest : List Seat → List Token
seats_rest ss = items_tokens (items_outline (items_of (map seat_object ss)))

-- the tokens of these entries of a matter and of the end of their array
abbrev pub entries_rest : ℕ → List Kept → List Token
entries_rest m ks = items_tokens (items_outline (items_of (map (kept_object m) ks)))

-- the tokens of these acts and of the end of their array
abbrev pub acts_rest : List Act → List Token
acts_rest acts = items_tokens (items_outline (items_of (map act_object acts)))

members-all : (ms : List (List ℕ × Data)) → members_tokens (members_outline (members_of ms)) ≡ members_between ms ++ Token.end_object ∷ []
members-all [] = refl
members-all (m ∷ ms) = ap (λ t. Token.key m.0 ∷ (value_tokens m.1 ++ t)) (members-all ms) ∙ ap (λ t. Token.key m.0 ∷ t) (sym (append_assoc (value_tokens m.1) (members_between ms) (Token.end_object ∷ [])))

-- an object is written as its bracket, its members and its bracket
pub object_written : (old begun told new : List Token) (ms : List (List ℕ × Data)) → begun ≡ old ++ Token.begin_object ∷ [] → told ≡ begun ++ members_between ms → new ≡ told ++ Token.end_object ∷ [] → new ≡ old ++ value_tokens (object_of ms)
object_written old begun told new ms first middle last =
    last
    ∙ ap (λ t. t ++ Token.end_object ∷ []) middle
    ∙ ap (λ t. (t ++ members_between ms) ++ Token.end_object ∷ []) first
    ∙ ap (λ t. t ++ Token.end_object ∷ []) (append_assoc old (Token.begin_object ∷ []) (members_between ms))
    ∙ append_assoc old (Token.begin_object ∷ members_between ms) (Token.end_object ∷ [])
    ∙ ap (λ t. old ++ Token.begin_object ∷ t) (sym (members-all ms))

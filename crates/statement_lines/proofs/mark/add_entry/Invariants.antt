use Rattle.statement_lines.proofs.Names.{◌≡◌, ◌++◌, ◌∷◌, ℕ, map, take, text_key, reference_mark}
use Rattle.statement_lines.proofs.mark.add_entry.Given as goal

abbrev pub invariant-loop-number : goal.invariant-loop-number
invariant-loop-number l =
    l.marks.items
    ≡ l.fn.marks.items
    ++ map {B = ℕ × ℕ} (λ mark. (mark, l.place))
    (reference_mark l.entry.reference ∷ map (text_key 0) (take l.number-index l.number-items))

use Rattle.statement_match.proofs.Names.{◌≡◌, ◌∙◌, Bool, ap, ◌==◌, rules, option_map, find, is_held, day_key, elements, BookEntry, find_both, find_elements}
use Rattle.statement_match.proofs.FirstDay.{day_of_found}
use Rattle.statement_match.proofs.entry_index.EntryIndex.same_day.Goals as goal

pub returns : goal.returns
returns c =
    let held : BookEntry → Bool = λ e. is_held e.state in
    let number : c.from.result ≡ c.args.day = search rules in
    let found = rw (number, c.self.view_is) at (ap elements c.at.ensures ∙ c.self.invariant.days_found c.from.result) in
    c.day_held.ensures
    ∙ day_of_found (find (λ e. is_held e.1.now.state) c.at.result.now)
    ∙ ap (option_map (λ (e : BookEntry). e.day))
    (find_elements held c.at.result.now ∙ ap (find held) found
    ∙ find_both held (λ e. day_key e == c.args.day) c.args.self.now)

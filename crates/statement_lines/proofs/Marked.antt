-- The marks of a line and of the entries that it shows.
use Rattle.statement_lines.proofs.Names.{◌≡◌, refl, ℕ, ◌+◌, ◌-◌, ◌<◌, ◌≤◌, List, [], ◌∷◌, ◌++◌, length, get_or, drop, take, append_assoc, append-nil, drop_all, drop_more, take_rest, text_key, marks_at, marks_from, window_marks, BookEntry}

-- The steps of the loops.

pub windows_more : (text : List ℕ) (i : ℕ) (marks : List ℕ) → i < length text
    → marks ++ window_marks (drop i text)
    ≡ (marks ++ text_key 0 (take 12 (take (length text - i) (drop i text))) ∷ []) ++ window_marks (drop (i + 1) text)
unfolding window_marks
windows_more text i marks lt = rw (append_assoc, take_rest text i, drop_more text i 0 lt) refl

pub windows_done : (text : List ℕ) (i : ℕ) (marks : List ℕ) → length text ≤ i
    → marks ++ window_marks (drop i text) ≡ marks
unfolding window_marks
windows_done text i marks past = rw (drop_all i text past) (append-nil marks)

pub marks_more : (entries : List BookEntry) (i : ℕ) (d : BookEntry) (marks : List (ℕ × ℕ)) → i < length entries
    → marks ++ marks_from i (drop i entries)
    ≡ (marks ++ marks_at i (get_or entries i d)) ++ marks_from (i + 1) (drop (i + 1) entries)
unfolding marks_from
marks_more entries i d marks lt = rw (append_assoc, drop_more entries i d lt) refl

pub marks_done : (entries : List BookEntry) (i : ℕ) (marks : List (ℕ × ℕ)) → length entries ≤ i
    → marks ++ marks_from i (drop i entries) ≡ marks
unfolding marks_from
marks_done entries i marks past = rw (drop_all i entries past) (append-nil marks)

pub ruleset window_steps = (windows_more, windows_done)

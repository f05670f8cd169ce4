-- The steps of the loops over the records of a statement.
use Rattle.statement_match.proofs.Names.{own_before, own_with, fold_more, ◌≡◌, ◌∙◌, sym, ap, ℕ, ◌+◌, ◌-◌, ◌<◌, ◌≤◌, List, [], ◌∷◌, ◌++◌, length, get_or, drop, append_assoc, append-nil, arith, at_drop_more, drop_all, get_or-map, Line, Records, Known, LineOutcome, becomes, outcomes, reason_for, told_by, told_from, told_of_line, told_unreadable, UnmatchedRecord, ints, nat_tests}
use Rattle.firm_rows.specs.declared.ledger.FirmLine.{FirmLine}
use Rattle.statement_match.specs.declared.unmatched.UnmatchedRecord.TheVariants as looked_at

-- Unreadable records.

pub unreadable_more : (before last : ℕ) (told : List UnmatchedRecord) → before < last
    → told ++ told_unreadable before (last - before)
    ≡ (told ++ looked_at.Unreadable (before + 1) ∷ []) ++ told_unreadable (before + 1) (last - (before + 1))
unfolding told_unreadable
unreadable_more before last told lt = grind (arith, ints, nat_tests, told_unreadable, append_assoc)

pub unreadable_done : (before last : ℕ) (told : List UnmatchedRecord) → last ≤ before
    → told ++ told_unreadable before (last - before) ≡ told
unfolding told_unreadable
unreadable_done before last told past = grind (arith, ints, nat_tests, told_unreadable, append-nil)

-- The records.

pub told_more : (today : ℕ) (known : Known) (own : List FirmLine) (records : Records) (before i : ℕ) (lines : List Line)
    (d : Line) (told : List UnmatchedRecord) → i < length lines
    → told ++ told_from today known own records before i (drop i lines)
    ≡ ((told ++ told_unreadable before (get_or records.numbers i 0 - 1 - before))
    ++ told_of_line today known (own_before today own records.lines i) records (get_or records.numbers i 0)
    (get_or lines i d))
    ++ told_from today known own records (get_or records.numbers i 0) (i + 1) (drop (i + 1) lines)
unfolding told_from
told_more today known own records before i lines d told lt =
    let number = get_or records.numbers i 0 in
    let gap = told_unreadable before (number - 1 - before) in
    let here = told_of_line today known (own_before today own records.lines i) records number (get_or lines i d) in
    let rest = told_from today known own records number (i + 1) (drop (i + 1) lines) in
    ap (λ ts. told ++ ts) (at_drop_more (told_from today known own records before i) lines i d lt)
    ∙ sym (append_assoc told gap (here ++ rest))
    ∙ sym (append_assoc (told ++ gap) here rest)

pub told_done : (today : ℕ) (known : Known) (own : List FirmLine) (records : Records) (before i : ℕ) (lines : List Line)
    (told : List UnmatchedRecord) → length lines ≤ i
    → told ++ told_from today known own records before i (drop i lines)
    ≡ told ++ told_unreadable before (records.count - before)
unfolding told_from
told_done today known own records before i lines told past =
    ap (λ ls. told ++ told_from today known own records before i ls) (drop_all i lines past)

-- one record more, by what becomes of each line
pub told_step : (today : ℕ) (known : Known) (own then : List FirmLine) (records : Records) (os : List LineOutcome)
    (before i number : ℕ) (line : Line) (o : LineOutcome) (told new : List UnmatchedRecord) → i < length records.lines
    → then ≡ own_before today own records.lines i
    → os ≡ outcomes today known.held records.lines → number ≡ get_or records.numbers i 0
    → line ≡ get_or records.lines i line → o ≡ get_or os i o
    → new ≡ (told ++ told_unreadable before (number - 1 - before))
    ++ told_by number line (reason_for today known then records line o)
    → told ++ told_from today known own records before i (drop i records.lines)
    ≡ new ++ told_from today known own records number (i + 1) (drop (i + 1) records.lines)
told_step today known own then records os before i number line o told new lt then_is same number_is line_is o_is new_is =
    grind (arith, ints, nat_tests, becomes, get_or, get_or-map, told_more)

-- the firm's own ledger after one line more
pub own_step : (today : ℕ) (own : List FirmLine) (lines : List Line) (i : ℕ) (line : Line) → i < length lines
    → line ≡ get_or lines i line
    → own_with today (own_before today own lines i) line ≡ own_before today own lines (i + 1)
own_step today own lines i line lt is =
    ap (own_with today (own_before today own lines i)) is ∙ sym (fold_more (own_with today) own lines i line lt)

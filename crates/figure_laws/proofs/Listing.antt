-- What a lister keeps are the lists.
use Rattle.figure_laws.proofs.Names.{◌≡◌, ℕ, Bool, true, false, cond, List, [], ◌∷◌, ◌++◌, sym, ◌∙◌, append_assoc, append-nil, nat_le, fold, if◌then◌else◌, filter, flat_map, Line, EntryLine, Row, booked_on, is_in_transit, is_outstanding, line_where, early_lines, transit_list, out_list, early_list, Listed, none_listed, with_row_listed, with_exception_listed, ListsKept}

-- the three lists with more at the end of each
abbrev more : Listed → List EntryLine → List EntryLine → List EntryLine → Listed
more s t o y = record s { transit = s.transit ++ t; out = s.out ++ o; early = s.early ++ y }

same : (s : Listed) → s ≡ more s [] [] []
same s = λ i. record s { transit = sym (append-nil s.transit) i; out = sym (append-nil s.out) i; early = sym (append-nil s.early) i }

again : (s : Listed) (t o y t' o' y' : List EntryLine) → more (more s t o y) t' o' y' ≡ more s (t ++ t') (o ++ o') (y ++ y')
again s t o y t' o' y' = λ i. record s { transit = append_assoc s.transit t t' i; out = append_assoc s.out o o' i; early = append_assoc s.early y y' i }

rows-listed : (s : Listed) (xs : List (ℕ × Row)) → fold with_row_listed s xs ≡ more s (flat_map (line_where (is_in_transit s.day) booked_on) xs) (flat_map (line_where (is_outstanding s.day) booked_on) xs) (flat_map (early_lines s.day) xs)
rows-listed s [] = same s
rows-listed s (x ∷ xs) =
    let t = line_where (is_in_transit s.day) booked_on x in
    let o = line_where (is_outstanding s.day) booked_on x in
    let y = early_lines s.day x in
    rows-listed (more s t o y) xs
    ∙ again s t o y (flat_map (line_where (is_in_transit s.day) booked_on) xs) (flat_map (line_where (is_outstanding s.day) booked_on) xs) (flat_map (early_lines s.day) xs)

exceptions-listed : (s : Listed) (ls : List Line) → fold with_exception_listed s ls ≡ record s { exceptions = s.exceptions ++ filter (λ l. nat_le l.date s.day) ls }
exceptions-listed s [] = λ i. record s { exceptions = sym (append-nil s.exceptions) i }
exceptions-listed s (l ∷ ls) = cases (nat_le l.date s.day) (λ z. exceptions-listed z ls)
  where
    cases : (b : Bool) → ((z : Listed) → fold with_exception_listed z ls ≡ record z { exceptions = z.exceptions ++ filter (λ l. nat_le l.date z.day) ls }) → fold with_exception_listed (if b then record s { exceptions = s.exceptions ++ l ∷ [] } else s) ls ≡ record s { exceptions = s.exceptions ++ cond b (l ∷ filter (λ l. nat_le l.date s.day) ls) (filter (λ l. nat_le l.date s.day) ls) }
    cases true rest = rest (record s { exceptions = s.exceptions ++ l ∷ [] }) ∙ (λ i. record s { exceptions = append_assoc s.exceptions (l ∷ []) (filter (λ l. nat_le l.date s.day) ls) i })
    cases false rest = rest s

pub lists-kept : ListsKept
lists-kept p firm = search (rows-listed, none_listed, exceptions-listed, transit_list, out_list, early_list)

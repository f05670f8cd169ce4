-- What the sink of a firm's trail stores is its text, and says whether it begins late.
use Rattle.std.proofs.Common.{◌≡◌, ℕ, Bool, true, false, cond, List, [], ◌∷◌, ◌++◌, Some, None, refl, sym, ap, ◌∙◌, append_assoc, append-nil, arith, filter, flat_map, fold, map}
use Rattle.std.proofs.lemmas.Bool.Decides.{nat_tests}
use Rattle.std.proofs.lemmas.List.Sums.{sum_by-cons}
use Rattle.std.specs.Prelude.{◌==◌, ◌+◌, ◌&&◌, ◌||◌, codes, count_by, nat_lt, not}
use Rattle.std.specs.List.{list_any}
use Rattle.matter_rows.specs.Rows.{is_gone}
use Rattle.trail_laws.specs.Signed.{begins_with_opening, is_opened_by}
use Rattle.firm_rows.specs.declared.dismissal.Dismissal.{Dismissal}
use Rattle.firm_rows.specs.declared.matter_act.MatterAct.{MatterAct}
use Rattle.firm_rows.specs.Firm.{EntryRow, Firm, HeadRow, Row, SeatRow, acts_of}
use Rattle.firm_audit.specs.Trails.{is_earlier_row}
use Rattle.trust_reports.specs.Texts.{heading}
use Rattle.trust_reports.specs.TextsOfActs.{act_line, dismissal_line, earlier_text, trail_text}
use Rattle.book_reports.specs.declared.trail_sink.ActNote.{ActNote}
use Rattle.book_reports.specs.FirmTrails.{TrailKept, first_noted, is_late, is_older, matter_there, note_of, nothing_told, trail_kept, with_act_told, with_dismissal_told, with_matter_there, with_note}
use Rattle.book_reports.specs.Reports.{begins_late}
unfoldable use Rattle.book_reports.specs.Reports.{trail_report}

-- What is stored.

acts-kept : (s : TrailKept) (acts : List MatterAct) → fold with_act_told s acts ≡ record { lines = s.lines ++ flat_map act_line acts; notes = s.notes ++ map note_of acts; matters = s.matters }
acts-kept s [] = λ i. record { lines = sym (append-nil s.lines) i; notes = sym (append-nil s.notes) i; matters = s.matters }
acts-kept s (a ∷ acts) =
    acts-kept (with_act_told s a) acts
    ∙ (λ i. record { lines = append_assoc s.lines (act_line a) (flat_map act_line acts) i; notes = append_assoc s.notes (note_of a ∷ []) (map note_of acts) i; matters = s.matters })

rows-kept : (s : TrailKept) (rows : List (ℕ × Row)) → fold with_matter_there s rows ≡ record { lines = s.lines; notes = s.notes; matters = s.matters ++ flat_map matter_there rows }
rows-kept s [] = λ i. record { lines = s.lines; notes = s.notes; matters = sym (append-nil s.matters) i }
rows-kept s (row ∷ rows) =
    rows-kept (with_matter_there s row) rows
    ∙ (λ i. record { lines = s.lines; notes = s.notes; matters = append_assoc s.matters (matter_there row) (flat_map matter_there rows) i })

dismissals-kept : (s : TrailKept) (ds : List Dismissal) → fold with_dismissal_told s ds ≡ record { lines = s.lines ++ flat_map dismissal_line ds; notes = s.notes; matters = s.matters }
dismissals-kept s [] = λ i. record { lines = sym (append-nil s.lines) i; notes = s.notes; matters = s.matters }
dismissals-kept s (d ∷ ds) =
    dismissals-kept (with_dismissal_told s d) ds
    ∙ (λ i. record { lines = append_assoc s.lines (dismissal_line d) (flat_map dismissal_line ds) i; notes = s.notes; matters = s.matters })

-- the lines of a firm, its notes and its matters
abbrev all_told : Firm → TrailKept
all_told firm = record {
  lines = flat_map act_line firm.acts ++ flat_map dismissal_line firm.dismissals;
  notes = map note_of firm.acts;
  matters = flat_map matter_there firm.rows;
}

all-kept : (firm : Firm) → trail_kept firm ≡ all_told firm
all-kept firm =
    ap (λ s. fold with_dismissal_told (fold with_matter_there s firm.rows) firm.dismissals) (acts-kept nothing_told firm.acts)
    ∙ (ap (λ s. fold with_dismissal_told s firm.dismissals) (rows-kept _ firm.rows)
    ∙ dismissals-kept _ firm.dismissals)

-- Whether it begins late.

-- the first note is not undone
noted : (m : ℕ) (opening : Bool) (notes : List ActNote) → fold (with_note m) (Some opening) notes ≡ Some opening
noted m opening [] = refl
noted m opening (note ∷ notes) = noted m opening notes

older-noted : (m : ℕ) (acts : List MatterAct) → is_older (first_noted m (map note_of acts)) ≡ not (begins_with_opening (map (λ a. a.act) (filter (λ a. a.matter == m) acts)))
older-noted m [] = refl
older-noted m (a ∷ acts) = cases (a.matter == m) (older-noted m acts)
  where
    others : List MatterAct
    others = filter (λ a. a.matter == m) acts

    cases : (b : Bool) → is_older (first_noted m (map note_of acts)) ≡ not (begins_with_opening (map (λ a. a.act) others))
        → is_older (fold (with_note m) (cond b (Some (is_opened_by a.act.deed)) None) (map note_of acts)) ≡ not (begins_with_opening (map (λ a. a.act) (cond b (a ∷ others) others)))
    cases true rest = ap is_older (noted m (is_opened_by a.act.deed) (map note_of acts))
    cases false rest = rest

more-than-none : (b : Bool) (n : ℕ) → (b || nat_lt 0 n) ≡ nat_lt 0 (cond b 1 0 + n)
more-than-none true n = grind (arith, nat_tests)
more-than-none false n = let same : n ≡ 0 + n = omega arith in ap (nat_lt 0) same

-- there is one if at least one is counted
some-counted : {A : Type 0} (p : A → Bool) (xs : List A) → list_any p xs ≡ nat_lt 0 (count_by p xs)
some-counted p [] = refl
some-counted p (x ∷ xs) =
    ap (λ some. p x || some) (some-counted p xs)
    ∙ (more-than-none (p x) (count_by p xs) ∙ ap (nat_lt 0) (sym (sum_by-cons (λ y. cond (p y) 1 0) x xs)))

older-there : (firm : Firm) (rows : List (ℕ × Row))
    → list_any (λ m. is_older (first_noted m (map note_of firm.acts))) (flat_map matter_there rows) ≡ list_any (λ p. is_earlier_row (acts_of p.0 firm) p.1) rows
older-there firm [] = refl
older-there firm ((m, HeadRow h) ∷ rows) = cases (is_gone (Some h)) (older-there firm rows)
  where
    late : Bool
    late = not (begins_with_opening (acts_of m firm))

    older : Bool
    older = list_any (λ m. is_older (first_noted m (map note_of firm.acts))) (flat_map matter_there rows)

    earlier : Bool
    earlier = list_any (λ p. is_earlier_row (acts_of p.0 firm) p.1) rows

    cases : (b : Bool) → older ≡ earlier
        → list_any (λ m. is_older (first_noted m (map note_of firm.acts))) (cond b [] (m ∷ []) ++ flat_map matter_there rows) ≡ ((not b && late) || earlier)
    cases true others = others
    cases false others = ap (λ o. o || older) (older-noted m firm.acts) ∙ ap (λ o. late || o) others
older-there firm ((m, SeatRow seat) ∷ rows) = older-there firm rows
older-there firm ((m, EntryRow n e) ∷ rows) = older-there firm rows

-- The text.

all-lines : (h e acts ds : List ℕ) → (h ++ (e ++ [])) ++ (acts ++ ds) ≡ h ++ (e ++ (acts ++ ds))
all-lines h e acts ds = simp (append_assoc, append-nil)

pub trail-told : (today : ℕ) (firm : Firm) (kept : TrailKept) (late : Bool) (text : List ℕ)
    → kept ≡ trail_kept firm → late ≡ is_late kept → text ≡ trail_text today late [] [] ++ kept.lines
    → text ≡ trail_report today firm
unfolding trail_report
trail-told today firm kept late text is found told =
    let all : kept ≡ all_told firm = is ∙ all-kept firm in
    let begins : late ≡ begins_late firm = found ∙ (ap is_late all ∙ (older-there firm firm.rows ∙ some-counted (λ p. is_earlier_row (acts_of p.0 firm) p.1) firm.rows)) in
    told
    ∙ ((λ i. trail_text today (begins i) [] [] ++ (all i).lines)
    ∙ all-lines (heading (codes "TRAIL") today) (earlier_text (begins_late firm)) (flat_map act_line firm.acts) (flat_map dismissal_line firm.dismissals))

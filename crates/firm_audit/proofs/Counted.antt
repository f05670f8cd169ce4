-- How many entries pass a test that is given the acts of their matter.
use Rattle.firm_audit.proofs.Names.{◌≡◌, ℕ, ◌+◌, ◌<◌, Bool, List, [], ◌∷◌, ◌++◌, length, take, get_or, Option, Some, None, cond, refl, sym, ap, ◌∙◌, arith, AllByRecursion, pairs, Kept, AreNumbered, entries_kept, KeptMatter, rows_kept, joined, IsKeptWhole}
use Rattle.std.specs.Prelude.{count_by, is_some, min, not, option_to_list, ◌&&◌, ◌-◌, ◌^◌}
use Rattle.std.specs.List.{sum_by}
use Rattle.std.proofs.lemmas.List.Sums.{sum_by-append, sum_by-cons, sum_by_more}
use Rattle.matter_rows.specs.declared.act.Act.{Act}
use Rattle.matter_rows.specs.declared.entry.Entry.{Entry}
use Rattle.matter_rows.specs.declared.head.Head.{Head}
use Rattle.matter_rows.specs.declared.seat.Seat.{Seat}
use Rattle.firm_rows.specs.declared.matter_act.MatterAct.{MatterAct}
use Rattle.firm_rows.specs.Firm.{EntryRow, Row, entry_pairs, head_pairs, seat_pairs}
use Rattle.trail_laws.specs.Signed.{days_of_approval, days_of_issue}
use Rattle.firm_audit.specs.Trails.{AreCountedAll, AreCountedOn, acts_among, all_with, earlier_among, has_day, is_approved_issue, is_earlier_issue, is_earlier_matter, is_earlier_row, kept_with, passes}
use Rattle.firm_audit.specs.declared.trail.TrailCounts.{TrailCounts}

-- Over the joined rows.

module _ (test : List Act → ℕ → Entry → Bool) (own : ℕ → List Act) where
  abbrev counts : ℕ × Row → Bool
  counts p = passes (test (own p.0)) p.1

  append : (xs ys : List (ℕ × Row)) → count_by counts (xs ++ ys) ≡ count_by counts xs + count_by counts ys
  append xs ys = sum_by-append (λ x. cond (counts x) 1 0) xs ys

  no-head : (m : ℕ) (head : Option Head) → count_by counts (head_pairs m head) ≡ 0
  no-head m None = omega arith
  no-head m (Some head) = omega arith

  no-seats : (m : ℕ) (seats : List Seat) → count_by counts (seat_pairs m seats) ≡ 0
  no-seats m [] = omega arith
  no-seats m (seat ∷ seats) = omega (arith, no-seats m seats)

  each-entry : (m i : ℕ) (ks : List Kept) → AreNumbered i ks → count_by counts (entry_pairs m i (entries_kept ks)) ≡ kept_with test (own m) ks
  each-entry m i [] numbered = omega arith
  each-entry m i (k ∷ ks) numbered =
      let more = each-entry m (i + 1) ks numbered.1 in
      let here : cond (test (own m) i k.entry) 1 0 + count_by counts (entry_pairs m (i + 1) (entries_kept ks)) ≡ cond (test (own m) k.number k.entry) 1 0 + kept_with test (own m) ks = cc in
      sum_by-cons (λ x. cond (counts x) 1 0) (m, EntryRow i k.entry) (entry_pairs m (i + 1) (entries_kept ks))
      ∙ (here ∙ sym (sum_by-cons (λ x. cond (test (own m) x.number x.entry) 1 0) k ks))

  of-matter : (k : KeptMatter) → IsKeptWhole k → count_by counts (pairs k.number (rows_kept k.matter)) ≡ kept_with test (own k.number) k.matter.kept
  of-matter k whole =
      omega (arith, append (head_pairs k.number k.matter.head) (seat_pairs k.number k.matter.seats ++ entry_pairs k.number 1 (entries_kept k.matter.kept)), append (seat_pairs k.number k.matter.seats) (entry_pairs k.number 1 (entries_kept k.matter.kept)), no-head k.number k.matter.head, no-seats k.number k.matter.seats, each-entry k.number 1 k.matter.kept whole.whole.numbered)

  pub counted-joined : (ks : List KeptMatter) → AllByRecursion IsKeptWhole ks → count_by counts (joined ks) ≡ sum_by (λ k. kept_with test (own k.number) k.matter.kept) ks
  counted-joined [] all = omega arith
  counted-joined (k ∷ ks) all =
      omega (arith, append (pairs k.number (rows_kept k.matter)) (joined ks), of-matter k all.0, counted-joined ks all.1, sum_by-cons (λ (x : KeptMatter). kept_with test (own x.number) x.matter.kept) k ks)

-- Matters that are older than their acts.

module _ (own : ℕ → List Act) where
  abbrev is_earlier : ℕ × Row → Bool
  is_earlier p = is_earlier_row (own p.0) p.1

  earlier-append : (xs ys : List (ℕ × Row)) → count_by is_earlier (xs ++ ys) ≡ count_by is_earlier xs + count_by is_earlier ys
  earlier-append xs ys = sum_by-append (λ x. cond (is_earlier x) 1 0) xs ys

  of-head : (m : ℕ) (head : Option Head) → count_by is_earlier (head_pairs m head) ≡ cond (is_earlier_matter (own m) head) 1 0
  of-head m None = omega arith
  of-head m (Some head) = omega arith

  of-seats : (m : ℕ) (seats : List Seat) → count_by is_earlier (seat_pairs m seats) ≡ 0
  of-seats m [] = omega arith
  of-seats m (seat ∷ seats) = omega (arith, of-seats m seats)

  of-entries : (m i : ℕ) (entries : List Entry) → count_by is_earlier (entry_pairs m i entries) ≡ 0
  of-entries m i [] = omega arith
  of-entries m i (e ∷ es) = omega (arith, of-entries m (i + 1) es)

  of-rows : (k : KeptMatter) → count_by is_earlier (pairs k.number (rows_kept k.matter)) ≡ cond (is_earlier_matter (own k.number) k.matter.head) 1 0
  of-rows k =
      omega (arith, earlier-append (head_pairs k.number k.matter.head) (seat_pairs k.number k.matter.seats ++ entry_pairs k.number 1 (entries_kept k.matter.kept)), earlier-append (seat_pairs k.number k.matter.seats) (entry_pairs k.number 1 (entries_kept k.matter.kept)), of-head k.number k.matter.head, of-seats k.number k.matter.seats, of-entries k.number 1 (entries_kept k.matter.kept))

  pub earlier-joined : (ks : List KeptMatter) → count_by is_earlier (joined ks) ≡ count_by (λ (k : KeptMatter). is_earlier_matter (own k.number) k.matter.head) ks
  earlier-joined [] = omega arith
  earlier-joined (k ∷ ks) =
      omega (arith, earlier-append (pairs k.number (rows_kept k.matter)) (joined ks), of-rows k, earlier-joined ks, sum_by-cons (λ (x : KeptMatter). cond (is_earlier_matter (own x.number) x.matter.head) 1 0) k ks)

-- One more.

-- a count that stops at a bound goes on
on-more : (a b s x m : ℕ) (after : ℕ) → a ≡ min (b + s) m → after ≡ min (a + x) m → after ≡ min (b + (s + x)) m
on-more a b s x m after so is = omega arith

kept-more : (test : List Act → ℕ → Entry → Bool) (acts : List Act) (ks : List Kept) (i : ℕ) (k : Kept) → i < length ks → k ≡ get_or ks i k
    → kept_with test acts (take (i + 1) ks) ≡ kept_with test acts (take i ks) + cond (test acts k.number k.entry) 1 0
kept-more test acts ks i k lt is =
    sum_by_more (λ x. cond (test acts x.number x.entry) 1 0) ks i k lt
    ∙ ap (λ (x : Kept). kept_with test acts (take i ks) + cond (test acts x.number x.entry) 1 0) (sym is)

-- a day or none, as a list
pub some-day : (day : Option ℕ) → is_some day ≡ has_day (option_to_list day)
some-day None = refl
some-day (Some day) = refl

-- the next loaded entry is counted, given whether it was issued and whether it was approved
pub entry-more : (acts : List Act) (ks : List Kept) (i : ℕ) (k : Kept) (before counts after : TrailCounts) (issued approved : Bool) → i < length ks → k ≡ get_or ks i k
    → issued ≡ has_day (days_of_issue (Some k.entry)) → approved ≡ has_day (days_of_approval k.number acts)
    → after.approved ≡ min (counts.approved + cond (issued && approved) 1 0) (2 ^ 64 - 1)
    → after.earlier ≡ min (counts.earlier + cond (issued && not approved) 1 0) (2 ^ 64 - 1)
    → after.matters ≡ counts.matters
    → AreCountedOn acts (take i ks) before counts → AreCountedOn acts (take (i + 1) ks) before after
entry-more acts ks i k before counts after issued approved lt is of_issue of_approval more later same so = record {
  approved =
      on-more counts.approved before.approved (kept_with is_approved_issue acts (take i ks)) (cond (is_approved_issue acts k.number k.entry) 1 0) (2 ^ 64 - 1) after.approved so.approved
      (more ∙ (λ j. min (counts.approved + cond (of_issue j && of_approval j) 1 0) (2 ^ 64 - 1)))
      ∙ ap (λ n. min (before.approved + n) (2 ^ 64 - 1)) (sym (kept-more is_approved_issue acts ks i k lt is));
  earlier =
      on-more counts.earlier before.earlier (kept_with is_earlier_issue acts (take i ks)) (cond (is_earlier_issue acts k.number k.entry) 1 0) (2 ^ 64 - 1) after.earlier so.earlier
      (later ∙ (λ j. min (counts.earlier + cond (of_issue j && not (of_approval j)) 1 0) (2 ^ 64 - 1)))
      ∙ ap (λ n. min (before.earlier + n) (2 ^ 64 - 1)) (sym (kept-more is_earlier_issue acts ks i k lt is));
  matters = same ∙ so.matters;
}

all-more : (test : List Act → ℕ → Entry → Bool) (acts : List MatterAct) (ks : List KeptMatter) (i : ℕ) (k : KeptMatter) → i < length ks → k ≡ get_or ks i k
    → all_with test acts (take (i + 1) ks) ≡ all_with test acts (take i ks) + kept_with test (acts_among k.number acts) k.matter.kept
all-more test acts ks i k lt is =
    sum_by_more (λ x. kept_with test (acts_among x.number acts) x.matter.kept) ks i k lt
    ∙ ap (λ (x : KeptMatter). all_with test acts (take i ks) + kept_with test (acts_among x.number acts) x.matter.kept) (sym is)

earlier-more : (acts : List MatterAct) (ks : List KeptMatter) (i : ℕ) (k : KeptMatter) → i < length ks → k ≡ get_or ks i k
    → earlier_among acts (take (i + 1) ks) ≡ earlier_among acts (take i ks) + cond (is_earlier_matter (acts_among k.number acts) k.matter.head) 1 0
earlier-more acts ks i k lt is =
    sum_by_more (λ x. cond (is_earlier_matter (acts_among x.number acts) x.matter.head) 1 0) ks i k lt
    ∙ ap (λ (x : KeptMatter). earlier_among acts (take i ks) + cond (is_earlier_matter (acts_among x.number acts) x.matter.head) 1 0) (sym is)

-- the next matter is counted, and its entries
pub matter-more : (acts : List MatterAct) (ks : List KeptMatter) (i : ℕ) (k : KeptMatter) (counts counted after : TrailCounts) → i < length ks → k ≡ get_or ks i k
    → counted.approved ≡ counts.approved → counted.earlier ≡ counts.earlier
    → counted.matters ≡ min (counts.matters + cond (is_earlier_matter (acts_among k.number acts) k.matter.head) 1 0) (2 ^ 64 - 1)
    → AreCountedAll (take i ks) acts counts → AreCountedOn (acts_among k.number acts) k.matter.kept counted after → AreCountedAll (take (i + 1) ks) acts after
matter-more acts ks i k counts counted after lt is same_approved same_earlier one so on = record {
  approved =
      step (all_with is_approved_issue acts (take i ks)) (kept_with is_approved_issue (acts_among k.number acts) k.matter.kept) counted.approved after.approved (same_approved ∙ so.approved) on.approved
      ∙ ap (λ n. min n (2 ^ 64 - 1)) (sym (all-more is_approved_issue acts ks i k lt is));
  earlier =
      step (all_with is_earlier_issue acts (take i ks)) (kept_with is_earlier_issue (acts_among k.number acts) k.matter.kept) counted.earlier after.earlier (same_earlier ∙ so.earlier) on.earlier
      ∙ ap (λ n. min n (2 ^ 64 - 1)) (sym (all-more is_earlier_issue acts ks i k lt is));
  matters =
      step (earlier_among acts (take i ks)) (cond (is_earlier_matter (acts_among k.number acts) k.matter.head) 1 0) counts.matters after.matters so.matters (on.matters ∙ one)
      ∙ ap (λ n. min n (2 ^ 64 - 1)) (sym (earlier-more acts ks i k lt is));
}
  where
    step : (s x a b : ℕ) → a ≡ min s (2 ^ 64 - 1) → b ≡ min (a + x) (2 ^ 64 - 1) → b ≡ min (s + x) (2 ^ 64 - 1)
    step s x a b so on = omega arith

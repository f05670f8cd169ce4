-- A second match, behind the import of what the first wrote, fills nothing.
use Rattle.desk_laws.proofs.Names.{◌≡◌, ◌≢◌, ◌∙◌, sym, ap, subst, ℕ, zero, Bool, false, List, [], ◌∷◌, ◌++◌, map, get_or, append_assoc, append-nil, Some, refl, arith, Contains, filter, flat_map, list_any, cond-false, or_from, or_parts, Contains-append_right, Contains-get_or, filter-append, Line, Entry, cleared_payment, deposit_by, Edit, changed_by, LineEffect, last_by, line_facts, line_on, told_by, Firm, of, put, FirmSound, IsInOrder, item_of_line, booking_of, is_beside, Waiting, fits, deposit_bookings, entry_bookings, entry_waiting, held_of, own_booking, payment_bookings, row_bookings, row_waiting, HasMatterNumbers, with_reference, written, entry_once, wait_apart, filled_if_sure, sure_of, front_apart, stems, later, by_waiting, after_item, after_items, after_told, AreNameless, SecondMatchFillsNothing, items_of, ints, nat_tests}
use Rattle.std.proofs.lemmas.List.Folds.{list_any-append}
use Rattle.matter_rows.specs.declared.entry.Entry.TheVariants as entry
use Rattle.matter_parts.specs.declared.edit.Edit.TheVariants as edit
use Rattle.trust_matter.specs.declared.line_verdict.LineEffect.TheVariants as told
use Rattle.statement_csv.specs.declared.item.Item.TheVariants as item
use Rattle.statement_match.specs.Rule.{becomes, is_beside_booked}
use Rattle.statement_lines.specs.declared.line_outcome.LineOutcome.TheVariants as outcome
use Rattle.statement_match.proofs.Unfilled.{fits_none, sure_before}
use Rattle.statement_match.proofs.Writing.{written_is_filled}
use Rattle.trust_desk.proofs.AlwaysCovered.{sound-after_items}
use Rattle.desk_laws.proofs.Awaiting.{line_applies}
use Rattle.desk_laws.proofs.Gathered.{put_gathered}
use Rattle.desk_laws.proofs.MatchedAgain.{after_both, filled_is_in_book}
use Rattle.desk_laws.proofs.FilledLines.{IsReady, filled_ready, ready_behind, ready_item, ready_line}

-- An entry that waits, and what a line makes of it.

-- the entry behind the line that it awaits
abbrev cleared : Entry → Line → ℕ → Entry
cleared (entry.Deposit d) line today = entry.Deposit (record d { state = deposit_by line today d.state })
cleared (entry.Payment p) line today = entry.Payment (record p { state = cleared_payment line p.state })
cleared (entry.Fee f) line today = entry.Fee f
cleared (entry.Claim c) line today = entry.Claim c

exchanged : (m n : ℕ) (e : Entry) (w : Waiting) (line : Line) (today : ℕ) → Contains (entry_waiting m n e) w
    → told_by n (Some e) line today ≡ edit.Exchange (record { number = n; entry = cleared e line today })
exchanged m n e w line today waits = grind (arith, ints, nat_tests, by_waiting, told_by, cleared)

-- it waits no longer
done : (m n : ℕ) (e : Entry) (w : Waiting) (line : Line) (today : ℕ) → Contains (entry_waiting m n e) w
    → entry_waiting m n (cleared e line today) ≡ []
done m n e w line today waits = grind (arith, ints, nat_tests, by_waiting, cleared)

-- nothing of it was booked
unbooked : (m n : ℕ) (e : Entry) (w : Waiting) → Contains (entry_waiting m n e) w → entry_bookings e ≡ []
unbooked m n e w waits = grind (arith, ints, nat_tests, by_waiting, entry_bookings, deposit_bookings, payment_bookings)

none_kept : {A : Type 0} (p : A → Bool) (xs : List A) → ((x : A) → Contains xs x → p x ≡ false) → filter p xs ≡ []
none_kept p [] off = refl
none_kept p (x ∷ xs) off =
    cond-false (p x) _ _ (off x (zero, omega arith, refl))
    ∙ none_kept p xs (λ y there. off y (later x y xs there))

-- A line that is ready.

module _ (today : ℕ) (firm : Firm) (x : Line) (w : Waiting) (ready : IsReady today firm x w) where
  abbrev one : Firm
  one = after_item today firm (item.OfMatter (ready_line ready))

  abbrev new : Entry
  new = cleared ready.made x today

  -- the rows behind it, and the firm's own lines
  pub record Written : Type 0 where
    pub last : ℕ
    pub rows : one.rows
        ≡ put ready.matter
        (changed_by (edit.Exchange (record { number = ready.number; entry = new })) last (of ready.matter firm))
        firm.rows
    pub lines : one.firm_lines ≡ firm.firm_lines

  rows_written : Written
  rows_written =
      let l = ready_line ready in
      let day = last_by (line_facts (of ready.matter firm) l today) in
      let is : line_on (of ready.matter firm) l today
      ≡ told.Applied (record {
        edit = edit.Exchange (record { number = ready.number; entry = new });
        last = day;
      }) =
      line_applies (of ready.matter firm) l today ready.made ready.dated ready.stands ready.awaits
      ∙ ap (λ (e : Edit). told.Applied (record { edit = e; last = day }))
      (exchanged ready.matter ready.number ready.made w x today ready.waits) in
      record {
        last = day;
        rows = ap (λ (e : LineEffect). (after_told l today e firm).rows) is;
        lines = ap (λ (e : LineEffect). (after_told l today e firm).firm_lines) is;
      }

  -- what passes a test that the entry does not pass waits in the same order
  waits_still : (p : Waiting → Bool) → IsInOrder firm → p w ≡ false
      → filter p (held_of one).waiting ≡ filter p (held_of firm).waiting
  unfolding held_of
  waits_still p order off =
      let step = rows_written in
      let m = ready.matter in
      let n = ready.number in
      let alone : filter p (entry_waiting m n ready.made) ≡ [] =
      none_kept p (entry_waiting m n ready.made)
      (λ v there. ap p (entry_once m n ready.made v w there ready.waits).0 ∙ off) in
      let entry_same : filter p (entry_waiting m n new) ≡ filter p (entry_waiting m n ready.made) =
      ap (filter p) (done m n ready.made w x today ready.waits) ∙ sym alone in
      let gathered = put_gathered row_waiting (λ a b. filter p a ≡ filter p b) (λ xs. refl)
      (λ a b c d first second. filter-append p a c ∙ (λ i. first i ++ second i) ∙ sym (filter-append p b d))
      m n step.last firm.rows (of m firm) ready.made new ready.stands.there entry_same (λ h g. refl) in
      grind (arith, ints, nat_tests, filter, flat_map, row_waiting)

  -- a line that none of the book is beside then had none beside it before
  apart_before : (line : Line) → IsInOrder firm → is_beside_booked (held_of one) line ≡ false
      → is_beside_booked (held_of firm) line ≡ false
  unfolding held_of
  apart_before line order apart =
      let step = rows_written in
      let m = ready.matter in
      let n = ready.number in
      let p = is_beside (booking_of line) in
      let none : list_any p (entry_bookings ready.made) ≡ false =
      ap (list_any p) (unbooked m n ready.made w ready.waits) in
      let gathered = put_gathered row_bookings (λ a b. list_any p a ≡ false → list_any p b ≡ false) (λ xs off. off)
      (λ a b c d first second off.
      let parts = or_parts (list_any p a) (list_any p c) (sym (list_any-append p a c) ∙ off) in
      list_any-append p b d ∙ or_from (list_any p b) (list_any p d) (first parts.0) (second parts.1))
      m n step.last firm.rows (of m firm) ready.made new ready.stands.there (λ off. none) (λ h g off. off) in
      let own = map own_booking firm.firm_lines in
      let whole =
      sym (λ i. list_any p (flat_map row_bookings (step.rows i) ++ map own_booking (step.lines i))) ∙ apart in
      let parts = or_parts _ (list_any p own) (sym (list_any-append p _ own) ∙ whole) in
      let rows : list_any p (flat_map row_bookings firm.rows) ≡ false =
      sym (ap (λ rs. list_any p (flat_map row_bookings rs)) (order.rows m)) ∙ gathered parts.0 in
      list_any-append p (flat_map row_bookings firm.rows) own
      ∙ or_from (list_any p (flat_map row_bookings firm.rows)) (list_any p own) rows parts.1

-- Line by line.

module _ (today : ℕ) (firm : Firm) (lines : List Line) (line : Line) (sound : FirmSound firm) (numbers : HasMatterNumbers firm) (nameless : AreNameless lines) (there : Contains lines line) (unfilled : (r : List ℕ) → becomes today (held_of firm) lines line ≢ outcome.Filled r) where
  -- what the line fits waits as it did, and no line of the book is beside it that was not
  pub record IsAsBefore (now : Firm) : Type 0 where
    pub same : filter (fits today line) (held_of now).waiting ≡ filter (fits today line) (held_of firm).waiting
    pub apart : is_beside_booked (held_of now) line ≡ false → is_beside_booked (held_of firm) line ≡ false

  abbrev behind : List Line → Firm
  behind front = after_items today firm (items_of 1 front)

  one_more : (front rest : List Line) (x : Line) → written today (held_of firm) lines ≡ front ++ x ∷ rest
      → IsAsBefore (behind front) → IsAsBefore (behind (front ++ x ∷ []))
  one_more front rest x e before =
      let held = held_of firm in
      let x_there : Contains (written today held lines) x =
      subst (λ (ws : List Line). Contains ws x) (sym e)
      (Contains-append_right front (x ∷ rest) x (0, omega arith, refl)) in
      let stem = stems today held lines line x x lines x x_there in
      let other = get_or lines stem.0 line in
      let o_there : Contains lines other = Contains-get_or lines stem.0 line stem.1 in
      let wrote = written_is_filled today held lines other x (nameless.opened other o_there) stem.2 in
      let r = wrote.0 in
      let named = with_reference r other in
      let split : written today held lines ≡ front ++ named ∷ rest = e ∙ ap (λ z. front ++ z ∷ rest) (sym wrote.2) in
      let found = sure_of today held lines other r wrote.1 in
      let w = found.0 in
      let ready = ready_behind today 1 firm named w front
      (filled_ready today firm lines other r w sound numbers found.1 found.2)
      (λ y y_there. front_apart today held lines front rest other y r (wait_apart firm sound numbers) o_there wrote.1
      split y_there) in
      let off = fits_none today held lines line other w there (nameless.opened line there) unfilled o_there found.1 in
      let now = behind front in
      let order = (sound-after_items today firm (items_of 1 front) sound).in_order in
      let cut = after_both today 1 firm front (x ∷ []) in
      let all : behind (front ++ x ∷ []) ≡ one today now named w ready =
      cut.1 ∙ ap (λ z. after_item today now (item_of_line cut.0 z)) (sym wrote.2)
      ∙ ap (after_item today now) (ready_item today cut.0 now named w ready (nameless.from_bank other o_there)) in
      subst IsAsBefore (sym all) (record {
        same = waits_still today now named w ready (fits today line) order off ∙ before.same;
        apart = λ apart. before.apart (apart_before today now named w ready line order apart);
      })

  all_more : (rest front : List Line) → written today (held_of firm) lines ≡ front ++ rest
      → IsAsBefore (behind front) → IsAsBefore (behind (front ++ rest))
  all_more [] front e before = subst (λ (ls : List Line). IsAsBefore (behind ls)) (sym (append-nil front)) before
  all_more (x ∷ rest) front e before =
      let next = append_assoc front (x ∷ []) rest in
      subst (λ (ls : List Line). IsAsBefore (behind ls)) next
      (all_more rest (front ++ x ∷ []) (e ∙ sym next) (one_more front rest x e before))

  pub as_before : IsAsBefore (behind (written today (held_of firm) lines))
  as_before = all_more (written today (held_of firm) lines) [] refl (record { same = refl; apart = λ apart. apart })

pub second_match_fills_nothing : SecondMatchFillsNothing
second_match_fills_nothing today firm lines line reference sound numbers nameless there again =
    let held = held_of firm in
    let after = held_of (after_items today firm (items_of 1 (written today held lines))) in
    let unfilled : (r : List ℕ) → becomes today held lines line ≢ outcome.Filled r = λ r filled.
    let booked = filled_is_in_book today today firm lines line r sound numbers there
    (nameless.from_bank line there) filled in
    let clash : outcome.InBook ≡ outcome.Filled reference = sym booked ∙ again in cc in
    let kept = as_before today firm lines line sound numbers nameless there unfilled in
    let found = sure_of today after lines line reference again in
    let before = sure_before today held after lines line found.0 there kept.same (kept.apart found.1.apart) found.1 in
    unfilled found.0.reference (filled_if_sure today held lines line found.0 before)

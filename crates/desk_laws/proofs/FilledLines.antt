-- Lines that are filled are applied.
use Rattle.desk_laws.proofs.Names.{cond_both, later, eqb-true, ◌≡◌, ◌≢◌, ◌∙◌, sym, ap, subst, ℕ, ◌+◌, ◌<◌, Bool, true, false, not, cond, List, [], ◌∷◌, ◌++◌, length, Some, None, refl, arith, IfSome, nat_le, nat_lt, Contains, int_eq, bytes_eq, and_parts, nat_tests, Line, Rows, Entry, BankLine, line_on, rows_after_line, Firm, of, FirmSound, item_by, item_of_line, Item, Waiting, fits, is_other_business, shows, entry_waiting, held_of, HasMatterNumbers, IsSure, with_reference, written, of_entry, wait_apart, sure_of, front_apart, own_of_item, after_item, after_items, counted_as, counted_of, FilledLinesAreApplied, items_of, solo_rows, ints, found_is_there, found_passes}
use Rattle.std.proofs.Common.{◌==◌, codes}
use Rattle.trust_base.specs.Limits.{IsEntryNo, IsMatterNo}
use Rattle.statement_csv.specs.References.{entry_named, owner_by, owner_of, reference_text}
use Rattle.statement_csv.specs.declared.item.Item.TheVariants as item
use Rattle.statement_csv.proofs.NamedFacts.{named-found, named-text}
use Rattle.statement_lines.specs.declared.line_outcome.LineOutcome.TheVariants as outcome
use Rattle.statement_match.proofs.Writing.{written_is_filled}
use Rattle.statement_match.specs.Rule.{becomes}
use Rattle.trust_desk.specs.declared.importing.Counted.TheVariants as counted
use Rattle.desk_laws.proofs.Awaiting.{Awaits, Stands, entry_awaits, line_applies, line_keeps, sound_stands}
use Rattle.trust_desk.proofs.OwnItems.{of-after_item}

-- The item of a line.

-- a line under an entry's reference is an item of that entry
item_named : (number m n : ℕ) (x : Line) → IsMatterNo m → IsEntryNo n → x.reference ≡ reference_text m n
    → 0 < length x.bank_ref
    → item_of_line number x ≡ item.OfMatter (record { matter = m; entry = n; line = x })
unfolding owner_of
item_named number m n x m_is n_is is bank =
    grind (arith, ints, nat_tests, length, item_by, owner_of, owner_by, named-found)

with_ref : (b : Bool) (number : ℕ) (it : Item) (l : BankLine) → cond b (item.Unreadable number) it ≡ item.OfMatter l
    → it ≡ item.OfMatter l
with_ref b number it l e = grind (arith, ints, nat_tests)

other_owner : {A : Type 0} (f : A → Item) (b : Bool) (x rest : A) (l : BankLine) → (f x ≡ item.OfMatter l → ⊥)
    → f (cond b x rest) ≡ item.OfMatter l → f rest ≡ item.OfMatter l
other_owner f b x rest l none e = grind (arith, ints, nat_tests)

-- the reference of a line that is an item of an entry is that of the entry
named_by : (number : ℕ) (y : Line) (l : BankLine) → item_of_line number y ≡ item.OfMatter l
    → reference_text l.matter l.entry ≡ y.reference
unfolding owner_of
named_by number y l e =
    let bare = length y.bank_ref == 0 in
    let opening = other_owner (item_by number y) (bytes_eq y.reference (codes "OPEN")) _ _ l (λ is. cc) e in
    let closing = other_owner (item_by number y) (bytes_eq y.reference (codes "CLOSE")) _ _ l (λ is. cc) opening in
    let firm = other_owner (item_by number y) (bytes_eq y.reference (codes "FIRM")) _ _ l
    (λ is. let clash = with_ref bare number (item.OfFirm y) l is in cc) closing in
    elim (entry_named y.reference) as (λ o. IfSome o (λ n. reference_text n.matter n.entry ≡ y.reference)
    → item_by number y (owner_by o) ≡ item.OfMatter l → reference_text l.matter l.entry ≡ y.reference) [
      | None ↦ λ told is. absurd (let clash = with_ref bare number (item.Stray y) l is in cc)
      | Some n ↦ λ told is.
          let it = item.OfMatter (record { matter = n.matter; entry = n.entry; line = y }) in
          let same = with_ref bare number it l is in
          let line : record { matter = n.matter; entry = n.entry; line = y } ≡ l = cc in
          sym (ap (λ (k : BankLine). reference_text k.matter k.entry) line) ∙ told
    ] (named-text y.reference) firm

-- What stands before a filled line.

module _ (P : Rows → Type 0) (m today : ℕ) (firm : Firm) where
  -- what holds of a matter's rows, and still does behind the line that the item may be of it
  own_keeps : (it : Item)
      → ((l : BankLine) → it ≡ item.OfMatter l → l.matter ≡ m → P (rows_after_line (of m firm) l today))
      → P (of m firm) → P (solo_rows (of m firm) (own_of_item m today it))
  own_keeps it own now = grind (arith, ints, nat_tests, cond_both, solo_rows, of, eqb-true)

  pub item_keeps : (it : Item)
      → ((l : BankLine) → it ≡ item.OfMatter l → l.matter ≡ m → P (rows_after_line (of m firm) l today))
      → P (of m firm) → P (of m (after_item today firm it))
  item_keeps it own now = subst P (sym (of-after_item m today firm it)) (own_keeps it own now)

-- lines without the entry's reference leave it as it is
pub lines_keep : (m n today number : ℕ) (firm : Firm) (e : Entry) (lines : List Line)
    → ((y : Line) → Contains lines y → y.reference ≢ reference_text m n) → Stands (of m firm) n e
    → Stands (of m (after_items today firm (items_of number lines))) n e
lines_keep m n today number firm e [] other stands = stands
lines_keep m n today number firm e (y ∷ ys) other stands =
    let it = item_of_line number y in
    let own = λ (l : BankLine) (is : it ≡ item.OfMatter l) (m_is : l.matter ≡ m).
    line_keeps (of m firm) l today n e (λ (n_is : l.entry ≡ n).
    other y (0, omega arith, refl) (sym (named_by number y l is) ∙ (λ i. reference_text (m_is i) (n_is i)))) stands in
    lines_keep m n today (number + 1) (after_item today firm it) e ys
    (λ z there. other z (later y z ys there)) (item_keeps (λ rows. Stands rows n e) m today firm it own stands)

-- A filled line.

-- a line fits an entry of its amount, on a day that came
fits_by : (today : ℕ) (line : Line) (w : Waiting) → fits today line w ≡ true
    → (nat_lt today line.date ≡ false) × (line.amount ≡ w.amount)
unfolding fits
fits_by today line w fit =
    grind (arith, ints, nat_tests, and_parts, shows, not, is_other_business, nat_le, int_eq, nat_lt)

-- a line under the reference of an entry that awaits it, as this one that waits, and of a day that came
pub record IsReady (today : ℕ) (firm : Firm) (x : Line) (w : Waiting) : Type 0 where
  pub matter : ℕ
  pub number : ℕ
  pub made : Entry
  pub is_matter : IsMatterNo matter
  pub is_number : IsEntryNo number
  pub is : x.reference ≡ reference_text matter number
  pub dated : nat_lt today x.date ≡ false
  pub stands : Stands (of matter firm) number made
  pub waits : Contains (entry_waiting matter number made) w
  pub awaits : Awaits made x

-- a line that is filled is ready
pub filled_ready : (today : ℕ) (firm : Firm) (lines : List Line) (line : Line) (reference : List ℕ) (w : Waiting)
    → FirmSound firm → HasMatterNumbers firm → IsSure today (held_of firm) lines line w → reference ≡ w.reference
    → IsReady today firm (with_reference reference line) w
filled_ready today firm lines line reference w sound numbers sure is =
    let there = found_is_there (fits today line) (held_of firm).waiting w sure.fits_it in
    let named = of_entry firm w sound numbers there in
    let facts = fits_by today line w (found_passes (fits today line) (held_of firm).waiting w sure.fits_it) in
    grind (arith, ints, nat_tests, sound_stands, of, entry_awaits, with_reference)

-- and stays so behind lines with other references
pub ready_behind : (today number : ℕ) (firm : Firm) (x : Line) (w : Waiting) (lines : List Line)
    → IsReady today firm x w → ((y : Line) → Contains lines y → y.reference ≢ x.reference)
    → IsReady today (after_items today firm (items_of number lines)) x w
ready_behind today number firm x w lines ready other = record {
  matter = ready.matter;
  number = ready.number;
  made = ready.made;
  is_matter = ready.is_matter;
  is_number = ready.is_number;
  is = ready.is;
  dated = ready.dated;
  stands = lines_keep ready.matter ready.number today number firm ready.made lines
      (λ y there same. other y there (same ∙ sym ready.is)) ready.stands;
  waits = ready.waits;
  awaits = ready.awaits;
}

-- the line, as one of the entry
abbrev pub ready_line : {today : ℕ} {firm : Firm} {x : Line} {w : Waiting} → IsReady today firm x w → BankLine
ready_line {x = x} ready = record { matter = ready.matter; entry = ready.number; line = x }

pub ready_item : (today number : ℕ) (firm : Firm) (x : Line) (w : Waiting) (ready : IsReady today firm x w)
    → 0 < length x.bank_ref → item_of_line number x ≡ item.OfMatter (ready_line ready)
ready_item today number firm x w ready bank = grind (arith, ints, nat_tests, item_named)

pub ready_counted : (today : ℕ) (firm : Firm) (x : Line) (w : Waiting) (ready : IsReady today firm x w)
    → counted_as (line_on (of ready.matter firm) (ready_line ready) today) ≡ counted.Applied
ready_counted today firm x w ready =
    ap counted_as (line_applies (of ready.matter firm) (ready_line ready) today ready.made ready.dated ready.stands ready.awaits)

filled_applies : (today : ℕ) (firm : Firm) (lines front rest : List Line) (line : Line) (reference : List ℕ)
    → FirmSound firm → HasMatterNumbers firm → Contains lines line → 0 < length line.bank_ref
    → becomes today (held_of firm) lines line ≡ outcome.Filled reference
    → written today (held_of firm) lines ≡ front ++ with_reference reference line ∷ rest
    → counted_of today (after_items today firm (items_of 1 front))
    (item_of_line (length front + 1) (with_reference reference line))
    ≡ counted.Applied
filled_applies today firm lines front rest line reference sound numbers there bank filled split =
    let x = with_reference reference line in
    let found = sure_of today (held_of firm) lines line reference filled in
    let before = filled_ready today firm lines line reference found.0 sound numbers found.1 found.2 in
    let other = λ (y : Line) (y_there : Contains front y). front_apart today (held_of firm) lines front rest line y
    reference (wait_apart firm sound numbers) there filled split y_there in
    let ready = ready_behind today 1 firm x found.0 front before other in
    let now = after_items today firm (items_of 1 front) in
    ap (counted_of today now) (ready_item today (length front + 1) now x found.0 ready bank)
    ∙ ready_counted today now x found.0 ready

pub filled_lines_are_applied : FilledLinesAreApplied
filled_lines_are_applied today firm lines front rest line x sound numbers there opened bank written_there split =
    let wrote = written_is_filled today (held_of firm) lines line x opened written_there in
    let named = split ∙ ap (λ z. front ++ z ∷ rest) (sym wrote.2) in
    let now = after_items today firm (items_of 1 front) in
    subst (λ (z : Line). counted_of today now (item_of_line (length front + 1) z) ≡ counted.Applied) wrote.2
    (filled_applies today firm lines front rest line wrote.0 sound numbers there bank wrote.1 named)

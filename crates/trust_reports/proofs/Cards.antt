-- The card of a matter that keeps all entries.
use Rattle.trust_reports.proofs.Names.{◌≡◌, ℕ, ◌+◌, ◌≤◌, List, [], ◌∷◌, ◌++◌, refl, ap, ◌∙◌, arith, Some, eqb, true, false, flat_map, pos, entry_text, line}
use Rattle.std.proofs.lemmas.Bool.Decides.{nat_tests}
use Rattle.matter_rows.specs.declared.entry.Entry.{Entry}
use Rattle.matter_rows.specs.Balances.{available, claims, disputed, fees, held, left_of}
use Rattle.matter_parts.specs.declared.figures.Balances.{Balances}
use Rattle.matter_parts.specs.declared.kept.Kept.{Kept}
use Rattle.matter_parts.specs.Parts.{AreBalances, AreNumbered, IsEntryOf, entries_kept, kept_in}
use Rattle.matter_parts.proofs.Telling.{balances-of}
use Rattle.trust_reports.specs.TextsOfLedgers.{WholeCardIsOfRows, added_balances, balance_lines, entry_fields, entry_lines, kept_balances, kept_line, ledger_heading}

lines-of : (es : List Entry) (n : ℕ) (ks : List Kept) → AreNumbered n ks
    → ((m : ℕ) (k : Kept) → n ≤ m → kept_in ks m ≡ Some k → IsEntryOf es m k)
    → flat_map kept_line ks ≡ entry_lines es n (entries_kept ks)
lines-of es n [] numbered own = refl
lines-of es n (k ∷ ks) numbered own =
    let number : k.number ≡ n = numbered.0 in
    let same : eqb k.number n ≡ true = grind (arith, nat_tests) in
    let here : kept_in (k ∷ ks) n ≡ Some k = rw same refl in
    let low : n ≤ n = omega arith in
    let left : pos k.left ≡ left_of es n k.entry = (own n k low here).left in
    let rest : flat_map kept_line ks ≡ entry_lines es (n + 1) (entries_kept ks) =
    lines-of es (n + 1) ks numbered.1 (λ m j above there.
    let apart : eqb k.number m ≡ false = grind (arith, nat_tests) in
    let later : kept_in (k ∷ ks) m ≡ Some j = rw apart there in
    own m j (omega arith) later) in
    ap (λ j. line (entry_text j) (entry_fields k.entry (pos k.left)) ++ flat_map kept_line ks) number
    ∙ ap (λ z. line (entry_text n) (entry_fields k.entry z) ++ flat_map kept_line ks) left
    ∙ ap (λ t. line (entry_text n) (entry_fields k.entry (left_of es n k.entry)) ++ t) rest

sums-of : (b : Balances) (es : List Entry) → AreBalances b es
    → balance_lines (pos b.available) (pos b.held) (pos b.fees) (pos b.claims) (pos b.disputed) (pos b.total) ≡ added_balances es
sums-of b es are =
    ap (λ z. balance_lines z (pos b.held) (pos b.fees) (pos b.claims) (pos b.disputed) (pos b.total)) are.available
    ∙ ap (λ z. balance_lines (available es) z (pos b.fees) (pos b.claims) (pos b.disputed) (pos b.total)) are.held
    ∙ ap (λ z. balance_lines (available es) (held es) z (pos b.claims) (pos b.disputed) (pos b.total)) are.fees
    ∙ ap (λ z. balance_lines (available es) (held es) (fees es) z (pos b.disputed) (pos b.total)) are.claims
    ∙ ap (λ z. balance_lines (available es) (held es) (fees es) (claims es) z (pos b.total)) are.disputed
    ∙ ap (λ z. balance_lines (available es) (held es) (fees es) (claims es) (disputed es) z) are.total

pub whole-card : WholeCardIsOfRows
whole-card m matter rows s w =
    let f = matter.figures in
    let es = rows.entries in
    let lines : flat_map kept_line matter.kept ≡ entry_lines es 1 es =
    lines-of es 1 matter.kept w.numbered (λ n k low there. w.part.kept n k there) ∙ ap (λ l. entry_lines es 1 l) w.entries in
    let sums : kept_balances f ≡ added_balances es =
    sums-of _ es (balances-of matter rows f s w.part refl) in
    ap (λ h. ledger_heading m h ++ (flat_map kept_line matter.kept ++ kept_balances f)) w.part.head
    ∙ ap (λ t. ledger_heading m rows.head ++ (t ++ kept_balances f)) lines
    ∙ ap (λ t. ledger_heading m rows.head ++ (entry_lines es 1 es ++ t)) sums

-- What a matter that is loaded says of its rows: in a list, of its entries, and of those that wait.
use Rattle.std.proofs.Common.{List, [], ap, append_assoc, arith, cond, false, get_or, length, map, pos, refl, subst, suc, sym, true, zero, ℕ, ◌++◌, ◌+◌, ◌<◌, ◌∙◌, ◌∷◌, ◌≡◌}
use Rattle.std.proofs.lemmas.Bool.Decides.{nat_tests}
use Rattle.std.specs.List.{flat_map}
use Rattle.json.specs.Token.{Token}
use Rattle.matter_rows.specs.declared.entry.Entry.{Entry}
use Rattle.matter_rows.specs.Rows.{Rows}
use Rattle.matter_rows.specs.Balances.{left_of, pending}
use Rattle.matter_rows.specs.declared.act.Caller.{Caller}
use Rattle.matter_parts.specs.declared.figures.Balances.{Balances}
use Rattle.matter_parts.specs.declared.figures.Figures.{Figures}
use Rattle.matter_parts.specs.declared.kept.Kept.{Kept}
use Rattle.matter_parts.specs.Parts.{AreBalances, IsPart, IsWhole, Part, entries_kept}
use Rattle.matter_parts.specs.Audit.{AreInPlace, IsInPlace}
use Rattle.matter_parts.proofs.InPlace.{in-place}
use Rattle.trust_matter.specs.Step.{natural}
use Rattle.json_bodies.specs.Bodies.{balance_sums, entry_object, sums_of}
use Rattle.json_bodies.specs.Json.{object_of, value_tokens}
use Rattle.json_bodies.specs.Listed.{entries_from, kept_object, listed_members, listed_object, role_value, waiting_from, waiting_object, waits}

-- The list.

sums-same : (b : Balances) (es : List Entry) → AreBalances b es → balance_sums b ≡ sums_of es
sums-same b es are = grind (arith, are.available, are.claims, are.disputed, are.fees, are.held, are.total)

pub listed-of : (caller : Caller) (m : ℕ) (p : Part) (f : Figures) (b : Balances) (rows : Rows) → IsPart p rows → f ≡ p.figures → AreBalances b rows.entries
    → object_of (listed_members m p.head (role_value caller p.seats) f.entries f.pending (balance_sums b)) ≡ listed_object caller m rows
listed-of caller m p f b rows part same are =
    let waiting : p.figures.pending ≡ natural (pending rows.entries) = ap natural part.figures.pending in
    ap (λ g. object_of (listed_members m p.head (role_value caller p.seats) g.entries g.pending (balance_sums b))) same
    ∙ ap (λ h. object_of (listed_members m h (role_value caller p.seats) p.figures.entries p.figures.pending (balance_sums b))) part.head
    ∙ ap (λ s. object_of (listed_members m rows.head (role_value caller s) p.figures.entries p.figures.pending (balance_sums b))) part.seats
    ∙ ap (λ k. object_of (listed_members m rows.head (role_value caller rows.seats) k p.figures.pending (balance_sums b))) part.figures.entries
    ∙ ap (λ k. object_of (listed_members m rows.head (role_value caller rows.seats) (length rows.entries) k (balance_sums b))) waiting
    ∙ ap (λ s. object_of (listed_members m rows.head (role_value caller rows.seats) (length rows.entries) (natural (pending rows.entries)) s)) (sums-same b rows.entries are)

-- All entries.

entries-of : (m : ℕ) (es : List Entry) (n : ℕ) (ks : List Kept) → AreInPlace es n ks → map (kept_object m) ks ≡ entries_from m es n (entries_kept ks)
entries-of m es n [] here = refl
entries-of m es n (k ∷ ks) here =
    ap (λ j. entry_object m j k.entry (pos k.left) ∷ map (kept_object m) ks) here.0.number
    ∙ ap (λ z. entry_object m n k.entry z ∷ map (kept_object m) ks) here.0.left
    ∙ ap (λ ds. entry_object m n k.entry (left_of es n k.entry) ∷ ds) (entries-of m es (n + 1) ks here.1)

pub whole-entries : (m : ℕ) (p : Part) (rows : Rows) → IsWhole p rows → map (kept_object m) p.kept ≡ entries_from m rows.entries 1 rows.entries
whole-entries m p rows w =
    entries-of m rows.entries 1 p.kept (in-place rows.entries p.kept w.numbered w.part.kept)
    ∙ ap (λ es. entries_from m rows.entries 1 es) w.entries

-- What waits.

-- the tokens of those that wait of these, which are the entries from number n on
abbrev pub waiting_rest : ℕ → Rows → ℕ → List Kept → List Token
waiting_rest m rows n ks = flat_map value_tokens (waiting_from m rows n (entries_kept ks))

-- an entry that waits is written, and another is passed by
pub waited : (m : ℕ) (rows : Rows) (n : ℕ) (k : Kept) (ks more : List Kept) (old new all : List Token) → waits k.entry ≡ true → k.number ≡ n → ks ≡ k ∷ more
    → new ≡ old ++ value_tokens (waiting_object m rows k.number k.entry) → old ++ waiting_rest m rows n ks ≡ all → new ++ waiting_rest m rows (n + 1) more ≡ all
waited m rows n k ks more old new all is at next written so_far =
    let more_data = waiting_from m rows (n + 1) (entries_kept more) in
    ap (λ t. t ++ waiting_rest m rows (n + 1) more) written
    ∙ append_assoc old (value_tokens (waiting_object m rows k.number k.entry)) (waiting_rest m rows (n + 1) more)
    ∙ ap (λ j. old ++ (value_tokens (waiting_object m rows j k.entry) ++ waiting_rest m rows (n + 1) more)) at
    ∙ ap (λ b. old ++ flat_map value_tokens (cond b (waiting_object m rows n k.entry ∷ more_data) more_data)) (sym is)
    ∙ ap (λ l. old ++ waiting_rest m rows n l) (sym next)
    ∙ so_far

pub passed : (m : ℕ) (rows : Rows) (n : ℕ) (k : Kept) (ks more : List Kept) (old all : List Token) → waits k.entry ≡ false → ks ≡ k ∷ more
    → old ++ waiting_rest m rows n ks ≡ all → old ++ waiting_rest m rows (n + 1) more ≡ all
passed m rows n k ks more old all is next so_far =
    let more_data = waiting_from m rows (n + 1) (entries_kept more) in
    ap (λ b. old ++ flat_map value_tokens (cond b (waiting_object m rows n k.entry ∷ more_data) more_data)) (sym is)
    ∙ ap (λ l. old ++ waiting_rest m rows n l) (sym next)
    ∙ so_far

place-at : (es : List Entry) (a : ℕ) (ks : List Kept) (i : ℕ) (k : Kept) → AreInPlace es a ks → i < length ks → k ≡ get_or ks i k → IsInPlace es (a + i) k
place-at es a [] i k here inside at = absurd (omega arith)
place-at es a (x ∷ ks) zero k here inside at = subst (λ j. IsInPlace es j k) (omega arith) (subst (IsInPlace es a) (sym at) here.0)
place-at es a (x ∷ ks) (suc i) k here inside at = grind (arith, nat_tests, (place-at es (a + 1) ks i k here.1))

pub whole-place : (p : Part) (rows : Rows) (ks : List Kept) (i : ℕ) (k : Kept) → IsWhole p rows → ks ≡ p.kept → i < length ks → k ≡ get_or ks i k → IsInPlace rows.entries (i + 1) k
whole-place p rows ks i k w same inside at =
    subst (λ j. IsInPlace rows.entries j k) (omega arith)
    (place-at rows.entries 1 ks i k (subst (AreInPlace rows.entries 1) (sym same) (in-place rows.entries p.kept w.numbered w.part.kept)) inside at)

-- An entry of a kept matter that a search finds.
use Rattle.firm_audit.proofs.Names.{◌≡◌, ◌↔◌, ℕ, ◌<◌, ◌≤◌, true, List, length, get_or, Option, Some, None, Ok, Err, refl, sym, ap, ◌∙◌, subst, false≢true, is_some, length-map, Rows, entry_at, some-within, within, Kept, entries_kept, KeptMatter, rows_in, seek, found_read, found_err}
use Rattle.matter_rows.specs.declared.entry.Entry.{Entry}

-- an entry of some number is there exactly up to the count
pub some-is : (es : List Entry) (n : ℕ) → 0 < n → (is_some (entry_at es n) ≡ true) ↔ (n ≤ length es)
some-is es n some = (λ there. up-to (entry_at es n) refl there, λ le. ap is_some (some-within es n some le).1)
  where
    up-to : (o : Option Entry) → entry_at es n ≡ o → is_some o ≡ true → n ≤ length es
    up-to None is there = absurd (false≢true there)
    up-to (Some e) is there = (within es n e is).1

-- what is found has an entry of each number up to its count, and of no other
pub entry-there : (m n i : ℕ) (ks : List KeptMatter) (k : KeptMatter) (kept : List Kept) → Ok i ≡ seek m ks → k ≡ get_or ks i k → kept ≡ k.matter.kept → 0 < n → (is_some (entry_at (rows_in m ks).entries n) ≡ true) ↔ (n ≤ length kept)
entry-there m n i ks k kept found read is some =
    let stands = found_read m i ks ks k refl found read in
    let own : kept ≡ stands.0.there.matter.kept = is ∙ ap (λ x. x.matter.kept) stands.1 in
    let count : length (entries_kept stands.0.there.matter.kept) ≡ length kept = length-map stands.0.there.matter.kept (λ x. x.entry) ∙ ap length (sym own) in
    let own-entries : (rows_in m ks).entries ≡ entries_kept stands.0.there.matter.kept = ap (λ (r : Rows). r.entries) stands.0.rows in
    subst (λ (es : List Entry). (is_some (entry_at es n) ≡ true) ↔ (n ≤ length kept)) (sym own-entries)
    (subst (λ (c : ℕ). (is_some (entry_at (entries_kept stands.0.there.matter.kept) n) ≡ true) ↔ (n ≤ c)) count
    (some-is (entries_kept stands.0.there.matter.kept) n some))

-- where none is found there is no entry
pub entry-missing : (m n i : ℕ) (ks : List KeptMatter) → Err i ≡ seek m ks → is_some (entry_at (rows_in m ks).entries n) ≡ true → ⊥
entry-missing m n i ks missing there =
    let lacks = found_err m i ks ks refl missing in
    false≢true (sym (ap (λ (r : Rows). is_some (entry_at r.entries n)) lacks.rows) ∙ there)

-- The entries of what is kept, copied one after the other.
use Rattle.matter_parts.proofs.Names.{◌≡◌, ℕ, ◌+◌, ◌<◌, List, [], ◌∷◌, ◌++◌, take, length, get_or, map_more, Entry, Kept, entries_kept, more}

pub copied-more : (ks : List Kept) (i : ℕ) (k : Kept) (e : Entry) (now : List Entry) → now ≡ entries_kept (take i ks) → i < length ks → k ≡ get_or ks i k → e ≡ k.entry → now ++ e ∷ [] ≡ entries_kept (take (i + 1) ks)
copied-more ks i k e now so inside at is = let more = map_more (λ (y : Kept). y.entry) ks i k inside in cc

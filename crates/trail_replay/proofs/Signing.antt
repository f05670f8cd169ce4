-- A replayed dossier of sound rows is signed.
use Rattle.std.proofs.Common.{List, None, Option, Some, [], refl, subst, ℕ, ◌++◌, ◌≡◌, ◌∷◌}
use Rattle.std.specs.List.{AllByRecursion}
use Rattle.std.specs.Prelude.{flat_map}
use Rattle.trust_base.specs.Limits.{IsAmount}
use Rattle.matter_rows.specs.declared.act.Act.{Act}
use Rattle.matter_rows.specs.declared.act.Deed.{Deed}
use Rattle.matter_rows.specs.declared.act.Deed.TheVariants as deed
use Rattle.matter_rows.specs.declared.entry.Entry.{Entry}
use Rattle.matter_rows.specs.declared.entry.Entry.TheVariants as entry
use Rattle.matter_rows.proofs.Entries.{all-at}
use Rattle.matter_rows.specs.Rows.{Rows, entry_amount, entry_at}
use Rattle.matter_rows.specs.Sound.{IsRanged, Sound}
use Rattle.trust_matter.specs.declared.ask.Ask.TheVariants as ask
use Rattle.trust_matter.specs.Laws.{Doing}
use Rattle.trust_matter.specs.Step.{HasAmount}
use Rattle.trail_laws.specs.Replayed.{asked_by, cleared_by, clients_in, making, of_entry, of_found, own_by, own_by_deed, returned_by, settled_parts, shown_by}
use Rattle.trail_laws.specs.Signed.{HasItsAmount, IsSigned, nothing_before}
use Rattle.trail_laws.proofs.Signed.{runs-are_signed}
use Rattle.trail_replay.specs.Follows.{ReplayedIsSigned}

abbrev HaveAmounts : List Doing → Type 0
HaveAmounts run = AllByRecursion HasItsAmount run

all-joined : (xs ys : List Doing) → HaveAmounts xs → HaveAmounts ys → HaveAmounts (xs ++ ys)
all-joined [] ys first rest = rest
all-joined (x ∷ xs) ys first rest = (first.0, all-joined xs ys first.1 rest)

each-has : {A : Type 0} (f : A → List Doing) (xs : List A) → ((x : A) → HaveAmounts (f x)) → HaveAmounts (flat_map f xs)
each-has f [] has = tt
each-has f (x ∷ xs) has = all-joined (f x) (flat_map f xs) (has x) (each-has f xs has)

-- the amount of an entry is in range, and so is that of the ask that made it
making-has : (n : ℕ) (e : Entry) → IsAmount (entry_amount e) → HasAmount (making n e)
making-has n (entry.Deposit d) is = is
making-has n (entry.Payment p) is = is
making-has n (entry.Fee f) is = is
making-has n (entry.Claim c) is = is

of-entry-has : (made : ℕ → Entry → List Doing) (rows : Rows) (o : Option ℕ) → Sound rows
    → ((n : ℕ) (e : Entry) → IsAmount (entry_amount e) → HaveAmounts (made n e)) → HaveAmounts (of_entry made rows o)
of-entry-has made rows None sound has = tt
of-entry-has made rows (Some n) sound has = cases (entry_at rows.entries n) refl
  where
    cases : (o : Option Entry) → entry_at rows.entries n ≡ o → HaveAmounts (of_found made n o)
    cases None at = tt
    cases (Some e) at = has n e (all-at IsRanged rows.entries n e sound.backed.ranged at).amount

-- what an act tells has its amount
own-has : (m : ℕ) (rows : Rows) (act : Act) (d : Deed) → Sound rows → HaveAmounts (own_by_deed m rows act d)
own-has m rows act (deed.Opened lawyer) sound =
    each-has (λ client. asked_by act (ask.OpenMatter (record { client = client; lawyer = lawyer })) ∷ [])
    (clients_in rows.head) (λ client. (tt, tt))
own-has m rows act (deed.Seated seat) sound = (tt, tt)
own-has m rows act (deed.Unseated person) sound = (tt, tt)
own-has m rows act deed.Closed sound = (tt, tt)
own-has m rows act deed.Deposited sound = of-entry-has _ rows act.entry sound (λ n e is. (making-has n e is, tt))
own-has m rows act deed.Proposed sound = of-entry-has _ rows act.entry sound (λ n e is. (making-has n e is, tt))
own-has m rows act deed.Earned sound = of-entry-has _ rows act.entry sound (λ n e is. (making-has n e is, tt))
own-has m rows act deed.Disputed sound = of-entry-has _ rows act.entry sound (λ n e is. (making-has n e is, tt))
own-has m rows act deed.Claimed sound = of-entry-has _ rows act.entry sound (λ n e is. (making-has n e is, tt))
own-has m rows act deed.Cancelled sound = of-entry-has _ rows act.entry sound (λ n e is. (tt, tt))
own-has m rows act deed.Approved sound = of-entry-has _ rows act.entry sound (λ n e is. (tt, tt))
own-has m rows act deed.Declined sound = of-entry-has _ rows act.entry sound (λ n e is. (tt, tt))
own-has m rows act deed.Withdrawn sound = of-entry-has _ rows act.entry sound (λ n e is. (tt, tt))
own-has m rows act deed.Voided sound = of-entry-has _ rows act.entry sound (λ n e is. (tt, tt))
own-has m rows act (deed.Offered part) sound = of-entry-has _ rows act.entry sound (λ n e is. (tt, tt))
own-has m rows act deed.Cleared sound =
    of-entry-has _ rows act.entry sound
    (λ n e is. each-has (λ s. shown_by m n act s ∷ []) (cleared_by e) (λ s. (tt, tt)))
own-has m rows act deed.Returned sound =
    of-entry-has _ rows act.entry sound
    (λ n e is. each-has (λ s. shown_by m n act s ∷ []) (returned_by e) (λ s. (tt, tt)))
own-has m rows act deed.Accepted sound =
    of-entry-has _ rows act.entry sound
    (λ n e is.
    each-has (λ part. asked_by act (ask.Accept (record { number = n; to_client = part })) ∷ []) (settled_parts e)
    (λ part. (tt, tt)))
own-has m rows act deed.Awarded sound =
    of-entry-has _ rows act.entry sound
    (λ n e is.
    each-has (λ part. asked_by act (ask.Award (record { number = n; to_client = part })) ∷ []) (settled_parts e)
    (λ part. (tt, tt)))

pub replayed-is_signed : ReplayedIsSigned
replayed-is_signed m p sound r =
    subst (IsSigned nothing_before) r.again
    (runs-are_signed (flat_map (own_by m p.rows) p.acts)
    (each-has (own_by m p.rows) p.acts (λ act. own-has m p.rows act act.deed sound)))

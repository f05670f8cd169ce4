-- What more acts do to a dossier that is signed.
use Rattle.trail_laws.proofs.Names.{Act, List, Dossier, [], ap, append_assoc, entry_at, filter, filter-append, fold, fold-append, map, map-append, refl, subst, sym, true, Seat, Sound, Head, IsHeaded, Option, None, ℕ, ◌++◌, ◌∙◌, ◌∷◌, ◌≡◌, append-nil, Entry}
use Rattle.trail_laws.specs.Signed.{AreAllowed, AreSeated, Beginning, IsNothing, IsSigned, approves, begins_with_opening, days_of_approval, days_of_issue, nothing_before, seats_by}

-- the dossier after a step has more acts, and the seats and issues that these leave
pub record Adds (p after : Dossier) : Type 0 where
  pub more : List Act
  pub acts : after.acts ≡ p.acts ++ more
  pub seats : after.rows.seats ≡ fold seats_by p.rows.seats more
  pub allowed : AreAllowed p.rows.seats more
  pub issued : (n : ℕ) → days_of_issue (entry_at after.rows.entries n) ≡ days_of_issue (entry_at p.rows.entries n) ++ days_of_approval n more
  pub fresh : begins_with_opening more ≡ true → p.rows.head ≡ None

-- the dossier has neither acts nor seats nor entries
pub record AreBare (p : Dossier) : Type 0 where
  pub acts : p.acts ≡ []
  pub seats : p.rows.seats ≡ []
  pub entries : p.rows.entries ≡ []

pub seated-more : (b : Beginning) (p after : Dossier) → Adds p after → AreSeated b p → AreSeated b after
seated-more b p after adds s =
    ap (fold seats_by b.seats) adds.acts
    ∙ (fold-append seats_by b.seats p.acts adds.more
    ∙ (ap (λ (ss : List Seat). fold seats_by ss adds.more) s ∙ sym adds.seats))

allowed-append : (seats : List Seat) (acts more : List Act) → AreAllowed seats acts → AreAllowed (fold seats_by seats acts) more → AreAllowed seats (acts ++ more)
allowed-append seats [] more all then = then
allowed-append seats (act ∷ acts) more all then = (all.0, allowed-append (seats_by seats act) acts more all.1 then)

pub allowed-more : (b : Beginning) (p after : Dossier) → Adds p after → AreSeated b p → AreAllowed b.seats p.acts → AreAllowed b.seats after.acts
allowed-more b p after adds s all =
    let P : List Act → Type 0 = λ acts. AreAllowed b.seats acts in
    let Q : List Seat → Type 0 = λ ss. AreAllowed ss adds.more in
    subst P (sym adds.acts) (allowed-append b.seats p.acts adds.more all (subst Q (sym s) adds.allowed))

approvals-append : (n : ℕ) (acts more : List Act) → days_of_approval n (acts ++ more) ≡ days_of_approval n acts ++ days_of_approval n more
approvals-append n acts more =
    ap (map (λ (act : Act). act.day)) (filter-append (approves n) acts more)
    ∙ map-append (λ (act : Act). act.day) (filter (approves n) acts) (filter (approves n) more)

issued-more : (b : Beginning) (p after : Dossier) → Adds p after → (n : ℕ) → b.issued n ++ days_of_approval n p.acts ≡ days_of_issue (entry_at p.rows.entries n) → b.issued n ++ days_of_approval n after.acts ≡ days_of_issue (entry_at after.rows.entries n)
issued-more b p after adds n s =
    ap (λ (acts : List Act). b.issued n ++ days_of_approval n acts) adds.acts
    ∙ (ap (λ (days : List ℕ). b.issued n ++ days) (approvals-append n p.acts adds.more)
    ∙ (sym (append_assoc (b.issued n) (days_of_approval n p.acts) (days_of_approval n adds.more))
    ∙ (ap (λ (days : List ℕ). days ++ days_of_approval n adds.more) s ∙ sym (adds.issued n))))

-- where the acts begin with the opening, nothing was before
opened-more : (b : Beginning) (p : Dossier) (acts more : List Act) → p.acts ≡ acts → Sound p.rows → IsSigned b p → (begins_with_opening more ≡ true → p.rows.head ≡ None) → begins_with_opening (acts ++ more) ≡ true → IsNothing b
opened-more b p (act ∷ acts) more is sound s fresh opens =
    let P : List Act → Type 0 = λ xs. begins_with_opening xs ≡ true in
    s.opened (subst P (sym is) opens)
opened-more b p [] more is sound s fresh opens =
    let P : Option Head → Type 0 = λ head. IsHeaded head p.rows.seats p.rows.entries in
    let none : (p.rows.seats ≡ []) × (p.rows.entries ≡ []) = subst P (fresh opens) sound.headed in
    record {
      seats = sym (ap (fold seats_by b.seats) is) ∙ (s.seats ∙ none.0);
      issued = λ n.
          sym (append-nil (b.issued n))
          ∙ (sym (ap (λ (acts : List Act). b.issued n ++ days_of_approval n acts) is)
          ∙ (s.issued n ∙ ap (λ (es : List Entry). days_of_issue (entry_at es n)) none.1));
    }

pub signed-more : (b : Beginning) (p after : Dossier) → Adds p after → Sound p.rows → IsSigned b p → IsSigned b after
signed-more b p after adds sound s = record {
  seats = seated-more b p after adds s.seats;
  allowed = allowed-more b p after adds s.seats s.allowed;
  issued = λ n. issued-more b p after adds n (s.issued n);
  opened = λ opens.
      let P : List Act → Type 0 = λ acts. begins_with_opening acts ≡ true in
      opened-more b p p.acts adds.more refl sound s adds.fresh (subst P adds.acts opens);
}

-- A dossier with nothing in it.

pub seated-bare : (p : Dossier) → AreBare p → AreSeated nothing_before p
seated-bare p bare = ap (fold seats_by []) bare.acts ∙ sym bare.seats

pub allowed-bare : (p : Dossier) → AreBare p → AreAllowed [] p.acts
allowed-bare p bare = let P : List Act → Type 0 = λ acts. AreAllowed [] acts in subst P (sym bare.acts) tt

pub signed-bare : (p : Dossier) → AreBare p → IsSigned nothing_before p
signed-bare p bare = record {
  seats = seated-bare p bare;
  allowed = allowed-bare p bare;
  issued = λ n. ap (days_of_approval n) bare.acts ∙ sym (ap (λ (es : List Entry). days_of_issue (entry_at es n)) bare.entries);
  opened = λ opens. record { seats = refl; issued = λ n. refl };
}

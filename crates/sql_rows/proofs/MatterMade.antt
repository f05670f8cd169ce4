-- What the steps of each change of a matter make: the rows and the acts stand for the firm after it.
use Rattle.sql_rows.proofs.Names.{◌≡◌, ◌⊎◌, inl, inr, ℕ, ◌≤◌, refl, sym, ap, subst, ◌∙◌, AllByRecursion, Edit, Numbered, MatterChange, IsChange, of, acted, after_change, after_edit, Lists, AreKeyed, AreMeant, IsWrittenAct, firm_from, IsTypedAct, IsTypedEdit, AreMade, matter_steps, row_steps, trail_steps}
use Rattle.matter_parts.specs.declared.edit.Edit.TheVariants as edit
use Rattle.sql_tables.specs.Rows as table
use Rattle.sql_rows.proofs.Acts.{AreActsAfter, acts_made}
use Rattle.sql_rows.proofs.Becomes.{AreRowsMade}
use Rattle.sql_rows.proofs.EntryFits.{IsEntryChange}
use Rattle.sql_rows.proofs.Steps.{made-append}
use Rattle.sql_rows.proofs.WithEntry.{with_entry_made}
use Rattle.sql_rows.proofs.WithoutEntry.{WritesNoEntry, without_entry_made}

-- what the steps of a change of a matter make: the tables stand for the firm after it, and the exceptions stay
pub record IsMatterMade (m : ℕ) (c : MatterChange) (a b : Lists) : Type 0 where
  pub firm : firm_from b ≡ after_change m c (firm_from a)
  pub meant : AreMeant b
  pub exceptions : b.exceptions ≡ a.exceptions

-- a change that is nothing makes nothing
nothing_made : (m : ℕ) (c : MatterChange) (a b : Lists) → c.edit ≡ edit.Nothing → AreMeant a
    → AreMade (matter_steps m c c.edit) a b → IsMatterMade m c a b
nothing_made m c a b none meant made =
    let same : b ≡ a = subst (λ e. AreMade (matter_steps m c e) a b) none made in record {
      firm = ap firm_from same
          ∙ subst (λ e. firm_from a ≡ acted m e c.act (after_edit m e c.last (firm_from a))) (sym none) refl;
      meant = subst AreMeant (sym same) meant;
      exceptions = ap (λ (l : Lists). l.exceptions) same;
    }

-- behind the rows the acts are made
with_acts_made : (m : ℕ) (c : MatterChange) (a mid b : Lists) → 1 ≤ m → IsTypedAct m c.act → AreMeant a
    → AreRowsMade m c a mid → AreMade (trail_steps m c.act c.edit) mid b → IsMatterMade m c a b
with_acts_made m c a mid b one typed meant rows made =
    let written : AllByRecursion IsWrittenAct (table.acts_among mid.acts) =
    subst (λ xs. AllByRecursion IsWrittenAct (table.acts_among xs)) (sym rows.acts) meant.written.acts in
    let done = acts_made m mid b one written c.act c.edit typed made in
    let after = subst (λ xs. AreActsAfter m c.act c.edit xs done.acts) rows.acts done.after in record {
      firm = ap firm_from done.same ∙ rows.firm done.acts after;
      meant = subst AreMeant (sym done.same) (rows.meant done.acts after);
      exceptions = ap (λ (l : Lists). l.exceptions) done.same ∙ rows.exceptions;
    }

-- an edit is nothing, writes an entry, or writes none
edit_kinds : (c : MatterChange) (e : Edit) → c.edit ≡ e
    → (c.edit ≡ edit.Nothing) ⊎ (WritesNoEntry c.edit ⊎ ((x : Numbered) × IsEntryChange c x))
edit_kinds c edit.Nothing is = inl is
edit_kinds c (edit.Append x) is = inr (inr (x, inl is))
edit_kinds c (edit.Exchange x) is = inr (inr (x, inr is))
edit_kinds c _ is = inr (inl (subst WritesNoEntry (sym is) tt))

-- so the steps of a change, whatever it is, make what it says
pub matter_made : (m : ℕ) (c : MatterChange) (a b : Lists) → 1 ≤ m → AreKeyed a → AreMeant a → IsTypedEdit c.edit
    → IsTypedAct m c.act → IsChange (of m (firm_from a)) c → AreMade (matter_steps m c c.edit) a b
    → IsMatterMade m c a b
matter_made m c a b one keyed meant typed act may made =
    let parts = made-append (row_steps m c c.edit) (trail_steps m c.act c.edit) a b made in
    let rest : AreRowsMade m c a parts.0 → IsMatterMade m c a b =
    λ rows. with_acts_made m c a parts.0 b one act meant rows parts.2 in
    elim (edit_kinds c c.edit refl) [
      | inl none ↦ nothing_made m c a b none meant made
      | inr some ↦ elim some [
        | inl w ↦ rest (without_entry_made m c a parts.0 w one keyed meant typed may parts.1)
        | inr w ↦ rest (with_entry_made m c w.0 a parts.0 w.1 one keyed meant may parts.1)
      ]
    ]

-- Rows that pass are those of a sound firm.
use Rattle.firm_audit.proofs.Names.{◌≡◌, ℕ, sym, ap, ◌∙◌, subst, Rows, entry_at, events_in, Sound, Firm, of, put, joined, AreKeptWhole, rows_in, firm_of, rows_of-joined, sound_in, IsJournalOf, IsOwnMoney, AreAscending, AreSound}
use Rattle.firm_rows.proofs.Kept.{unopened-sound}
use Rattle.firm_rows.specs.FirmSound.{FirmSound}
use Rattle.trust_store.specs.declared.all_rows.AllRows.{AllRows}
use Rattle.firm_audit.proofs.KeptRows.{joined-in_order}
use Rattle.firm_audit.proofs.Journals.{IsMovedAs, moved-in, events-in}

module _ (rows : AllRows) (kept : AreKeptWhole rows.matters.items) (journal : IsJournalOf rows.matters.items rows.movements.items) (own : IsOwnMoney rows.movements.items rows.firm_lines.items) (order : AreAscending rows.exceptions.items rows.balances.items) where
  abbrev firm : Firm
  firm = firm_of rows.matters.items rows.movements.items rows.firm_lines.items rows.exceptions.items rows.balances.items

  own_rows : (m : ℕ) → rows_in m rows.matters.items ≡ of m firm
  own_rows m = sym (rows_of-joined m rows.matters.items kept.ascends)

  moved : (m : ℕ) → IsMovedAs rows.movements.items m (of m firm)
  moved m = subst (IsMovedAs rows.movements.items m) (own_rows m) (moved-in m rows.matters.items rows.movements.items kept.whole journal)

  firm_is_sound : FirmSound firm
  firm_is_sound = record {
    in_order = record {
      rows = λ m. ap (λ (r : Rows). put m r (joined rows.matters.items)) (sym (own_rows m)) ∙ joined-in_order m rows.matters.items kept.ascends;
      exceptions = order.exceptions;
      balances = order.balances;
    };
    matters = λ m. subst Sound (own_rows m) (sound_in m rows.matters.items unopened-sound kept.whole);
    events = λ m n. events-in m n rows.matters.items rows.movements.items kept.whole journal ∙ ap (λ (r : Rows). events_in (entry_at r.entries n)) (own_rows m);
    own = own.moved;
    in_time = λ m. record { rising = (moved m).in_time.0; by_last = (moved m).in_time.1 };
    ledgers = λ m. (moved m).ledger;
    covered = λ m k. (moved m).covered k;
    within = own.within;
  }

  pub rows_are_sound : AreSound rows
  rows_are_sound = record { matters = kept; firm = firm_is_sound }

-- What is true of the lists.
use Rattle.std.specs.Prelude.{◌≡◌, ℕ, Bool, true, false, ◌==◌, ◌||◌, ◌&&◌, List, map, is_some}
use Rattle.std.specs.List.{filter, list_any}
use Rattle.matter_rows.specs.Rows.{Rows, is_purged, role_in}
use Rattle.matter_rows.specs.Balances.{ledger}
use Rattle.matter_rows.specs.declared.act.Caller.{Caller}
use Rattle.matter_rows.specs.declared.act.Caller.TheVariants.{Cashier, Person}
use Rattle.trust_matter.specs.declared.ask.Ask.TheVariants as ask
use Rattle.trust_matter.specs.Step.{refusal}
use Rattle.firm_rows.specs.Firm.{Firm, of}
use Rattle.firm_rows.specs.FirmSound.{FirmSound, IsInOrder}
use Rattle.firm_figures.specs.Lists.{is_open, trial_lines}
use Rattle.firm_figures.specs.declared.trial_sink.TrialLine.{TrialLine}
use Rattle.json_bodies.specs.Lists.{is_shown, listed_for, looks, matters_body, waiting_body}

-- the person has a seat in the matter
abbrev pub has_seat : List ℕ → Rows → Bool
has_seat person rows = is_some (role_in rows.seats person)

-- the firms have the same rows of each matter in which the person has a seat in either
abbrev pub AgreeFor : List ℕ → Firm → Firm → Type 0
AgreeFor person f g = (m : ℕ) → (has_seat person (of m f) || has_seat person (of m g)) ≡ true → of m f ≡ of m g

-- what the person is listed is the same
pub record AreListedAlike (person : List ℕ) (f g : Firm) : Type 0 where
  pub listed : listed_for (Person person) f ≡ listed_for (Person person) g
  pub matters : matters_body (Person person) f ≡ matters_body (Person person) g
  pub waiting : waiting_body (Person person) f ≡ waiting_body (Person person) g

-- a person is listed alike by two firms that agree on the matters in which the person has a seat
abbrev pub PersonsListsAreOwn : Type 0
PersonsListsAreOwn =
    (person : List ℕ) (f g : Firm) → IsInOrder f → IsInOrder g → AgreeFor person f g → AreListedAlike person f g

abbrev pub is_listed : ℕ → List ℕ → Bool
is_listed m ms = list_any (λ k. k == m) ms

-- a matter is listed exactly if it has a head and the caller's look at it is answered
abbrev pub ListedIsShown : Type 0
ListedIsShown =
    (m : ℕ) (caller : Caller) (firm : Firm)
    → is_listed m (listed_for caller firm) ≡ (is_some (of m firm).head && is_shown caller (of m firm))

-- nothing is listed of a purged matter
abbrev pub NothingPurged : Type 0
NothingPurged =
    (m : ℕ) (caller : Caller) (firm : Firm) → is_purged (of m firm).head ≡ true
    → is_listed m (listed_for caller firm) ≡ false

-- the line of the trial balance for a matter
abbrev pub ledger_line : Firm → ℕ → TrialLine
ledger_line firm m = record { matter = m; ledger = ledger (of m firm).entries }

-- the open matters of the cashier's list, with their ledgers, are the trial balance
abbrev pub CashiersListIsTrial : Type 0
CashiersListIsTrial =
    (firm : Firm) → FirmSound firm
    → map (ledger_line firm) (filter (λ m. is_open (of m firm).head) (listed_for Cashier firm)) ≡ trial_lines firm

-- a look is answered alike on every day
abbrev pub LooksAreAlike : Type 0
LooksAreAlike =
    (caller : Caller) (rows : Rows) (day : ℕ)
    → refusal rows (record { caller = caller; ask = ask.Show; day = day }) ≡ refusal rows (looks caller)

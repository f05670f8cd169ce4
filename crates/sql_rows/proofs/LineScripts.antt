-- The scripts of the changes that concern the firm's own tables alone are meant.
use Rattle.sql_rows.proofs.Names.{◌≡◌, ℕ, ℤ, List, [], ◌∷◌, ◌++◌, map, Option, Some, None, refl, sym, ap, ◌∙◌, subst, AllByRecursion, map-append, IsKeyedBy, all-filter, all-append, Line, BalanceKind, Dismissal, IsBankLine, act_from, dismissal_columns, dismissal_from, own_movement, after_match, with_dismissal, with_balance_row, as_firm_line, balance_row, FirmChange, Repeated, Unmatched, Dismissed, OfFirm, OfBalance, matched_by, after, FitsFirm, StaysSound, Lists, movement_columns, firm_line_columns, exception_columns, balance_columns, AreKeyed, AreMeant, AreSound, IsWrittenAct, IsWrittenDismissal, IsWrittenMovement, IsWrittenFirmLine, IsWrittenException, IsWrittenBalance, firm_from, AreMade, line_steps, IsMeant, LineScriptsAreMeant, arith, ints, nat_tests}
use Rattle.sql_tables.specs.Rows as table
use Rattle.sql_rows.proofs.Acts.{own_added}
use Rattle.sql_rows.proofs.Balances.{balances_with, added_written}
use Rattle.sql_rows.proofs.Dismissals.{dismissals_added, written_dismissal_added}
use Rattle.sql_rows.proofs.Exceptions.{key, exceptions_without, exceptions_with, noted_written}

-- Tables with other rows of the firm's own.

abbrev owning : Lists → List table.Movement → List table.FirmLine → List table.Exception → List table.Balance → Lists
owning a ms ls es bs = record a { movements = ms; firm_lines = ls; exceptions = es; balances = bs }

own_meant : (a : Lists) (ms : List table.Movement) (ls : List table.FirmLine) (es : List table.Exception)
    (bs : List table.Balance) → AreMeant a → AllByRecursion IsWrittenMovement ms → AllByRecursion IsWrittenFirmLine ls
    → AllByRecursion IsWrittenException es → AllByRecursion IsWrittenBalance bs
    → AreMeant (owning a ms ls es bs)
own_meant a ms ls es bs meant moved own noted told = grind (arith, ints, nat_tests)

noting : (a : Lists) (es : List table.Exception) → AreMeant a → AllByRecursion IsWrittenException es
    → AreMeant (record a { exceptions = es })
noting a es meant noted =
    let written = meant.written in
    own_meant a a.movements a.firm_lines es a.balances meant written.movements written.firm_lines noted written.balances

-- tables that are meant stand for a sound firm after a change that fits
pub meant_after : StaysSound → (change : FirmChange) (a b : Lists) → AreSound a → AreKeyed b
    → FitsFirm (firm_from a) change → firm_from b ≡ after change (firm_from a) → AreMeant b → IsMeant change a b
meant_after stays change a b sound keyed fits is meant = grind (arith, ints, nat_tests, firm_from)

-- the line that made a change is no exception from then on
pub line_gone : (line : Option Line) (a b : Lists) → AreMade (line_steps line) a b → IsKeyedBy key a.exceptions
    → AreMeant a → (firm_from b ≡ matched_by line (firm_from a)) × AreMeant b
line_gone None a b made up meant = (ap firm_from made, subst AreMeant (sym made) meant)
line_gone (Some line) a b made up meant =
    let noted = meant.written.exceptions in
    let is = made.2 ∙ made.1 in
    let without = exceptions_without line a.exceptions up noted in
    let same : firm_from b ≡ after_match line (firm_from a) =
    ap firm_from is ∙ (λ i. record (firm_from a) { exceptions = without i }) in
    (same, subst AreMeant (sym is) (noting a _ meant (all-filter IsWrittenException _ a.exceptions noted)))

-- The changes.

module _ (a b : Lists) (sound : AreSound a) where
  abbrev old : AreMeant a
  old = sound.meant

  unmatched : (line : Line) → b ≡ record a { exceptions = table.note_exception (exception_columns line) a.exceptions }
      → (firm_from b ≡ after (Unmatched line) (firm_from a)) × AreMeant b
  unmatched line is =
      let noted = old.written.exceptions in
      let with = exceptions_with line a.exceptions sound.keyed.exceptions noted sound.sound.in_order.exceptions in
      let same : firm_from b ≡ after (Unmatched line) (firm_from a) =
      ap firm_from is ∙ (λ i. record (firm_from a) { exceptions = with i }) in
      (same, subst AreMeant (sym is) (noting a _ old (noted_written line a.exceptions noted)))

  dismissed : (day : ℕ) (line : Line) (seq : ℤ) → IsBankLine line
      → AreMade (line_steps (Some line)) (record a {
        acts = a.acts ++ record (dismissal_columns (record { day = day; line = line })) { seq = seq } ∷ [];
      }) b
      → (firm_from b ≡ after (Dismissed day line) (firm_from a)) × AreMeant b
  dismissed day line seq typed made =
      let d : Dismissal = record { day = day; line = line } in
      let row : table.Act = record (dismissal_columns d) { seq = seq } in
      let among = own_added row a.acts refl in
      let mid : Lists = record a { acts = a.acts ++ row ∷ [] } in
      let written = old.written in
      let meant : AreMeant mid = record {
        written = record {
          heads = written.heads;
          seats = written.seats;
          entries = written.entries;
          movements = written.movements;
          firm_lines = written.firm_lines;
          exceptions = written.exceptions;
          balances = written.balances;
          acts = subst (AllByRecursion IsWrittenAct) (sym among.0) written.acts;
          dismissals = subst (AllByRecursion IsWrittenDismissal) (sym among.1)
              (written_dismissal_added d seq (table.dismissals_among a.acts) typed written.dismissals);
        };
        matters = old.matters;
        seated = old.seated;
        entered = old.entered;
      } in
      let more = ap (map dismissal_from) among.1 ∙ dismissals_added d seq (table.dismissals_among a.acts) typed in
      let same : firm_from mid ≡ with_dismissal d (firm_from a) =
      λ i. record (firm_from a) { acts = map act_from (among.0 i); dismissals = more i } in
      let done = line_gone (Some line) mid b made sound.keyed.exceptions meant in
      (done.0 ∙ ap (after_match line) same, done.1)

  of_firm : (line : Line) (seq place : ℤ)
      → AreMade (line_steps (Some line)) (record a {
        firm_lines = a.firm_lines ++ record (firm_line_columns (as_firm_line line)) { seq = seq } ∷ [];
        movements = a.movements ++ record (movement_columns (own_movement (as_firm_line line))) { seq = place } ∷ [];
      }) b
      → (firm_from b ≡ after (OfFirm line) (firm_from a)) × AreMeant b
  of_firm line seq place made =
      let l = record (firm_line_columns (as_firm_line line)) { seq = seq } in
      let m = record (movement_columns (own_movement (as_firm_line line))) { seq = place } in
      let mid = owning a (a.movements ++ m ∷ []) (a.firm_lines ++ l ∷ []) a.exceptions a.balances in
      let moves = all-append IsWrittenMovement a.movements (m ∷ []) old.written.movements (refl, tt) in
      let lines = all-append IsWrittenFirmLine a.firm_lines (l ∷ []) old.written.firm_lines (refl, tt) in
      let meant = own_meant a _ _ a.exceptions a.balances old moves lines old.written.exceptions old.written.balances in
      let done = line_gone (Some line) mid b made sound.keyed.exceptions meant in
      grind (arith, ints, nat_tests, map-append)

  of_balance : (kind : BalanceKind) (line : Line) → FitsFirm (firm_from a) (OfBalance kind line)
      → AreMade (line_steps (Some line))
      (record a { balances = table.add_balance (balance_columns (balance_row kind line)) a.balances }) b
      → (firm_from b ≡ after (OfBalance kind line) (firm_from a)) × AreMeant b
  of_balance kind line fits made =
      let row = balance_row kind line in
      let written = old.written in
      let mid = owning a a.movements a.firm_lines a.exceptions (table.add_balance (balance_columns row) a.balances) in
      let told = added_written row a.balances written.balances in
      let meant = own_meant a _ _ a.exceptions _ old written.movements written.firm_lines written.exceptions told in
      let done = line_gone (Some line) mid b made sound.keyed.exceptions meant in
      let with = balances_with row a.balances sound.keyed.balances written.balances fits in
      grind (arith, ints, nat_tests, firm_from, with_balance_row, after_match)

-- the script of each of these changes is meant, where each change that fits leaves a sound firm
pub line_scripts : StaysSound → LineScriptsAreMeant
line_scripts stays = record {
  repeated = λ line a b sound keyed typed fits made.
      let done = line_gone (Some line) a b made sound.keyed.exceptions sound.meant in
      meant_after stays (Repeated line) a b sound keyed fits done.0 done.1;
  unmatched = λ line a b sound keyed typed fits made.
      let done = unmatched a b sound line (made.2 ∙ made.1) in
      meant_after stays (Unmatched line) a b sound keyed fits done.0 done.1;
  dismissed = λ day line a b sound keyed typed fits made.
      let first = made.1 in
      let done = dismissed a b sound day line first.0 typed
      (subst (λ x. AreMade (line_steps (Some line)) x b) first.1 made.2) in
      meant_after stays (Dismissed day line) a b sound keyed fits done.0 done.1;
  of_firm = λ line a b sound keyed typed fits made.
      let first = made.1 in
      let second = made.2.1 in
      let m = movement_columns (own_movement (as_firm_line line)) in
      let is =
      second.1 ∙ ap (λ (x : Lists). record x { movements = x.movements ++ record m { seq = second.0 } ∷ [] }) first.1 in
      let done =
      of_firm a b sound line first.0 second.0 (subst (λ x. AreMade (line_steps (Some line)) x b) is made.2.2) in
      meant_after stays (OfFirm line) a b sound keyed fits done.0 done.1;
  of_balance = λ kind line a b sound keyed typed fits made.
      let done =
      of_balance a b sound kind line fits (subst (λ x. AreMade (line_steps (Some line)) x b) made.1 made.2) in
      meant_after stays (OfBalance kind line) a b sound keyed fits done.0 done.1;
}

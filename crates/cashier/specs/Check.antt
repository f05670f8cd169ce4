-- What a check of the book prints, and how it ends.
use Rattle.std.specs.Prelude.{◌≡◌, ◌++◌, ◌+◌, ℕ, List, Some, None, Result, Ok, Err, codes, ⊤}
use Rattle.std.specs.Fmt.{decimal}
use Rattle.std.specs.Io.KnownBytes.{Appends}
use Rattle.trust_base.specs.Refusals.{refused_by}
use Rattle.trust_base.specs.Texts.{entry_text, matter_text}
use Rattle.trust_base.specs.declared.refusal.StoreFault.{StoreFault}
use Rattle.firm_audit.specs.Flaws.{IsFlawOf}
use Rattle.firm_audit.specs.Trails.{AreTrailCountsOf, HasItsTrail, IsTrailFlawOf}
use Rattle.firm_audit.specs.declared.flaw.Flaw.{Flaw}
use Rattle.firm_audit.specs.declared.flaw.Flaw.TheVariants as flaws
use Rattle.firm_audit.specs.declared.trail.TrailCounts.{TrailCounts}
use Rattle.firm_audit.specs.declared.trail.TrailFlaw.{TrailFlaw}
use Rattle.firm_audit.specs.declared.trail.TrailFlaw.TheVariants as trail_flaws
use Rattle.firm_rows.specs.Firm.{Firm}
use Rattle.firm_rows.specs.FirmSound.{FirmSound}
use Rattle.book_reports.specs.Checking.{AreCountsOf, IsRaisedBy, refused_alone}
use Rattle.book_reports.specs.declared.checking.RowCounts.{RowCounts}
use Rattle.book_reports.specs.declared.unread.Unread.{Unread}
use Rattle.book_reports.specs.declared.unread.Unread.TheVariants as unread
use Rattle.trust_store.specs.Seen.{Seen}
use Rattle.sql_schema.specs.Schema.{act_table_name, balance_table_name, entry_table_name, exception_table_name, firm_line_table_name}
use Rattle.sql_schema.specs.Schema.{journal_table_name, matter_table_name, seat_table_name}
use Rattle.portal_http.specs.Output.{Output}
use Rattle.cashier.specs.Report.{refused_outcome}
use Rattle.cashier.specs.Sent.{IsSent}
use Rattle.cashier.specs.Sheet.{refusal_line}
use Rattle.cashier.specs.declared.check.CheckFound.{CheckFound}
use Rattle.cashier.specs.declared.check.CheckFound.TheVariants as found
use Rattle.cashier.specs.declared.outcome.Outcome.{Outcome}
use Rattle.cashier.specs.declared.outcome.Outcome.TheVariants as outcome

-- ---- texts

-- how many rows of each kind there are, one line each
abbrev pub counts_text : RowCounts → List ℕ
counts_text c =
    codes "MATTERS " ++ (decimal c.matters
    ++ (codes "\nENTRIES " ++ (decimal c.entries
    ++ (codes "\nMOVEMENTS " ++ (decimal c.movements
    ++ (codes "\nFIRM LINES " ++ (decimal c.firm_lines
    ++ (codes "\nEXCEPTIONS " ++ (decimal c.exceptions
    ++ (codes "\nBALANCES " ++ (decimal c.balances ++ codes "\n")))))))))))

-- how many payments that are or were issued have their approval in the trail, and how many are older than it; and how
-- many matters are older than their acts
abbrev pub approvals_text : TrailCounts → List ℕ
approvals_text c =
    codes "APPROVALS " ++ (decimal c.approved
    ++ (codes "\nEARLIER APPROVALS " ++ (decimal c.earlier
    ++ (codes "\nEARLIER MATTERS " ++ (decimal c.matters ++ codes "\n")))))

-- where the trail does not fit the rows
abbrev pub trail_flaw_text : TrailFlaw → List ℕ
trail_flaw_text (trail_flaws.Matter m) = codes "TRAIL " ++ matter_text m
trail_flaw_text (trail_flaws.Act m n) = codes "TRAIL " ++ (matter_text m ++ (codes " ACT " ++ decimal n))
trail_flaw_text (trail_flaws.Entry m n) = codes "TRAIL " ++ (matter_text m ++ (codes "-" ++ entry_text n))

-- what is not sound
abbrev pub flaw_text : Flaw → List ℕ
flaw_text (flaws.Matter m) = codes "MATTER " ++ matter_text m
flaw_text (flaws.Entry m n) = codes "ENTRY " ++ (matter_text m ++ (codes "-" ++ entry_text n))
flaw_text (flaws.Journal m) = codes "JOURNAL " ++ matter_text m
flaw_text (flaws.Movement n) = codes "MOVEMENT " ++ decimal n
flaw_text flaws.OwnMovements = codes "OWN MOVEMENTS"
flaw_text (flaws.FirmLine n) = codes "FIRM LINE " ++ decimal n
flaw_text (flaws.Exception n) = codes "EXCEPTION " ++ decimal n
flaw_text (flaws.Balance n) = codes "BALANCE " ++ decimal n

-- which row is invalid, with its table
abbrev pub unread_text : Unread → List ℕ
unread_text (unread.Matter m) = codes "MATTER " ++ matter_text m
unread_text (unread.Head None) = codes "ROW " ++ (matter_table_name ++ codes " FIRST")
unread_text (unread.Head (Some m)) = codes "ROW " ++ (matter_table_name ++ (codes " AFTER " ++ matter_text m))
unread_text (unread.Seat m) = codes "ROW " ++ (seat_table_name ++ (codes " OF " ++ matter_text m))
unread_text (unread.Entry m None) = codes "ROW " ++ (entry_table_name ++ (codes " FIRST OF " ++ matter_text m))
unread_text (unread.Entry m (Some n)) =
    codes "ROW " ++ (entry_table_name ++ (codes " AFTER " ++ (matter_text m ++ (codes "-" ++ entry_text n))))
unread_text (unread.Movement n) = codes "ROW " ++ (journal_table_name ++ (codes " " ++ decimal n))
unread_text (unread.FirmLine n) = codes "ROW " ++ (firm_line_table_name ++ (codes " " ++ decimal n))
unread_text (unread.Exception n) = codes "ROW " ++ (exception_table_name ++ (codes " " ++ decimal n))
unread_text (unread.Balance n) = codes "ROW " ++ (balance_table_name ++ (codes " " ++ decimal n))
unread_text (unread.Act n) = codes "ROW " ++ (act_table_name ++ (codes " " ++ decimal n))
unread_text (unread.Dismissal n) = codes "ROW dismissal " ++ decimal n
unread_text unread.Elsewhere = codes "ROW ELSEWHERE"

-- the result of a check
abbrev pub check_text : CheckFound → List ℕ
check_text (found.Sound counts trail) = codes "SOUND\n" ++ (counts_text counts ++ approvals_text trail)
check_text (found.Amiss counts flaw) =
    codes "SOUND\n" ++ (counts_text counts ++ (trail_flaw_text flaw ++ codes "\n"))
check_text (found.Flawed flaw) = codes "UNSOUND\n" ++ (flaw_text flaw ++ codes "\n")
check_text (found.Unreadable row) = codes "UNSOUND\n" ++ (unread_text row ++ codes "\n")

-- ---- how it ends

-- what is printed: the result, or the line for the fault that kept the book from being read
abbrev pub check_line : Result CheckFound StoreFault → List ℕ
check_line (Ok told) = check_text told
check_line (Err fault) = refusal_line (refused_by fault)

-- the outcome for a result
abbrev pub found_outcome : CheckFound → Outcome
found_outcome (found.Sound counts trail) = outcome.Done
found_outcome (found.Amiss counts flaw) = outcome.Refused
found_outcome (found.Flawed flaw) = outcome.Refused
found_outcome (found.Unreadable row) = outcome.Refused

-- the outcome of a check whose result was printed
abbrev pub check_outcome : Result CheckFound StoreFault → Outcome
check_outcome (Ok told) = found_outcome told
check_outcome (Err fault) = refused_outcome (refused_by fault)

-- everything was printed, and the run ended accordingly; or a write failed, and only a prefix was printed
abbrev pub PrintsCheck : Result CheckFound StoreFault → Output → Outcome → Type 0
PrintsCheck told output ended =
    IsSent (check_line told) (check_outcome told) outcome.OutputFault output.before output.after ended

-- a check of the book: the firm is unchanged, and the result was printed
pub record CheckEnds (output : Output) (told : Outcome) (before after : Firm) : Type 0 where
  pub firm : after ≡ before
  pub found : Result CheckFound StoreFault
  pub prints : PrintsCheck found output told

-- the book refused to read all rows together, and then this one by itself, if it is named: its count of faults rose
-- between `before` and `after`. So a book that answers is never said to have such a row. `MATTER m`, of rows which can
-- each be read, so is a matter that the book did not return alone either
abbrev pub WasRefused : ℕ → ℕ → Unread → Type 0
WasRefused before after row = IsRaisedBy (refused_alone row + 1) before after

-- what is said to be sound is sound, has this many rows, and its trail fits them, with so many approvals; a flaw, of
-- the rows or of the trail, is one that the firm has. Of a row that can't be read the firm's rows say nothing: the book
-- refused to read it, and had counted so many faults before and after
abbrev pub IsTrueOf : Firm → ℕ → ℕ → CheckFound → Type 0
IsTrueOf firm before after (found.Sound counts trail) =
    FirmSound firm × AreCountsOf firm counts × HasItsTrail firm × AreTrailCountsOf firm trail
IsTrueOf firm before after (found.Amiss counts flaw) =
    FirmSound firm × AreCountsOf firm counts × IsTrailFlawOf firm flaw
IsTrueOf firm before after (found.Flawed flaw) = IsFlawOf firm flaw
IsTrueOf firm before after (found.Unreadable row) = WasRefused before after row

-- the same, and it is not that the firm is sound and its trail fits
abbrev pub IsUnsoundBy : Firm → ℕ → ℕ → CheckFound → Type 0
IsUnsoundBy firm before after (found.Sound counts trail) = ⊥
IsUnsoundBy firm before after (found.Amiss counts flaw) =
    FirmSound firm × AreCountsOf firm counts × IsTrailFlawOf firm flaw
IsUnsoundBy firm before after (found.Flawed flaw) = IsFlawOf firm flaw
IsUnsoundBy firm before after (found.Unreadable row) = WasRefused before after row

-- it was found sound, and this was printed
pub record IsSaid (told : Result CheckFound StoreFault) (output : Output) : Type 0 where
  pub counts : RowCounts
  pub trail : TrailCounts
  pub is : told ≡ Ok (found.Sound counts trail)
  pub printed : Appends output.before output.after (check_text (found.Sound counts trail))

-- it was found not to be sound, not to have its trail, or not to be readable, and this was printed
pub record IsSaidRefused (told : Result CheckFound StoreFault) (output : Output) : Type 0 where
  pub found : CheckFound
  pub is : told ≡ Ok found
  pub refused : found_outcome found ≡ outcome.Refused
  pub printed : Appends output.before output.after (check_text found)

-- the firm was said to be sound, and is; and its trail fits
pub record IsSaidSound (firm : Firm) (output : Output) : Type 0 where
  pub counts : RowCounts
  pub trail : TrailCounts
  pub printed : Appends output.before output.after (check_text (found.Sound counts trail))
  pub sound : FirmSound firm
  pub are : AreCountsOf firm counts
  pub fits : HasItsTrail firm
  pub approvals : AreTrailCountsOf firm trail

-- a flaw was printed, which the firm has, or a row that the book refused to read
pub record IsSaidUnsound (before after : Seen) (output : Output) : Type 0 where
  pub found : CheckFound
  pub printed : Appends output.before output.after (check_text found)
  pub unsound : IsUnsoundBy before.firm before.refusals after.refusals found

-- what a check of a book that ended so printed is true of its firm, and of what the book refused meanwhile
pub record IsCheckTrue (before after : Seen) (output : Output) (ended : Outcome) : Type 0 where
  pub sound : ended ≡ outcome.Done → IsSaidSound before.firm output
  pub unsound : ended ≡ outcome.Refused → IsSaidUnsound before after output

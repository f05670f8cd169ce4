-- The reports as of a day and of a period, from what was read.
use Rattle.book_reports.proofs.Names.{Seen, ◌≡◌, ℕ, false, List, [], ◌∷◌, ◌++◌, Ok, IsRead, ap, subst, append_assoc, ◌∙◌, Firm, has_no_statement, reconciliation_report, AreCountable, IsFirmLineInRange, IsRowInRange}
use Rattle.std.specs.Prelude.{◌||◌, Option}
use Rattle.trust_base.specs.Periods.{Span, month_to}
use Rattle.firm_periods.specs.Doubles.{in_order}
use Rattle.firm_periods.specs.Named.{NamedKept, is_earlier, is_purged_within, listed, named_kept, named_sum}
use Rattle.firm_periods.specs.declared.named_sink.Pick.{Pick}
use Rattle.firm_periods.specs.declared.named_sink.Pick.TheVariants as pick
use Rattle.trust_reports.specs.TextsOfPeriods.{disbursements_text, outstanding_text, receipts_text}
use Rattle.firm_periods.proofs.Approvals.{approvals-kept}
use Rattle.firm_periods.proofs.NamedLists.{named-kept}
use Rattle.firm_periods.specs.Approvals.{ApprovalsKept, approvals, approvals_of}
use Rattle.firm_periods.specs.declared.approvals_sink.IssuedPayment.{IssuedPayment}
use Rattle.trust_reports.specs.TextsOfActs.{approvals_text}
use Rattle.book_reports.specs.declared.day_reports.Limits.{Limits}
use Rattle.book_reports.specs.declared.day_reports.ReadApprovals.{ReadApprovals}
use Rattle.book_reports.specs.declared.day_reports.ReadList.{ReadList}
use Rattle.book_reports.specs.DayReports.{AreApprovalsRead, IsAppended, IsListed}
use Rattle.book_reports.specs.Reports.{approvals_report, clients_report, disbursements_report, is_period_purged, is_purged_at, month_report, outstanding_report, parts, receipts_report}

-- What was read of a list.
pub named-listed : (pick : Pick) (firm : Firm) (kept : NamedKept) (named : ReadList)
    → AreCountable IsRowInRange firm.rows → AreCountable IsFirmLineInRange firm.firm_lines → kept ≡ named_kept pick firm
    → named.list.moves.items ≡ in_order is_earlier kept.lines → named.list.total ≡ named_sum kept → named.is_purged ≡ kept.purged
    → IsListed pick firm named
named-listed pick firm kept named rows own is moves total purged =
    let made = named-kept pick firm in
    record {
      moves = moves ∙ (ap (λ (s : NamedKept). in_order is_earlier s.lines) is ∙ made.lines);
      total = total ∙ (ap named_sum is ∙ made.total rows own);
      purged = purged ∙ (ap (λ (s : NamedKept). s.purged) is ∙ made.purged);
    }

-- What was read is one list.
pub receipts-told : (a b : Seen) {k : ReadList} (s : Span) (limits : Limits) (old new : List ℕ)
    → (b.clean → a.stands → IsListed (pick.Receipts s) a.firm k)
    → limits.lacks_statement ≡ false → limits.is_purged ≡ k.is_purged → new ≡ old ++ receipts_text s k.list.moves.items k.list.total
    → b.clean → a.stands → IsAppended limits false (is_purged_within s a.firm) old (receipts_report s a.firm) new
unfolding receipts_report
receipts-told a b s limits old new listed none cut text clean stands =
    let is = listed clean stands in
    record { stated = none; cut = cut ∙ is.purged; text = text ∙ (λ i. old ++ receipts_text s (is.moves i) (is.total i)) }

pub disbursements-told : (a b : Seen) {k : ReadList} (s : Span) (limits : Limits) (old new : List ℕ)
    → (b.clean → a.stands → IsListed (pick.Disbursements s) a.firm k)
    → limits.lacks_statement ≡ false → limits.is_purged ≡ k.is_purged → new ≡ old ++ disbursements_text s k.list.moves.items k.list.total
    → b.clean → a.stands → IsAppended limits false (is_purged_within s a.firm) old (disbursements_report s a.firm) new
unfolding disbursements_report
disbursements-told a b s limits old new listed none cut text clean stands =
    let is = listed clean stands in
    record { stated = none; cut = cut ∙ is.purged; text = text ∙ (λ i. old ++ disbursements_text s (is.moves i) (is.total i)) }

-- or two, of one firm
pub outstanding-told : {a b c : Seen} {k j : ReadList} (day : ℕ) (limits : Limits) (old new : List ℕ)
    → IsRead (Ok k) a b → (b.clean → a.stands → IsListed (pick.Transit day) a.firm k)
    → IsRead (Ok j) b c → (c.clean → b.stands → IsListed (pick.Outstanding day) b.firm j)
    → limits.lacks_statement ≡ false → limits.is_purged ≡ j.is_purged
    → new ≡ old ++ outstanding_text day k.list.moves.items k.list.total j.list.moves.items j.list.total
    → c.clean → a.stands → IsAppended limits false (is_purged_at day a.firm) old (outstanding_report day a.firm) new
unfolding outstanding_report
outstanding-told {a} {b} {c} {k} {j} day limits old new first here second there none cut text clean stands =
    let served = second.was_clean clean in
    let transit = here served stands in
    let out = subst (λ (x : Firm). IsListed (pick.Outstanding day) x j) (first.same served stands) (there clean (first.still_stands served stands)) in
    record {
      stated = none;
      cut = cut ∙ out.purged;
      text = text ∙ (λ i. old ++ outstanding_text day (transit.moves i) (transit.total i) (out.moves i) (out.total i));
    }

-- or the approvals
pub approvals-told : (a b : Seen) {read : ReadApprovals} (s : Span) (lines : List IssuedPayment) (limits : Limits) (old new : List ℕ)
    → (b.clean → a.stands → AreApprovalsRead s a.firm read)
    → lines ≡ approvals_of read.approvals → limits.lacks_statement ≡ false → limits.is_purged ≡ read.approvals.purged
    → new ≡ old ++ approvals_text s lines read.unread.items
    → b.clean → a.stands → IsAppended limits false (is_purged_within s a.firm) old (approvals_report s a.firm) new
unfolding approvals_report
approvals-told a b {read} s lines limits old new told listed none cut text clean stands =
    let whole = told clean stands in
    let is = whole.approvals in
    let made = approvals-kept s a.firm in
    record {
      stated = none;
      cut = cut ∙ (ap (λ (k : ApprovalsKept). k.purged) is ∙ made.purged);
      text =
          text
          ∙ (ap (λ (vs : List IssuedPayment). old ++ approvals_text s vs read.unread.items) (listed ∙ (ap approvals_of is ∙ made.lines))
          ∙ ap (λ (unread : List (Option ℕ)). old ++ approvals_text s (approvals s a.firm) unread) whole.unread);
    }

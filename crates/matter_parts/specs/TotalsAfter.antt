-- How the totals and what is left of entries change, computed from the loaded entries.
use Rattle.std.specs.Prelude.{◌≡◌, ℕ, ◌+◌, ◌≤◌, [], Option, Some, None, ℤ, pos, ◌+ℤ◌, ◌-ℤ◌}
use Rattle.matter_rows.specs.declared.shares.Shares.{Shares}
use Rattle.matter_rows.specs.declared.movement.EntryMovement.{EntryMovement}
use Rattle.matter_rows.specs.declared.limits.TheConstants.{MAX_TOTAL}
use Rattle.matter_rows.specs.declared.entry.Entry.{Entry}
use Rattle.matter_rows.specs.Shares.{shares_of, no_shares, worth, draw, target, AreSmallShares, IsSmallShare}
use Rattle.matter_rows.specs.Events.{events_of, events_in, moved_beyond}
use Rattle.matter_parts.specs.declared.figures.Figures.{Figures}
use Rattle.matter_parts.specs.declared.kept.Kept.{Kept}
use Rattle.matter_parts.specs.declared.edit.Numbered.{Numbered}
use Rattle.matter_parts.specs.declared.edit.Edit.{Edit}
use Rattle.matter_parts.specs.declared.edit.Edit.TheVariants as edit
use Rattle.matter_parts.specs.declared.change.Left.{Left}
use Rattle.matter_parts.specs.declared.change.Before.{Before}
use Rattle.matter_parts.specs.declared.change.TotalsAfter.{TotalsAfter}
use Rattle.matter_parts.specs.Parts.{Part, no_figures, kept_at, entry_in}
use Rattle.matter_parts.specs.Changes.{MatterChange}

abbrev pub TheTotalsAfter : Type 0
TheTotalsAfter = TotalsAfter

-- each total of g is that of f, less what one entry added to it, plus what another adds
pub record FiguresMoved (f : Figures) (entries : ℕ) (out shares : Shares) (g : Figures) : Type 0 where
  pub count : g.entries ≡ entries
  pub pending : pos g.pending ≡ (pos f.pending -ℤ out.pending) +ℤ shares.pending
  pub held : pos g.held ≡ (pos f.held -ℤ out.held) +ℤ shares.held
  pub available : pos g.available ≡ (pos f.available -ℤ out.available) +ℤ shares.available
  pub disputed : pos g.disputed ≡ (pos f.disputed -ℤ out.disputed) +ℤ shares.disputed
  pub fees : pos g.fees ≡ (pos f.fees -ℤ out.fees) +ℤ shares.fees
  pub claims : pos g.claims ≡ (pos f.claims -ℤ out.claims) +ℤ shares.claims

-- what is left of entry t, the fee or claim that is drawn on, falls by what is drawn now, and rises by what was drawn
-- before
abbrev pub OtherCases : Part → ℕ → ℤ → ℤ → Option Left → Type 0
OtherCases m t out draw None = t ≡ 0
OtherCases m t out draw (Some o) =
    (o.number ≡ t) × ((k : Kept) × (kept_at m t ≡ Some k) × (pos o.left ≡ (pos k.left -ℤ draw) +ℤ out))

pub record OtherMoved (m : Part) (t : ℕ) (out draw : ℤ) (o : Option Left) : Type 0 where
  pub cases : OtherCases m t out draw o

-- what an entry counted for before it is written is within the range of a matter
pub record IsSmallBefore (b : Before) : Type 0 where
  pub shares : AreSmallShares b.shares
  pub left : b.left ≤ MAX_TOTAL
  pub worth : IsSmallShare b.worth
  pub draw : IsSmallShare b.draw

-- the figures after an entry is written that counted for b before, and what is left of it and of the one that it names
pub record EntryMoved (m : Part) (entries : ℕ) (b : Before) (e : Entry) (v : TotalsAfter) : Type 0 where
  pub figures : FiguresMoved m.figures entries b.shares (shares_of e) v.figures
  pub left : pos v.left ≡ (pos b.left -ℤ b.worth) +ℤ worth e
  pub other : OtherMoved m (target e) b.draw (draw e) v.other

-- the figures after an entry is added, and what is left of it and of the one that it names
pub record AppendMoved (m : Part) (x : Numbered) (v : TotalsAfter) : Type 0 where
  pub number : x.number ≡ m.figures.entries + 1
  pub figures : FiguresMoved m.figures (m.figures.entries + 1) no_shares (shares_of x.entry) v.figures
  pub left : pos v.left ≡ worth x.entry
  pub other : OtherMoved m (target x.entry) (pos 0) (draw x.entry) v.other

-- the figures after an entry has changed, and what is left of it and of the one that it names
pub record ExchangeMoved (m : Part) (x : Numbered) (k : Kept) (v : TotalsAfter) : Type 0 where
  pub kept : kept_at m x.number ≡ Some k
  pub figures : FiguresMoved m.figures m.figures.entries (shares_of k.entry) (shares_of x.entry) v.figures
  pub left : pos v.left ≡ (pos k.left -ℤ worth k.entry) +ℤ worth x.entry
  pub other : OtherMoved m (target x.entry) (draw k.entry) (draw x.entry) v.other

-- no entry is written: the figures stay, and nothing that is left is written
pub record NoneMoved (m : Part) (v : TotalsAfter) : Type 0 where
  pub figures : v.figures ≡ m.figures
  pub left : v.left ≡ 0
  pub other : v.other ≡ None

-- no entry stays: all totals are zero, and nothing that is left is written
pub record AllPurged (v : TotalsAfter) : Type 0 where
  pub figures : v.figures ≡ no_figures
  pub left : v.left ≡ 0
  pub other : v.other ≡ None

abbrev pub EditMoved : Part → Edit → TotalsAfter → Type 0
EditMoved m (edit.Append x) v = AppendMoved m x v
EditMoved m (edit.Exchange x) v = (k : Kept) × ExchangeMoved m x k v
EditMoved m edit.Nothing v = NoneMoved m v
EditMoved m (edit.Open o) v = NoneMoved m v
EditMoved m (edit.Seat s) v = NoneMoved m v
EditMoved m (edit.Unseat p) v = NoneMoved m v
EditMoved m (edit.Close d) v = NoneMoved m v
EditMoved m (edit.Purge d) v = AllPurged v

-- the movement of an edit in the journal, computed from the loaded entries
abbrev pub movement_kept : Part → Edit → Option EntryMovement
movement_kept m (edit.Append x) = moved_beyond x.number [] (events_of x.entry)
movement_kept m (edit.Exchange x) =
    moved_beyond x.number (events_in (entry_in (kept_at m x.number))) (events_of x.entry)
movement_kept m edit.Nothing = None
movement_kept m (edit.Open o) = None
movement_kept m (edit.Seat s) = None
movement_kept m (edit.Unseat p) = None
movement_kept m (edit.Close d) = None
movement_kept m (edit.Purge d) = None

-- the change that an edit makes to a matter in memory
pub record IsMade (m : Part) (e : Edit) (last : ℕ) (c : MatterChange) : Type 0 where
  pub of_edit : c.edit ≡ e
  pub on_day : c.last ≡ last
  pub moved : EditMoved m e c.moves
  pub movement : c.movement ≡ movement_kept m e

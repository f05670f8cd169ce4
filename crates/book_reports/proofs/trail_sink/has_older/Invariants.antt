use Rattle.std.proofs.Common.{◌≡◌, ℕ, drop, nat_eq}
use Rattle.std.specs.HashMap.{get}
use Rattle.std.specs.List.{list_any}
use Rattle.book_reports.specs.FirmTrails.{is_older}
use Rattle.book_reports.proofs.trail_sink.has_older.Given as goal

-- none so far
abbrev pub invariant-loop-matter : goal.invariant-loop-matter
invariant-loop-matter l =
    list_any (λ (m : ℕ). is_older (get nat_eq l.openings m)) (drop l.matter-index l.matters)
    ≡ list_any (λ (m : ℕ). is_older (get nat_eq l.openings m)) l.matters

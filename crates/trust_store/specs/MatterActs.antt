-- The acts of one matter among those of a firm.
use Rattle.std.specs.Prelude.{ℕ, ◌==◌, List}
use Rattle.std.specs.List.{filter}
use Rattle.firm_rows.specs.declared.matter_act.MatterAct.{MatterAct}

-- in the order of acceptance
abbrev pub acts_in : ℕ → List MatterAct → List MatterAct
acts_in m acts = filter (λ a. a.matter == m) acts

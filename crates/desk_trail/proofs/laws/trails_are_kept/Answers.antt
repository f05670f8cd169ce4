use Rattle.desk_trail.proofs.KeptTrails.{begun-trails_are_whole, each-item_keeps, first-items_keep, older-trails_are_kept, onward, run-stops_keep_trails, runs-keep_trails, steps-keep_trails, stops-keep_trails, unchanged}
use Rattle.desk_trail.proofs.laws.trails_are_kept.Goals as goal

pub returns : goal.returns
returns c = record {
  steps = steps-keep_trails;
  items = each-item_keeps;
  first_items = first-items_keep;
  stops = stops-keep_trails;
  runs = runs-keep_trails;
  run_stops = run-stops_keep_trails;
  unchanged = unchanged;
  onward = onward;
  begun = begun-trails_are_whole;
  older = older-trails_are_kept;
}

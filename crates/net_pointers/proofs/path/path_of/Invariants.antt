-- What is left leads on.
use Rattle.std.proofs.Common.{◌≡◌, ◌++◌, map, drop, option_map, option_and_then}
use Rattle.json.specs.Value.{value_view}
use Rattle.net_plan.specs.Finding.{step_value}
use Rattle.net_pointers.specs.Paths.{path_of}
use Rattle.net_pointers.proofs.path.path_of.Given as goal

abbrev pub invariant-loop-step : goal.invariant-loop-step
invariant-loop-step l =
    option_and_then (λ j. option_map (λ is. l.path.items ++ is) (path_of (map step_value (drop l.step-index l.pointer)) j)) (option_map (λ v. value_view v.now) l.part)
    ≡ path_of (map step_value l.pointer) (value_view l.root)

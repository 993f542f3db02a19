use Rattle.std.proofs.Common.{◌≡◌, map, drop, option_map, option_and_then}
use Rattle.net_plan.{specs.Finding.{step_value}, specs.Trees.{view}}
use Rattle.net_pointers.specs.Pointers.{value_at}
use Rattle.reading_texts.proofs.values.value_at.Given as goal

abbrev pub invariant-loop-step : goal.invariant-loop-step
invariant-loop-step l =
    option_and_then (value_at (map step_value (drop l.step-index l.pointer))) (option_map (λ v. view v.now) l.part) ≡ value_at (map step_value l.pointer) (view l.value)

use Rattle.std.proofs.Common.{◌≡◌, ℕ, ◌-◌, false, List}
use Rattle.pldm_message.specs.InstanceIdValues.{ids_of}
use Rattle.pdr_repository.{specs.ListTermini.{list_records}, specs.Walks.{Exchange, exchanges}, specs.WalkerStates.{state_of}}
use Rattle.plan_commands.specs.Collecting.{IsUnderWay}
use Rattle.plan_commands.proofs.walk.collecting.collect.Given as goal

abbrev pub invariant-loop-walker : goal.invariant-loop-walker
invariant-loop-walker l =
    ((id : ℕ) → (ids_of l.ids).out id ≡ false)
    × (list_records l.terminus ≡ list_records l.fn.terminus)
    × ((xs : List Exchange) × IsUnderWay (list_records l.fn.terminus) l.fn.part.bytes (state_of l.walker) xs)

abbrev pub decreases-loop-walker : goal.decreases-loop-walker
decreases-loop-walker l = exchanges l.fn.part.bytes (list_records l.fn.terminus) - (state_of l.walker).taken

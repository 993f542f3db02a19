-- What nodes that are emulated stand for.
use Rattle.std.specs.Prelude.{◌≡◌, ℕ, List, Some, slice_get}
use Rattle.pdr_repository.specs.Records.{Entry}
use Rattle.emulated_node.{specs.Networks.{States}, specs.Standing.{HasNodeState}, specs.declared.emulated.Emulated.{Emulated}}

-- each of these nodes has its state
abbrev pub HaveStates : {T : Type 0} → (T → ℕ) → (T → List Entry) → List (Emulated T) → States → Type 0
HaveStates {T} tid records nodes s =
    (n : ℕ) (e : Emulated T) → slice_get nodes n ≡ Some e → HasNodeState tid records e (s n)

-- What one entry changes, and its lines.
use Rattle.std.specs.Prelude.{◌≡◌, ℕ, List, ◌++◌, Option}
use Rattle.bus_captures.specs.Values.{EntryValue}
use Rattle.heard_captures.{specs.Seen.{Seen}, specs.Steps.{Sees}, specs.declared.stations.Stations.{Stations}}
use Rattle.plan_values.specs.declared.plan.Plan.{Plan}
use Rattle.decoded_texts.{specs.Decoding.{unit_by}, specs.Seen.{IsToldAs}}

-- the lines of what was seen were added
abbrev pub AddsTold : Option Plan → Seen → List ℕ → List ℕ → Type 0
AddsTold plan seen before after = (told : List ℕ) × IsToldAs plan seen told × (after ≡ before ++ told)

-- an entry was seen within the plan's transmission unit, and its lines were added
pub record AddsStep (old new : Stations) (plan : Option Plan) (e : EntryValue) (before after : List ℕ) : Type 0 where
  pub seen : Seen
  pub sees : Sees (unit_by plan) old new e seen
  pub head : List ℕ
  pub told : List ℕ
  pub tells : IsToldAs plan seen told
  pub joined : after ≡ before ++ (head ++ told)

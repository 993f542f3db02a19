-- Which rows are told of those by which packets go while nodes move from one plan to another.
use Rattle.std.specs.Prelude.{◌≡◌, ℕ, ◌+◌, List, [], ◌++◌, length, slice_get, Option, Some}
use Rattle.plan_values.specs.declared.plan.Plan.{Plan}
use Rattle.net_rules.{specs.declared.mixed_loop.MixedLoop.{MixedLoop}, specs.declared.mixed_loop.Side.{Side}, specs.declared.mixed_loop.Side.TheVariants.{Old, New}, specs.declared.move_fault.MoveFault.{MoveFault}}
use Rattle.command_answers.specs.declared.inputs.PlanText.{PlanText}
use Rattle.explanation_texts.specs.Explanations.{row_for}
use Rattle.fault_texts.specs.Places.{IsPlaceTold, way_pointer}

-- A plan that was read: the name of its file, its text, and the plan.
pub record PlanFile : Type 0 where
  pub name : List ℕ
  pub text : List ℕ
  pub plan : Plan

-- the plan and its text, in a file of this name
abbrev pub file_of : List ℕ → PlanText → PlanFile
file_of name given = record { name = name; text = given.text.items; plan = given.plan }

-- of two such files, that of the side
abbrev pub side_file : PlanFile → PlanFile → Side → PlanFile
side_file before after Old = before
side_file before after New = after

-- the lines begin with where a row of the file's plan stands in its text, and go on with words
abbrev pub IsRowTold : PlanFile → ℕ → Option ℕ → List ℕ → Type 0
IsRowTold file n index lines = (place : List ℕ) × (words : List ℕ)
    × IsPlaceTold file.name file.text (way_pointer n index) place × (lines ≡ place ++ words)

-- so they do of the first row for e that the node has in the plan of the side
abbrev pub IsHopTold : PlanFile → PlanFile → ℕ → ℕ → Side → List ℕ → Type 0
IsHopTold before after e n side lines =
    IsRowTold (side_file before after side) n (row_for (side_file before after side).plan e n).index lines

-- The lines of the first hops of a loop, so many, in their order.
pub data AreHopsTold (before after : PlanFile) (e : ℕ) (nodes : List ℕ) (sides : List Side) :
    ℕ → List ℕ → Type 0 where
  none : AreHopsTold before after e nodes sides 0 []
  more : {hop : ℕ} {lines : List ℕ} (n : ℕ) (side : Side) (line : List ℕ)
      → AreHopsTold before after e nodes sides hop lines
      → slice_get nodes hop ≡ Some n → slice_get sides hop ≡ Some side → IsHopTold before after e n side line
      → AreHopsTold before after e nodes sides (hop + 1) (lines ++ line)

-- the lines tell the row of each hop of the loop, and go on with words
abbrev pub IsMixedLoopTold : PlanFile → PlanFile → MixedLoop → List ℕ → Type 0
IsMixedLoopTold before after loop lines = (hops : List ℕ) × (words : List ℕ)
    × AreHopsTold before after loop.eid.value loop.nodes.items loop.sides.items (length loop.sides.items) hops
    × (lines ≡ hops ++ words)

-- the lines tell the row of a fault of M02, of the plan of the side
abbrev pub IsWayOnTold : PlanFile → PlanFile → Side → MoveFault → List ℕ → Type 0
IsWayOnTold before after side fault lines = IsRowTold (side_file before after side) fault.node fault.entry lines

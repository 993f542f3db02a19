use Rattle.std.{proofs.Common.{rules, ◌≡◌, List, ℕ, Option, Some, None, map, option_map, refl}, specs.Prelude.{MatchOption}}
use Rattle.json.{specs.Json.{Json}, specs.Value.{value_view}}
use Rattle.net_plan.{specs.Finding.{Step, step_value}, specs.Texts.{IsTree}, specs.Trees.{data_of}}
use Rattle.net_pointers.{specs.Offsets.{LeadsTo}, specs.Pointers.{value_at}, specs.Spots.{IsAt}, specs.declared.spots.Spot.{Spot}}
use Rattle.command_questions.specs.declared.form.Form.{Form}
use Rattle.json_commands.specs.Places.{IsPlaceTold, json_pointer, located_data}
use Rattle.json_commands.proofs.places.place_of.Goals as goal

place_told : (form : Form) (name text : List ℕ) (pointer : List Step) (j : Json) (spot : Option Spot) → IsTree text j
    → MatchOption spot (value_at pointer (data_of j) ≡ None) (λ s. LeadsTo text pointer s.offset × IsAt text s.offset s.position)
    → IsPlaceTold form name text pointer (located_data form name (option_map (λ (s : Spot). s.position) spot) (Some (json_pointer pointer)))
place_told form name text pointer j spot whole there = (spot, (j, whole, there), refl)

pub returns : goal.returns
returns c =
    let placing = c.args.placing.now in
    let told = place_told placing.form placing.name.now placing.index.now (map step_value c.args.pointer.now) (value_view placing.tree.now) c.in_ok-spot.spot c.requires.1 c.in_ok-spot.ensures in
    search (rules, told)

-- What a board asks for, and which plans are fit for it.
use Rattle.std.specs.Prelude.{◌≡◌, ◌⊎◌, ℕ, ◌<◌, List, codes, length, None, Some}
use Rattle.toml.specs.Data.{Data, get}
use Rattle.board.specs.declared.board.RecordFile.{RecordFile}
use Rattle.plan_values.{specs.declared.plan.Plan.{Plan}, specs.declared.certificate.Certificate.{Certificate}}
use Rattle.net_rules.specs.Rules.{Accepts}
use Rattle.board_values.specs.Said.{SaysText, item_at}
use Rattle.net_tables.specs.Names.{name_of_node}
use Rattle.net_reached.specs.Wishes.{ReachesNode}
use Rattle.board_kept.specs.Kept.{Keeps}

-- the name stands in the list at `reaches`
abbrev pub ListsName : Data → List ℕ → Type 0
ListsName d name = (i : ℕ) × SaysText (item_at (codes "reaches") i d) name

-- so it is of node b's name
abbrev pub ListsNode : Data → Plan → ℕ → Type 0
ListsNode d plan b = (name : List ℕ) × (name_of_node plan b ≡ Some name) × ListsName d name

-- what stands of a node asks for b: nothing stands at `reaches`, or b's name does
abbrev pub Asks : Data → Plan → ℕ → Type 0
Asks d plan b = (get (codes "reaches") d ≡ None) ⊎ ListsNode d plan b

-- the board asks that a reaches b
abbrev pub AsksFor : Data → Plan → ℕ → ℕ → Type 0
AsksFor board plan a b = (d : Data) × (item_at (codes "node") a board ≡ Some d) × Asks d plan b

-- packets that are put in at a reach all of the plan's nodes for which the board asks there
pub record ReachesAllAsked (board : Data) (plan : Plan) (a : ℕ) : Type 0 where
  pub each : (b : ℕ) → b < length plan.nodes.items → AsksFor board plan a b → ReachesNode plan a b

-- so it is of every node
pub record AllReachAsked (board : Data) (plan : Plan) : Type 0 where
  pub each : (a : ℕ) → a < length plan.nodes.items → ReachesAllAsked board plan a

-- Every rule holds of the plan and the certificate, all that the board gives is in the plan, and every node reaches
-- those for which the board asks.
pub record IsFitFor (files : List RecordFile) (board : Data) (plan : Plan) (certificate : Certificate) : Type 0 where
  pub accepted : Accepts plan certificate
  pub keeps : Keeps files board plan
  pub reaches : AllReachAsked board plan

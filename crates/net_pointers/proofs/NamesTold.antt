-- Names, as the program holds them.
use Rattle.std.proofs.Common.{◌≡◌, ℕ, List, codes, map, Option, Some, None, refl, sym, ap, ◌∙◌}
use Rattle.serde_json.specs.Data.{Data, array}
use Rattle.net_plan.{specs.Names.{names_in, text_at, texts_at}, specs.Trees.{Tree, view, items_view}, proofs.BusNames.{texts_of, node_names_of}}
use Rattle.plan_values.{specs.PlanValues.{name_bytes, node_value, node_names}, specs.declared.nodes.Node.{Node}}
use Rattle.net_pointers.specs.Asks.{texts_in}

-- the names of a list
pub names_seen : (k : List ℕ) (items : List Tree) (v : Data) → v ≡ array (items_view items) → map (λ x. text_at k (view x)) items ≡ texts_at k v
names_seen k items v e = texts_of k items ∙ ap (texts_at k) (sym e)

pub nodes_named : (ns : List Node) → map (λ n. name_bytes n.name) ns ≡ node_names (map node_value ns)
nodes_named ns = node_names_of ns

-- the texts at the key of names are the names
pub texts_are_names : (o : Option Data) → texts_in (codes "name") o ≡ names_in o
texts_are_names None = refl
texts_are_names (Some d) = refl

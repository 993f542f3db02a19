-- The item of a list to which an index leads.
use Rattle.std.{proofs.Common.{◌≡◌, ℕ, suc, List, ◌∷◌, length, Option, Some, None, option_map, Bor, refl, sym, ap, ◌∙◌}, specs.List.{slice_get}, specs.Slice.{IsItemAt}, proofs.lemmas.Option.{slice_get_read, slice_get_past}}
use Rattle.serde_json.specs.Find.{get_item}
use Rattle.net_plan.specs.Trees.{Tree, view, items_view}

item_of_view : (vs : List Tree) (i : ℕ) → get_item i (items_view vs) ≡ option_map view (slice_get vs i)
item_of_view (v ∷ vs) (suc i) = item_of_view vs i
item_of_view vs i = refl

pub item_given : (vs : List Tree) (i : ℕ) (r : Option (Bor Tree)) → IsItemAt vs i r → option_map (λ (v : Bor Tree). view v.now) r ≡ get_item i (items_view vs)
item_given vs i (Some v) h = sym (item_of_view vs i ∙ ap (option_map view) (slice_get_read vs (length vs) i v.now refl h.3.0 h.1))
item_given vs i None h = sym (item_of_view vs i ∙ ap (option_map view) (slice_get_past vs i h.3))

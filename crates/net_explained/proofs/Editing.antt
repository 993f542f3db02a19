-- What an edit of one item makes of a list, and of a plan.
use Rattle.std.{proofs.Common.{◌≡◌, ◌<◌, ◌++◌, ◌∙◌, ℕ, suc, List, Option, Some, None, map, option_map, take, drop, length, slice_get, slice_set, slice_index_or, ap, sym}, specs.Prelude.{IfSome, Vec}, specs.List.{remove}, specs.declared.alloc.Global.{Global}, proofs.lemmas.List.{map-append, map-set, take-map, drop-map}, proofs.lemmas.Option.{slice_get-map, slice_get-get_or}}
use Rattle.plan_values.{specs.NodeValues.{BusValue, NodeValue, bus_value, node_value}, specs.PlanValues.{PlanValue, plan_value}, specs.declared.nodes.Node.{Node}, specs.declared.plan.Plan.{Plan}}
use Rattle.net_explained.{specs.Edits.{IsEdited, changed, with_item}, specs.declared.edit.Edit.{Edit}}

-- ---- lists

pub map_remove : {A B : Type 0} (f : A → B) (xs : List A) (i : ℕ) → map f (remove xs i) ≡ remove (map f xs) i
map_remove f xs i = map-append f (take i xs) (drop (suc i) xs)
    ∙ (ap (λ z. z ++ map f (drop (suc i) xs)) (sym (take-map f i xs)) ∙ ap (λ z. take i (map f xs) ++ z) (sym (drop-map f (suc i) xs)))

-- the item that is read at an index
pub item_there : {A : Type 0} (xs : List A) (i : ℕ) (x : A) → i < length xs → x ≡ slice_index_or xs i x → slice_get xs i ≡ Some x
item_there xs i x within is = slice_get-get_or xs i x within ∙ ap Some (sym is)

pub item_changed : {A B : Type 0} (f : A → B) (g : B → B) (xs : List A) (i : ℕ) (old new : A) → slice_get xs i ≡ Some old → f new ≡ g (f old)
    → map f (slice_set xs i new) ≡ with_item (map f xs) i (option_map g (slice_get (map f xs) i))
item_changed f g xs i old new is by =
    let found : slice_get (map f xs) i ≡ Some (f old) = slice_get-map f xs i ∙ ap (option_map f) is in
    rw found (map-set f xs i new ∙ ap (λ y. slice_set (map f xs) i y) by)

-- ---- plans

pub edited_so : (plan : Plan) (edit : Edit) (nodes : Vec Node Global) (old new : Node) (found : Option Plan) → slice_get plan.nodes.items edit.node ≡ Some old
    → node_value new ≡ changed edit.change (node_value old) → nodes.items ≡ slice_set plan.nodes.items edit.node new
    → IfSome found (λ (p : Plan). (p.unit ≡ plan.unit) × (p.buses ≡ plan.buses) × (p.nodes ≡ nodes))
    → IfSome found (λ (after : Plan). IsEdited (plan_value plan) edit (plan_value after))
edited_so plan edit nodes old new None is by set whole = tt
edited_so plan edit nodes old new (Some p) is by set whole =
    let xs = plan.nodes.items in
    let i = edit.node in
    let V : ℕ → List BusValue → List NodeValue → PlanValue = λ u bs ns. record { unit = u; buses = bs; nodes = ns } in
    let mapped : map node_value p.nodes.items ≡ slice_set (map node_value xs) i (changed edit.change (node_value old)) =
    ap (λ (v : Vec Node Global). map node_value v.items) whole.2 ∙ (ap (λ z. map node_value z) set ∙ (map-set node_value xs i new ∙ ap (λ y. slice_set (map node_value xs) i y) by)) in
    record {
      node = node_value old;
      there = slice_get-map node_value xs i ∙ ap (option_map node_value) is;
      after_it = ap (λ u. V u (map bus_value p.buses.items) (map node_value p.nodes.items)) whole.0
          ∙ (ap (λ bs. V plan.unit (map bus_value bs.items) (map node_value p.nodes.items)) whole.1 ∙ ap (λ ns. V plan.unit (map bus_value plan.buses.items) ns) mapped);
    }

-- That what is named in a plan stands in the plan's own lists.
use Rattle.std.{proofs.Common.{◌≡◌, ℕ, zero, suc, List, [], ◌∷◌, length, map, Bool, true, false, ◌&&◌, refl, sym, ap, ◌∙◌, slice_get, Some, true≢false}, proofs.lemmas.List.{length-map}, specs.List.{list_all}}
use Rattle.plan_values.{specs.NodeValues.{port_value, row_value, node_value}, specs.Placed.{is_port_placed, is_row_placed, is_node_placed, are_placed, is_placed}, specs.declared.nodes.Node.{Node}}

pub list_all_mapped : {A B : Type 0} (p : B → Bool) (f : A → B) (xs : List A) → list_all p (map f xs) ≡ list_all (λ x. p (f x)) xs
list_all_mapped p f [] = refl
list_all_mapped p f (x ∷ xs) = ap (λ b. p (f x) && b) (list_all_mapped p f xs)

value_placed : (buses nodes : ℕ) (n : Node) → is_node_placed buses nodes (node_value n) ≡ is_placed buses nodes n
value_placed buses nodes n = rw (list_all_mapped (is_port_placed buses) port_value n.ports.items, list_all_mapped (is_row_placed nodes) row_value n.rows.items) refl

values_placed : (buses nodes : ℕ) (ns : List Node) → list_all (is_placed buses nodes) ns ≡ list_all (is_node_placed buses nodes) (map node_value ns)
values_placed buses nodes [] = refl
values_placed buses nodes (n ∷ ns) = rw (value_placed buses nodes n, values_placed buses nodes ns) refl

-- the nodes' values are placed where the nodes are
pub list_all_values : (buses : ℕ) (ns : List Node) → list_all (is_placed buses (length ns)) ns ≡ are_placed buses (map node_value ns)
list_all_values buses ns = values_placed buses (length ns) ns ∙ ap (λ count. list_all (is_node_placed buses count) (map node_value ns)) (sym (length-map ns node_value))

pub both : (a b : Bool) → (a && b) ≡ true → (a ≡ true) × (b ≡ true)
both true b e = (refl, e)
both false b e = absurd (true≢false (sym e))

pub passes : {A : Type 0} (p : A → Bool) (xs : List A) (k : ℕ) (x : A) → list_all p xs ≡ true → slice_get xs k ≡ Some x → p x ≡ true
passes p [] k x all is = cc
passes p (y ∷ ys) zero x all is =
    let same : y ≡ x = cc in
    ap p (sym same) ∙ (both (p y) (list_all p ys) all).0
passes p (y ∷ ys) (suc k) x all is = passes p ys k x (both (p y) (list_all p ys) all).1 is

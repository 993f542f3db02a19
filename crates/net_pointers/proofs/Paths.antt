-- The path of indices along which a pointer leads, as it is gone.
use Rattle.std.{proofs.Common.{◌≡◌, ◌<◌, ◌≤◌, ℕ, zero, suc, Bool, true, false, cond, List, [], ◌∷◌, ◌++◌, length, get_or, Option, Some, None, option_map, option_and_then, Bor, refl, sym, ap, ap₂, ◌∙◌, subst, append_assoc, arith}, specs.Option.{option_or}, specs.Slice.{IsItemAt}, specs.Str.{bytes_eq}}
use Rattle.json.{specs.Find.{later_or}, specs.Json.{Json, null, array, object, Items, no_items, item, Members, no_members, member}, specs.Value.{value_view, items_view, members_view}, proofs.Found.{Some_inj, not_found}}
use Rattle.serde_json.specs.Find.{get_item}
use Rattle.net_plan.{specs.Finding.{Step, key, index}, specs.Trees.{Tree, data_of, items_of}, proofs.Trees.{get_of}}
use Rattle.net_pointers.{specs.Doubles.{item_at, member_at, part_after, part_at}, specs.Paths.{last_index, index_after, path_of}, specs.Pointers.{value_after, value_at}, proofs.Doubling.{item_of_view, member_of_view}, proofs.Readings.{and_then_parts}}
use Rattle.json.specs.Find as find

-- an index was added to those in front
added : (front : List ℕ) (i : ℕ) (o : Option (List ℕ)) → option_map (λ is. (front ++ i ∷ []) ++ is) o ≡ option_map (λ is. front ++ is) (option_map (λ is. i ∷ is) o)
added front i None = refl
added front i (Some is) = ap Some (append_assoc front (i ∷ []) is)

-- ---- parts by index

pub item_there : (vs : List Tree) (i : ℕ) (v : Tree) → i < length vs → v ≡ get_or vs i v → Some (value_view v) ≡ item_at i (items_view vs)
item_there vs i v within is = sym (item_of_view vs i v within ∙ ap (λ (x : Tree). Some (value_view x)) (sym is))

no_item : (vs : List Tree) (i : ℕ) → length vs ≤ i → None ≡ item_at i (items_view vs)
no_item [] i past = refl
no_item (w ∷ vs) zero past = absurd (omega arith)
no_item (w ∷ vs) (suc i) past = no_item vs i (omega arith)

pub item_given : (vs : List Tree) (i : ℕ) (r : Option (Bor Tree)) → IsItemAt vs i r → option_map (λ (v : Bor Tree). value_view v.now) r ≡ item_at i (items_view vs)
item_given vs i (Some v) at = item_there vs i v.now at.3.0 at.1
item_given vs i None at = no_item vs i at.3

pub member_there : (ms : List (Bor (List ℕ) × Tree)) (i : ℕ) (m : Bor (List ℕ) × Tree) → i < length ms → m ≡ get_or ms i m → Some (value_view m.1) ≡ member_at i (members_view ms)
member_there ms i m within is = sym (member_of_view ms i m within ∙ ap (λ (x : Bor (List ℕ) × Tree). Some (value_view x.1)) (sym is))

pub no_member : (ms : List (Bor (List ℕ) × Tree)) (i : ℕ) → length ms ≤ i → None ≡ member_at i (members_view ms)
no_member [] i past = refl
no_member (n ∷ ms) zero past = absurd (omega arith)
no_member (n ∷ ms) (suc i) past = no_member ms i (omega arith)

-- ---- the value to which a pointer leads

-- the value of the last member with a key stands at its index
abbrev IsLast : List ℕ → Members → Option ℕ → Type 0
IsLast k ms None = find.get_member k ms ≡ None
IsLast k ms (Some i) = (e : Json) × (member_at i ms ≡ Some e) × (find.get_member k ms ≡ Some e)

one_earlier : (k l : List ℕ) (j : Json) (ms : Members) (o : Option ℕ) (b : Bool) → bytes_eq l k ≡ b → IsLast k ms o → IsLast k (member l j ms) (option_or (option_map suc o) (cond b (Some 0) None))
one_earlier k l j ms (Some i) b e h = (h.0, h.1, ap (λ x. later_or x (cond (bytes_eq l k) (Some j) None)) h.2)
one_earlier k l j ms None true e h = (j, refl, ap₂ later_or h (ap (λ y. cond y (Some j) None) e))
one_earlier k l j ms None false e h = ap₂ later_or h (ap (λ y. cond y (Some j) None) e)

is_last : (k : List ℕ) (ms : Members) → IsLast k ms (last_index k ms)
is_last k no_members = refl
is_last k (member l j ms) = one_earlier k l j ms (last_index k ms) (bytes_eq l k) refl (is_last k ms)

item_seen : (i : ℕ) (js : Items) → get_item i (items_of js) ≡ option_map data_of (item_at i js)
item_seen i no_items = refl
item_seen zero (item j js) = refl
item_seen (suc i) (item j js) = item_seen i js

step_leads : (s : Step) (j e : Json) (i : ℕ) → index_after s j ≡ Some i → part_after i j ≡ Some e → value_after s (data_of j) ≡ Some (data_of e)
step_leads (key k) (object ms) e i p at =
    let last = subst (IsLast k ms) p (is_last k ms) in
    get_of k (object ms) ∙ ap (option_map data_of) (last.2 ∙ sym last.1 ∙ at)
step_leads (index n) (array js) e i p at = item_seen n js ∙ ap (option_map data_of) (ap (λ k. item_at k js) (Some_inj n i p) ∙ at)
step_leads s j e i p at = not_found i p

map_parts : {A B : Type 0} (f : A → B) (o : Option A) (b : B) → option_map f o ≡ Some b → (a : A) × (o ≡ Some a) × (f a ≡ b)
map_parts f None b e = not_found b e
map_parts f (Some a) b e = (a, refl, Some_inj _ _ e)

-- a path leads to the same as a pointer
abbrev pub Leads : List Step → Json → List ℕ → Type 0
Leads ss j path = (e : Json) × (part_at path j ≡ Some e) × (value_at ss (data_of j) ≡ Some (data_of e))

further : (s : Step) (ss : List Step) (j d : Json) (i : ℕ) (is path : List ℕ) → index_after s j ≡ Some i → part_after i j ≡ Some d → i ∷ is ≡ path → Leads ss d is → Leads (s ∷ ss) j path
further s ss j d i is path at part whole rest =
    (rest.0, ap (λ ks. part_at ks j) (sym whole) ∙ ap (option_and_then (part_at is)) part ∙ rest.1, ap (option_and_then (value_at ss)) (step_leads s j d i at part) ∙ rest.2)

pub path_leads : (ss : List Step) (j : Json) (path : List ℕ) → path_of ss j ≡ Some path → Leads ss j path
path_leads [] j path p = (j, ap (λ is. part_at is j) (sym (Some_inj [] path p)), refl)
path_leads (s ∷ ss) j path p =
    let a = and_then_parts (λ i. option_and_then (λ e. option_map (λ is. i ∷ is) (path_of ss e)) (part_after i j)) (index_after s j) path p in
    let b = and_then_parts (λ e. option_map (λ is. a.0 ∷ is) (path_of ss e)) (part_after a.0 j) path a.2 in
    let c = map_parts (λ is. a.0 ∷ is) (path_of ss b.0) path b.2 in
    further s ss j b.0 a.0 c.0 path a.1 b.1 c.2 (path_leads ss b.0 c.0 c.1)

-- ---- a pointer that leads nowhere

no_member_of : (k : List ℕ) (ms : Members) → last_index k ms ≡ None → value_after (key k) (data_of (object ms)) ≡ None
no_member_of k ms e = get_of k (object ms) ∙ ap (option_map data_of) (subst (IsLast k ms) e (is_last k ms))

step_nowhere : (s : Step) (j : Json) → index_after s j ≡ None → value_after s (data_of j) ≡ None
step_nowhere (key k) null e = get_of k null
step_nowhere (key k) (object ms) e = no_member_of k ms e
step_nowhere (index n) (array js) e = not_found n (sym e)
step_nowhere (index n) j e = refl
step_nowhere (key k) j e = get_of k j

part_nowhere : (s : Step) (j : Json) (i : ℕ) → index_after s j ≡ Some i → part_after i j ≡ None → value_after s (data_of j) ≡ None
part_nowhere (key k) (object ms) i p at =
    let last = subst (IsLast k ms) p (is_last k ms) in
    not_found last.0 (sym at ∙ last.1)
part_nowhere (index n) (array js) i p at = item_seen n js ∙ ap (option_map data_of) (ap (λ k. item_at k js) (Some_inj n i p) ∙ at)
part_nowhere s j i p at = not_found i p

pub leads_nowhere : (ss : List Step) (j : Json) → path_of ss j ≡ None → value_at ss (data_of j) ≡ None
leads_nowhere [] j p = not_found [] (sym p)
leads_nowhere (s ∷ ss) j p = by (λ e. leads_nowhere ss e) (index_after s j) refl
  where
    beyond : ((e : Json) → path_of ss e ≡ None → value_at ss (data_of e) ≡ None) → (i : ℕ) (o : Option Json) → index_after s j ≡ Some i → part_after i j ≡ o → value_at (s ∷ ss) (data_of j) ≡ None
    beyond again i None at part = ap (option_and_then (value_at ss)) (part_nowhere s j i at part)
    beyond again i (Some e) at part = ap (option_and_then (value_at ss)) (step_leads s j e i at part) ∙ again e (last_nowhere (path_of ss e) refl)
      where
        last_nowhere : (o : Option (List ℕ)) → path_of ss e ≡ o → path_of ss e ≡ None
        last_nowhere None is = is
        last_nowhere (Some is) there =
            not_found (i ∷ is) (sym p ∙ ap (option_and_then (λ k. option_and_then (λ x. option_map (λ ks. k ∷ ks) (path_of ss x)) (part_after k j))) at ∙ ap (option_and_then (λ x. option_map (λ ks. i ∷ ks) (path_of ss x))) part ∙ ap (option_map (λ ks. i ∷ ks)) there)

    by : ((e : Json) → path_of ss e ≡ None → value_at ss (data_of e) ≡ None) → (o : Option ℕ) → index_after s j ≡ o → value_at (s ∷ ss) (data_of j) ≡ None
    by again None at = ap (option_and_then (value_at ss)) (step_nowhere s j at)
    by again (Some i) at = beyond again i (part_after i j) at refl

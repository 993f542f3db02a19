-- The JSON value of a certificate: it has no float, and nests a few lists and objects.
use Rattle.std.proofs.Common.{◌≡◌, ℕ, codes, suc, ◌≤◌, List, [], ◌∷◌, map, false, Result, Ok, Err, IfOk, refl, ap, arith, slice_index_or, length, zero, ◌<◌}
use Rattle.json.specs.Strict.{HasUniqueKeys, ItemsHaveUniqueKeys}
use Rattle.serde_json.{specs.Data.{Data, depth, items_depth}, specs.View.{items_of}, specs.Written.{has_float, items_have_float, outline, items_outline}}
use Rattle.net_plan.{specs.CertificateJson.{number_data, level_data, places_data, range_data, ranks_data, certificate_data}, proofs.Differing.{differ_sound}}
use Rattle.plan_values.{specs.CertificateValues.{LevelValue, PlacesValue, RangeValue, NodeRanksValue, CertificateValue}, specs.PlanValues.{name_bytes, node_value, node_names}, specs.declared.nodes.Node.{Node}}

pub if_ok : {A E : Type 0} (r : Result A E) (P Q : A → Type 0) → IfOk r P → ((x : A) → P x → Q x) → IfOk r Q
if_ok (Ok x) P Q h step = step x h
if_ok (Err e) P Q h step = tt

pub if_both : {A E : Type 0} (r : Result A E) (P Q S : A → Type 0) → IfOk r P → IfOk r Q → ((x : A) → P x → Q x → S x) → IfOk r S
if_both (Ok x) P Q S h g step = step x h g
if_both (Err e) P Q S h g step = tt

pub map_map : {A B C : Type 0} (f : B → C) (g : A → B) (xs : List A) → map (λ x. f (g x)) xs ≡ map f (map g xs)
map_map f g [] = refl
map_map f g (x ∷ xs) = ap (λ rest. f (g x) ∷ rest) (map_map f g xs)

pub named_at : (ns : List Node) (place : ℕ) (n : Node) → place < length ns → n ≡ slice_index_or ns place n → name_bytes n.name ≡ slice_index_or (node_names (map node_value ns)) place []
named_at [] place n within is = absurd (omega arith)
named_at (m ∷ ns) zero n within is = ap (λ x. name_bytes x.name) is
named_at (m ∷ ns) (suc place) n within is = named_at ns place n (omega arith) is

no_floats_in : {A : Type 0} (f : A → Data) → ((x : A) → has_float (f x) ≡ false) → (xs : List A) → items_have_float (items_of (map f xs)) ≡ false
no_floats_in f none [] = refl
no_floats_in f none (x ∷ xs) = rw (none x, no_floats_in f none xs) refl

pub no_float : (nodes : List (List ℕ)) (c : CertificateValue) → has_float (certificate_data nodes c) ≡ false
unfolding certificate_data
no_float nodes c =
    let places : (p : PlacesValue) → has_float (places_data nodes p) ≡ false = λ p. rw (no_floats_in number_data (λ n. refl) p.places) refl in
    let ranks : (r : NodeRanksValue) → has_float (ranks_data nodes r) ≡ false = λ r. rw (no_floats_in range_data (λ x. refl) r.ranges) refl in
    rw (no_floats_in (level_data nodes) (λ l. refl) c.levels, no_floats_in (places_data nodes) places c.places, no_floats_in (ranks_data nodes) ranks c.ranks) refl

shallow : {A : Type 0} (f : A → Data) (n : ℕ) → ((x : A) → depth (f x) ≤ n) → (xs : List A) → items_depth (items_of (map f xs)) ≤ n
shallow f n low [] = omega arith
shallow f n low (x ∷ xs) = let here = low x in let rest = shallow f n low xs in omega (arith, here, rest)

pub few_deep : (nodes : List (List ℕ)) (c : CertificateValue) → depth (certificate_data nodes c) ≤ 127
unfolding certificate_data
few_deep nodes c =
    let places : (p : PlacesValue) → depth (places_data nodes p) ≤ 2 = λ p. let deep : items_depth (items_of (map number_data p.places)) ≤ 0 = shallow number_data 0 (λ n. omega arith) p.places in omega (arith, deep) in
    let ranks : (r : NodeRanksValue) → depth (ranks_data nodes r) ≤ 3 = λ r. let deep : items_depth (items_of (map range_data r.ranges)) ≤ 1 = shallow range_data 1 (λ x. omega arith) r.ranges in omega (arith, deep) in
    let a : items_depth (items_of (map (level_data nodes) c.levels)) ≤ 1 = shallow (level_data nodes) 1 (λ l. omega arith) c.levels in
    let b : items_depth (items_of (map (places_data nodes) c.places)) ≤ 2 = shallow (places_data nodes) 2 places c.places in
    let d : items_depth (items_of (map (ranks_data nodes) c.ranks)) ≤ 3 = shallow (ranks_data nodes) 3 ranks c.ranks in
    omega (arith, a, b, d)

unique_items : {A : Type 0} (f : A → Data) → ((x : A) → HasUniqueKeys (outline (f x))) → (xs : List A) → ItemsHaveUniqueKeys (items_outline (items_of (map f xs)))
unique_items f unique [] = tt
unique_items f unique (x ∷ xs) = (unique x, unique_items f unique xs)

-- no object of a certificate's value has a key twice
pub unique_keys : (nodes : List (List ℕ)) (c : CertificateValue) → HasUniqueKeys (outline (certificate_data nodes c))
unfolding certificate_data
unique_keys nodes c =
    let numbers : (ns : List ℕ) → ItemsHaveUniqueKeys (items_outline (items_of (map number_data ns))) = λ ns. unique_items number_data (λ n. tt) ns in
    let level : (l : LevelValue) → HasUniqueKeys (outline (level_data nodes l)) = λ l. (differ_sound (codes "level" ∷ codes "node" ∷ []) refl, (tt, (tt, tt))) in
    let places : (p : PlacesValue) → HasUniqueKeys (outline (places_data nodes p)) = λ p. (differ_sound (codes "node" ∷ codes "places" ∷ []) refl, (tt, (numbers p.places, tt))) in
    let range : (r : RangeValue) → HasUniqueKeys (outline (range_data r)) = λ r. (differ_sound (codes "first" ∷ codes "rank" ∷ codes "size" ∷ []) refl, (tt, (tt, (tt, tt)))) in
    let ranks : (r : NodeRanksValue) → HasUniqueKeys (outline (ranks_data nodes r)) = λ r. (differ_sound (codes "node" ∷ codes "ranges" ∷ []) refl, (tt, (unique_items range_data range r.ranges, tt))) in (
      differ_sound (codes "format" ∷ codes "levels" ∷ codes "places" ∷ codes "ranks" ∷ []) refl,
      (tt, (unique_items (level_data nodes) level c.levels, (unique_items (places_data nodes) places c.places, (unique_items (ranks_data nodes) ranks c.ranks, tt)))),
    )

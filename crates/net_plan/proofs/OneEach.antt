-- Entries of a list, each of another node.
use Rattle.std.{proofs.Common.{◌≡◌, ◌≢◌, ℕ, zero, suc, ◌<◌, List, [], ◌∷◌, length, map, get_or, codes, Some, Ok, refl, sym, ap, ◌∙◌, arith, AllPairs, slice_get}, proofs.lemmas.List.{length-map, get_or-map}, proofs.lemmas.List.Elements.{All-from_recursion}, specs.List.{AllByRecursion, All}}
use Rattle.serde_json.specs.Data.{Data, Items, no_items, item}
use Rattle.net_plan.{specs.CertificateReading.{nodes_differ}, specs.Json.{at_key, demand, found}, specs.JsonWords.{At, IsListOf, IsIndexOfName, IsFirstOf, AreItems}, specs.Names.{index_among, names_differ, text_found, text_at, each_text_at, texts_at}, specs.Reading.{then_with}, specs.declared.error.ValueFault.TheVariants.{Doubled}, proofs.Differing.{differ_sound, differ_whole}, proofs.WordsLaw.{first_only}, proofs.Telling.{demanded}}

stands_at : (names : List (List ℕ)) (k : ℕ) (name : List ℕ) → slice_get names k ≡ Some name → get_or names k [] ≡ name
stands_at (n ∷ ns) (suc k) name is = stands_at ns k name is
stands_at names k name is = cc

module _ {A : Type 0} (R : Data → A → Type 0) (node_of : A → ℕ) (nodes : List (List ℕ)) (named : (d : Data) (x : A) → R d x → At (codes "node") (IsIndexOfName nodes) d (node_of x)) where
  abbrev IsItsFirst : A → Type 0
  IsItsFirst x = IsFirstOf nodes (get_or nodes (node_of x) []) (node_of x)

  names_here : (ds : Items) (xs : List A) → AreItems R ds xs → each_text_at (codes "node") ds ≡ map (λ x. get_or nodes (node_of x) []) xs
  names_here no_items [] h = refl
  names_here (item d ds) (x ∷ xs) h = rw (here, names_here ds xs h.1) refl
    where
      here : text_at (codes "node") d ≡ get_or nodes (node_of x) []
      here = let place = named d x h.0 in ap text_found (place.1 ∙ ap Some place.2.1.0) ∙ sym (stands_at nodes (node_of x) place.2.0 place.2.2.stands)
  names_here ds xs h = absurd h

  firsts : (ds : Items) (xs : List A) → AreItems R ds xs → AllByRecursion IsItsFirst xs
  firsts no_items [] h = tt
  firsts (item d ds) (x ∷ xs) h = (here, firsts ds xs h.1)
    where
      here : IsItsFirst x
      here = let place = named d x h.0 in rw (stands_at nodes (node_of x) place.2.0 place.2.2.stands) place.2.2
  firsts ds xs h = absurd h

  apart_sound : (xs : List A) → AllPairs (λ a b. a ≢ b) (map (λ x. get_or nodes (node_of x) []) xs) → AllPairs (λ a b. node_of a ≢ node_of b) xs
  apart_sound xs h i j d below within same =
      let f : A → List ℕ = λ x. get_or nodes (node_of x) [] in
      let in_i : i < length xs = omega arith in
      let in_map : j < length (map f xs) = omega (arith, length-map xs f) in
      h i j [] below in_map (get_or-map f xs i d [] in_i ∙ ap (λ k. get_or nodes k []) same ∙ sym (get_or-map f xs j d [] within))

  apart_whole : (xs : List A) → All IsItsFirst xs → AllPairs (λ a b. node_of a ≢ node_of b) xs → AllPairs (λ a b. a ≢ b) (map (λ x. get_or nodes (node_of x) []) xs)
  apart_whole [] first h i j e below within same = absurd (omega arith)
  apart_whole (x ∷ xs) first h i j e below within same =
      let f : A → List ℕ = λ x. get_or nodes (node_of x) [] in
      let all = x ∷ xs in
      let in_j : j < length all = omega (arith, length-map all f) in
      let in_i : i < length all = omega arith in
      let one = get_or all i x in
      let other = get_or all j x in
      let names : f one ≡ f other = sym (get_or-map f all i x e in_i) ∙ same ∙ get_or-map f all j x e in_j in
      h i j x below in_j (sym (first_only nodes (f one) (node_of one) (first i x in_i)) ∙ ap (index_among nodes) names ∙ first_only nodes (f other) (node_of other) (first j x in_j))

  pub differ_tells : (d : Data) (xs : List A) (u : Unit {0}) → IsListOf R d xs → nodes_differ d ≡ Ok u → AllPairs (λ a b. node_of a ≢ node_of b) xs
  differ_tells d xs u h e =
      let names = ap (texts_at (codes "node")) h.1 ∙ names_here h.0 xs h.2 in
      let differ = demanded Doubled (names_differ (texts_at (codes "node") d)) u e in
      apart_sound xs (differ_sound (map (λ x. get_or nodes (node_of x) []) xs) (ap names_differ (sym names) ∙ differ))

  pub differ_told : (d : Data) (xs : List A) → IsListOf R d xs → AllPairs (λ a b. node_of a ≢ node_of b) xs → nodes_differ d ≡ Ok tt
  differ_told d xs h apart =
      let names = ap (texts_at (codes "node")) h.1 ∙ names_here h.0 xs h.2 in
      let differ = differ_whole (map (λ x. get_or nodes (node_of x) []) xs) (apart_whole xs (All-from_recursion IsItsFirst xs (firsts h.0 xs h.2)) apart) in
      ap (demand Doubled) (ap names_differ names ∙ differ)

  pub at_tells : (key : List ℕ) (d : Data) (xs : List A) (u : Unit {0}) → At key (IsListOf R) d xs → at_key key nodes_differ d ≡ Ok u → AllPairs (λ a b. node_of a ≢ node_of b) xs
  at_tells key d xs u h e = differ_tells h.0 xs u h.2 (sym (ap (λ o. then_with (found o) nodes_differ) h.1) ∙ e)

  pub at_told : (key : List ℕ) (d : Data) (xs : List A) → At key (IsListOf R) d xs → AllPairs (λ a b. node_of a ≢ node_of b) xs → at_key key nodes_differ d ≡ Ok tt
  at_told key d xs h apart = ap (λ o. then_with (found o) nodes_differ) h.1 ∙ differ_told h.0 xs h.2 apart

-- Keys that stand once in their object, and the trees of texts.
use Rattle.std.proofs.Common.{◌≡◌, ℕ, List, [], ◌∷◌, map, true, ◌&&◌, Option, Some, None, option_and_then, Bor, refl, sym, ap, ◌∙◌, subst, append-nil}
use Rattle.json.{specs.Json.{Json, array, object, Items, no_items, item, Members, no_members, member, value, if_last}, specs.Lex.{tokens}, specs.Strict.{keys, HasUniqueKeys, ItemsHaveUniqueKeys, MembersHaveUniqueKeys}, specs.Token.{Token}, specs.Tree.{json_tokens}, specs.Value.{members_view}, proofs.Unique.Places.{DistinctEverywhere, DistinctEverywhere-from_unique, HasUniqueKeys-from_places}, proofs.Unique.Spelling.{value-json_tokens_back}}
use Rattle.serde_json.{specs.Data.{Data}, specs.Read.{of_json, max_depth, read}}
use Rattle.net_plan.{specs.Names.{names_differ}, specs.SingleKeys.{single, items_single, members_single}, specs.Texts.{IsTree, HasSingleKeys, HasDoubledKey}, specs.Trees.{Tree}, proofs.Differing.{differ_sound, differ_whole}, proofs.Telling.{both}}

pub keys_of : (ms : List (Bor (List ℕ) × Tree)) → keys (members_view ms) ≡ map (λ m. m.0.now) ms
keys_of [] = refl
keys_of (m ∷ ms) = ap (λ rest. m.0.now ∷ rest) (keys_of ms)

-- ---- the test decides

mutual
  pub single_sound : (j : Json) → single j ≡ true → HasUniqueKeys j
  single_sound (array js) e = items_sound js e
  single_sound (object ms) e = let p = both (names_differ (keys ms)) (members_single ms) e in (differ_sound (keys ms) p.0, members_sound ms p.1)
  single_sound j e = tt

  items_sound : (js : Items) → items_single js ≡ true → ItemsHaveUniqueKeys js
  items_sound no_items e = tt
  items_sound (item j js) e = let p = both (single j) (items_single js) e in (single_sound j p.0, items_sound js p.1)

  members_sound : (ms : Members) → members_single ms ≡ true → MembersHaveUniqueKeys ms
  members_sound no_members e = tt
  members_sound (member k j ms) e = let p = both (single j) (members_single ms) e in (single_sound j p.0, members_sound ms p.1)

mutual
  pub single_whole : (j : Json) → HasUniqueKeys j → single j ≡ true
  single_whole (array js) h = items_whole js h
  single_whole (object ms) h = ap (λ b. b && members_single ms) (differ_whole (keys ms) h.0) ∙ members_whole ms h.1
  single_whole j h = refl

  items_whole : (js : Items) → ItemsHaveUniqueKeys js → items_single js ≡ true
  items_whole no_items h = refl
  items_whole (item j js) h = ap (λ b. b && items_single js) (single_whole j h.0) ∙ items_whole js h.1

  members_whole : (ms : Members) → MembersHaveUniqueKeys ms → members_single ms ≡ true
  members_whole no_members h = refl
  members_whole (member k j ms) h = ap (λ b. b && members_single ms) (single_whole j h.0) ∙ members_whole ms h.1

-- ---- a text has one tree

pub whole_tree : (text : List ℕ) (j : Json) → value max_depth (tokens text) ≡ Some (j, []) → IsTree text j
whole_tree text j e = ap (option_and_then (λ p. if_last p.0 p.1)) e

no_tree : {A : Type 0} {x : A} → None ≡ Some x → ⊥
no_tree e = cc

same_tree : {A : Type 0} {x y : A} → Some x ≡ Some y → x ≡ y
same_tree e = cc

-- its tokens are the tree's
pub tree_tokens : (text : List ℕ) (j : Json) → IsTree text j → tokens text ≡ json_tokens j
tree_tokens text j is = by (value max_depth (tokens text)) refl is
  where
    by : (o : Option (Json × List Token)) → value max_depth (tokens text) ≡ o → option_and_then (λ p. if_last p.0 p.1) o ≡ Some j → tokens text ≡ json_tokens j
    by None e h = absurd (no_tree h)
    by (Some (i, [])) e h = value-json_tokens_back max_depth (tokens text) [] i e ∙ append-nil (json_tokens i) ∙ ap json_tokens (same_tree h)
    by (Some (i, t ∷ ts)) e h = absurd (no_tree h)

-- a text of a value has a tree
pub tree_of : (text : List ℕ) (d : Data) → read text ≡ Some d → (j : Json) × IsTree text j
tree_of text d e = by (option_and_then (λ p. if_last p.0 p.1) (value max_depth (tokens text))) refl e
  where
    by : (o : Option Json) → option_and_then (λ p. if_last p.0 p.1) (value max_depth (tokens text)) ≡ o → option_and_then of_json o ≡ Some d → (j : Json) × IsTree text j
    by None is h = absurd (no_tree h)
    by (Some j) is h = (j, is)

-- a text that was written of a tree without doubled keys has none
pub single_written : (text : List ℕ) (d : Data) (written : Json) → read text ≡ Some d → tokens text ≡ json_tokens written → HasUniqueKeys written → HasSingleKeys text
single_written text d written back same unique =
    let here = tree_of text d back in
    (here.0, here.1, HasUniqueKeys-from_places here.0 (subst DistinctEverywhere (sym same ∙ tree_tokens text here.0 here.1) (DistinctEverywhere-from_unique written unique)))

pub not_doubled : (text : List ℕ) → HasSingleKeys text → HasDoubledKey text → ⊥
not_doubled text one two = two.2 (subst HasUniqueKeys (same_tree (sym one.1 ∙ two.1)) one.2)

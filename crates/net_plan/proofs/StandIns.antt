-- Values that stand for others.
use Rattle.std.{proofs.Common.{◌≡◌, ◌&&◌, ◌≢◌, ◌≤◌, ℕ, List, [], ◌∷◌, ◌++◌, length, map, Bool, true, false, cond, is_some, Option, Some, None, option_map, codes, Vec, Global, Bor, inl, inr, refl, ap, ◌∙◌, sym, subst, true≢false, append_assoc, rules}, proofs.lemmas.Bool.{and_from, ltb-true}, proofs.lemmas.List.{length-map}, specs.List.{list_all}, proofs.lemmas.Slice.Eq.{bytes_eq-Decides}, specs.Str.{bytes_eq}}
use Rattle.json.{specs.Find.{later_or, get_member}, specs.Json.{Json, null, object, Items, no_items, item, Members, no_members, member}, specs.Strict.{keys}, specs.declared.value.Value.{Null, the_lemmas}, specs.Value.{value_view, members_view}}
use Rattle.serde_json.{specs.Data.{Data}, specs.Find.{get}}
use Rattle.net_plan.{specs.Gathered.{with_last, IsPlain, EachIs}, specs.JsonWords.{HasKeys, At, AreItems, IsShortListOf, IsOptional, IsNumberWithin, IsName, IsIndexOfName}, specs.Keys.{node_keys, plan_keys}, specs.Names.{names_differ, index_among}, specs.PlanText.{IsByte, IsBusOf, IsPortOf, IsRowOf, IsPoolOf, IsTerminusOf, IsKindOf, IsNodeOf, IsPlanFormat, IsUnitOf, IsPlanOf}, specs.SingleKeys.{single, items_single, members_single}, specs.Skeleton.{IsStandIn, AreStandIns, IsCutTerminus, IsCutRows, IsCutNodes, IsNodeSkeleton, CutValue, cut_value, placed_value, found_row, found_value, with_part, with_parts}, specs.RowParts.{NamedRowValue, IsNamedRowOf, named_row}, specs.Trees.{Tree, view, items_view, data_of, items_of, members_of, fits, items_fit, members_fit}, specs.declared.plan_format.PlanFormat.{PlanFormat}, specs.declared.plan_format.PlanFormat.TheVariants.{One, Two}, specs.declared.row_parts.NamedRow.{NamedRow}, specs.declared.skeleton.CutParts.{CutParts}, specs.declared.skeleton.NodeSkeleton.{NodeSkeleton}, specs.declared.skeleton.PlacedParts.{PlacedParts}, proofs.WordsLaw.{same_Some, first_within}, proofs.Gathered.{is_some_map, no_Some}, proofs.Telling.{both}, proofs.Trees.{get_of}}
use Rattle.plan_values.{specs.PlanValues.{PlanValue, NodeValue, TerminusValue, node_value, terminus_value, bus_names, node_names}, specs.Placed.{is_owner_placed, is_port_placed, is_row_placed, is_node_placed, are_placed}, specs.declared.nodes.Node.{Node}, specs.declared.terminus.PlannedTerminus.{PlannedTerminus}, specs.NameText.{is_name}, proofs.Placed.{passes}}
use Rattle.json.specs.Value as trees
use Rattle.serde_json.specs.Data as whole
use Rattle.serde_json.specs.Find as find

pub view_last : (ms : List (Bor (List ℕ) × Tree)) (k : Bor (List ℕ)) (v : Tree) → members_view (ms ++ (k, v) ∷ []) ≡ with_last (members_view ms) k.now (value_view v)
view_last [] k v = refl
view_last (m ∷ ms) k v = ap (member m.0.now (value_view m.1)) (view_last ms k v)

module _ (cut : List ℕ) where
  pub stand_ins_last : (R : Json → Json → Type 0) (ms ls : Members) (k : List ℕ) (j l : Json) → AreStandIns cut R ms ls → IsStandIn cut R k j l → AreStandIns cut R (with_last ms k j) (with_last ls k l)
  stand_ins_last R no_members no_members k j l h r = (refl, r, tt)
  stand_ins_last R (member i m ms) (member o n ls) k j l h r = (h.0, h.1, stand_ins_last R ms ls k j l h.2 r)
  stand_ins_last R ms ls k j l h r = absurd h

  stand_in_map : (R S : Json → Json → Type 0) → ((j l : Json) → R j l → S j l) → (k : List ℕ) (j l : Json) → IsStandIn cut R k j l → IsStandIn cut S k j l
  stand_in_map R S f k j l (inl h) = inl (h.0, f j l h.1)
  stand_in_map R S f k j l (inr h) = inr h

  pub stand_ins_map : (R S : Json → Json → Type 0) → ((j l : Json) → R j l → S j l) → (ms ls : Members) → AreStandIns cut R ms ls → AreStandIns cut S ms ls
  stand_ins_map R S f no_members no_members h = tt
  stand_ins_map R S f (member i m ms) (member o n ls) h = (h.0, stand_in_map R S f i m n h.1, stand_ins_map R S f ms ls h.2)
  stand_ins_map R S f ms ls h = absurd h

  -- the same of what is found at a name
  abbrev Alike : (Json → Json → Type 0) → List ℕ → Option Json → Option Json → Type 0
  Alike R name None None = Unit {0}
  Alike R name (Some j) (Some l) = IsStandIn cut R name j l
  Alike R name x y = ⊥

  later_alike : (R : Json → Json → Type 0) (name : List ℕ) (o p q r : Option Json) → Alike R name o p → Alike R name q r → Alike R name (later_or o q) (later_or p r)
  later_alike R name None None q r h i = i
  later_alike R name (Some j) (Some l) q r h i = h
  later_alike R name o p q r h i = absurd h

  here_alike : (R : Json → Json → Type 0) (name k : List ℕ) (j l : Json) (b : Bool) → bytes_eq k name ≡ b → IsStandIn cut R k j l → Alike R name (cond b (Some j) None) (cond b (Some l) None)
  here_alike R name k j l true is h = subst (λ n. IsStandIn cut R n j l) ((bytes_eq-Decides k name).0 is) h
  here_alike R name k j l false is h = tt

  found_alike : (R : Json → Json → Type 0) (ms ls : Members) → AreStandIns cut R ms ls → (name : List ℕ) → Alike R name (get_member name ms) (get_member name ls)
  found_alike R no_members no_members h name = tt
  found_alike R (member k j ms) (member i l ls) h name =
      later_alike R name (get_member name ms) (get_member name ls) (cond (bytes_eq k name) (Some j) None) (cond (bytes_eq i name) (Some l) None) (found_alike R ms ls h.2 name)
      (subst (λ i. Alike R name (cond (bytes_eq k name) (Some j) None) (cond (bytes_eq i name) (Some l) None)) h.0 (here_alike R name k j l (bytes_eq k name) refl h.1))
  found_alike R ms ls h name = absurd h

  alike_some : (R : Json → Json → Type 0) (name : List ℕ) (o p : Option Json) → Alike R name o p → is_some o ≡ is_some p
  alike_some R name None (Some l) h = absurd h
  alike_some R name (Some j) None h = absurd h
  alike_some R name o p h = refl

  module _ (R : Json → Json → Type 0) (ms ls : Members) (h : AreStandIns cut R ms ls) where
    pub at_full : {A B : Type 0} (name : List ℕ) (P : Data → A → Type 0) (Q : Data → B → Type 0) (x : A) (y : B) → ((j l : Json) → IsStandIn cut R name j l → P (data_of l) x → Q (data_of j) y)
        → At name P (data_of (object ls)) x → At name Q (data_of (object ms)) y
    at_full name P Q x y step there = by (get_member name ms) (get_member name ls) refl (found_alike R ms ls h name) (sym (get_of name (object ls)) ∙ there.1)
      where
        by : (o p : Option Json) → get_member name ms ≡ o → Alike R name o p → option_map data_of p ≡ Some there.0 → At name Q (data_of (object ms)) y
        by None None is alike e = absurd (no_Some (sym e))
        by (Some j) (Some l) is alike e = (data_of j, get_of name (object ms) ∙ ap (option_map data_of) is, step j l alike (subst (λ d. P d x) (sym (same_Some e)) there.2))
        by None (Some l) is alike e = absurd alike
        by (Some j) None is alike e = absurd alike

    -- at another key
    pub at_same : {A : Type 0} (name : List ℕ) (P : Data → A → Type 0) (x : A) → bytes_eq name cut ≡ false → At name P (data_of (object ls)) x → At name P (data_of (object ms)) x
    at_same name P x other there = at_full name P P x x step there
      where
        step : (j l : Json) → IsStandIn cut R name j l → P (data_of l) x → P (data_of j) x
        step j l (inl s) p = absurd (true≢false (sym ((bytes_eq-Decides name cut).1 s.0) ∙ other))
        step j l (inr s) p = subst (λ i. P (data_of i) x) (sym s.1) p

    -- at the key
    pub at_cut : {A B : Type 0} (P : Data → A → Type 0) (Q : Data → B → Type 0) (x : A) (y : B) → ((j l : Json) → R j l → P (data_of l) x → Q (data_of j) y) → At cut P (data_of (object ls)) x → At cut Q (data_of (object ms)) y
    at_cut P Q x y f there = at_full cut P Q x y step there
      where
        step : (j l : Json) → IsStandIn cut R cut j l → P (data_of l) x → Q (data_of j) y
        step j l (inl s) p = f j l s.1 p
        step j l (inr s) p = absurd (s.0 refl)

    pub keys_full : (keys : List (List ℕ)) → HasKeys keys (data_of (object ls)) → HasKeys keys (data_of (object ms))
    keys_full keys there = (members_of ms whole.no_members, refl, λ k. ((λ some. (there.2 k).0 (sym (same k) ∙ some)), (λ among. same k ∙ (there.2 k).1 among)))
      where
        same : (k : List ℕ) → is_some (get k (data_of (object ms))) ≡ is_some (find.get_member k there.0)
        same k = ap is_some (get_of k (object ms)) ∙ is_some_map data_of (get_member k ms) ∙ alike_some R k (get_member k ms) (get_member k ls) (found_alike R ms ls h k)
            ∙ sym (is_some_map data_of (get_member k ls)) ∙ sym (ap is_some (get_of k (object ls))) ∙ ap (λ d. is_some (get k d)) there.1

  keys_same : (R : Json → Json → Type 0) (ms ls : Members) → AreStandIns cut R ms ls → keys ms ≡ keys ls
  keys_same R no_members no_members h = refl
  keys_same R (member k j ms) (member i l ls) h = ap (λ n. n ∷ keys ms) h.0 ∙ ap (λ ns. i ∷ ns) (keys_same R ms ls h.2)
  keys_same R ms ls h = absurd h

  module _ (R : Json → Json → Type 0) (plain : (j l : Json) → R j l → IsPlain l → IsPlain j) where
    here_plain : (k : List ℕ) (j l : Json) → IsStandIn cut R k j l → IsPlain l → IsPlain j
    here_plain k j l (inl s) p = plain j l s.1 p
    here_plain k j l (inr s) p = subst IsPlain (sym s.1) p

    members_plain : (ms ls : Members) → AreStandIns cut R ms ls → members_fit ls ≡ true → members_single ls ≡ true → (members_fit ms ≡ true) × (members_single ms ≡ true)
    members_plain no_members no_members h e f = (refl, refl)
    members_plain (member k j ms) (member i l ls) h e f =
        let p = both (fits l) (members_fit ls) e in
        let q = both (single l) (members_single ls) f in
        let here = here_plain k j l h.1 (p.0, q.0) in
        let rest = members_plain ms ls h.2 p.1 q.1 in
        (and_from (fits j) (members_fit ms) here.0 rest.0, and_from (single j) (members_single ms) here.1 rest.1)
    members_plain ms ls h e f = absurd h

    pub object_full : (ms ls : Members) → AreStandIns cut R ms ls → IsPlain (object ls) → IsPlain (object ms)
    object_full ms ls h p =
        let q = both (names_differ (keys ls)) (members_single ls) p.1 in
        let rest = members_plain ms ls h p.0 q.1 in
        (rest.0, and_from (names_differ (keys ms)) (members_single ms) (ap names_differ (keys_same R ms ls h) ∙ q.0) rest.1)

-- ---- nodes

module _ (nodes : List (List ℕ)) where
  row_full : list_all is_name nodes ≡ true → (d : Data) (r : NamedRowValue) → IsNamedRowOf d r → is_row_placed (length nodes) (found_row (index_among nodes) r) ≡ true → IsRowOf nodes d (found_row (index_among nodes) r)
  row_full spelled d r is pass =
      let here = first_within nodes r.next (ltb-true (index_among nodes r.next) (length nodes) pass) in
      record {
        keys = is.keys;
        first = is.first;
        size = is.size;
        port = is.port;
        next = (is.next.0, is.next.1, (r.next, (is.next.2, passes is_name nodes (index_among nodes r.next) r.next spelled here.stands), here));
      }

  rows_full : list_all is_name nodes ≡ true → (ds : whole.Items) (rs : List NamedRowValue) → AreItems IsNamedRowOf ds rs → list_all (is_row_placed (length nodes)) (map (found_row (index_among nodes)) rs) ≡ true
      → AreItems (IsRowOf nodes) ds (map (found_row (index_among nodes)) rs)
  rows_full spelled whole.no_items [] h pass = tt
  rows_full spelled (whole.item d ds) (r ∷ rs) h pass =
      let p = both (is_row_placed (length nodes) (found_row (index_among nodes) r)) (list_all (is_row_placed (length nodes)) (map (found_row (index_among nodes)) rs)) pass in
      (row_full spelled d r h.0 p.0, rows_full spelled ds rs h.1 p.1)
  rows_full spelled ds rs h pass = absurd h

  short_rows_full : list_all is_name nodes ≡ true → (d : Data) (rs : List NamedRowValue) → IsShortListOf 256 IsNamedRowOf d rs → list_all (is_row_placed (length nodes)) (map (found_row (index_among nodes)) rs) ≡ true
      → IsShortListOf 256 (IsRowOf nodes) d (map (found_row (index_among nodes)) rs)
  short_rows_full spelled d rs h pass = ((h.0.0, h.0.1, rows_full spelled h.0.0 rs h.0.2 pass), subst (λ n. n ≤ 256) (sym (length-map rs (found_row (index_among nodes)))) h.1)

module _ (buses nodes : List (List ℕ)) where
  node_full : list_all is_name nodes ≡ true → (v : NodeValue) (c : CutValue) (ms mid ls : Members) → AreStandIns (codes "terminus") (IsCutTerminus (Some c.terminus)) ms mid → AreStandIns (codes "rows") (IsCutRows (Some c.rows)) mid ls
      → list_all (is_row_placed (length nodes)) (map (found_row (index_among nodes)) c.rows) ≡ true → IsNodeOf buses nodes (data_of (object ls)) v
      → IsNodeOf buses nodes (data_of (object ms)) (with_part v (found_value (index_among nodes) c))
  node_full spelled v c ms mid ls h i pass is =
      let cut = codes "terminus" in
      let R = IsCutTerminus (Some c.terminus) in
      let rows = codes "rows" in
      let S = IsCutRows (Some c.rows) in
      let found = map (found_row (index_among nodes)) c.rows in
      record {
        keys = keys_full cut R ms mid h node_keys (keys_full rows S mid ls i node_keys is.keys);
        name = at_same cut R ms mid h (codes "name") IsName v.name refl (at_same rows S mid ls i (codes "name") IsName v.name refl is.name);
        kind = at_same cut R ms mid h (codes "kind") IsKindOf v.kind refl (at_same rows S mid ls i (codes "kind") IsKindOf v.kind refl is.kind);
        eid = at_same cut R ms mid h (codes "eid") IsByte v.eid refl (at_same rows S mid ls i (codes "eid") IsByte v.eid refl is.eid);
        owner = at_same cut R ms mid h (codes "owner") (IsOptional (IsIndexOfName nodes)) v.owner refl (at_same rows S mid ls i (codes "owner") (IsOptional (IsIndexOfName nodes)) v.owner refl is.owner);
        pool = at_same cut R ms mid h (codes "pool") (IsOptional IsPoolOf) v.pool refl (at_same rows S mid ls i (codes "pool") (IsOptional IsPoolOf) v.pool refl is.pool);
        ports = at_same cut R ms mid h (codes "ports") (IsShortListOf 32 (IsPortOf buses)) v.ports refl (at_same rows S mid ls i (codes "ports") (IsShortListOf 32 (IsPortOf buses)) v.ports refl is.ports);
        rows = at_same cut R ms mid h rows (IsShortListOf 256 (IsRowOf nodes)) found refl
            (at_cut rows S mid ls i (IsShortListOf 256 (IsRowOf nodes)) (IsShortListOf 256 (IsRowOf nodes)) v.rows found (λ j l r p. short_rows_full nodes spelled (data_of j) c.rows r.0 pass) is.rows);
        terminus = at_cut cut R ms mid h (IsOptional IsTerminusOf) (IsOptional IsTerminusOf) v.terminus c.terminus (λ j l r p. r.0)
            (at_same rows S mid ls i (codes "terminus") (IsOptional IsTerminusOf) v.terminus refl is.terminus);
      }

  item_full : list_all is_name nodes ≡ true → (v : NodeValue) (j : Json) (s : NodeSkeleton) → IsNodeSkeleton j s → IsNodeOf buses nodes (view s.value) v
      → list_all (is_row_placed (length nodes)) (map (found_row (index_among nodes)) (cut_value s.parts).rows) ≡ true
      → IsNodeOf buses nodes (data_of j) (with_part v (found_value (index_among nodes) (cut_value s.parts)))
  item_full spelled v j s h is pass =
      subst (λ i. IsNodeOf buses nodes (data_of i) (with_part v (found_value (index_among nodes) (cut_value s.parts)))) (sym h.3)
      (node_full spelled v (cut_value s.parts) h.0 h.1 h.2 h.5 h.6 pass (subst (λ i. IsNodeOf buses nodes (data_of i) v) h.4 is))

  rows_placed : (b : ℕ) (n : NodeValue) → is_node_placed b (length nodes) n ≡ true → list_all (is_row_placed (length nodes)) n.rows ≡ true
  rows_placed b n pass =
      let first = both (is_owner_placed (length nodes) n.owner) (list_all (is_port_placed b) n.ports && list_all (is_row_placed (length nodes)) n.rows) pass in
      (both (list_all (is_port_placed b) n.ports) (list_all (is_row_placed (length nodes)) n.rows) first.1).1

  abbrev filled : List NodeValue → List NodeSkeleton → List NodeValue
  filled vs ss = with_parts vs (map (found_value (index_among nodes)) (map (λ s. cut_value s.parts) ss))

  items_full : list_all is_name nodes ≡ true → (b : ℕ) (js : Items) (ss : List NodeSkeleton) (vs : List NodeValue) → EachIs IsNodeSkeleton js ss → AreItems (IsNodeOf buses nodes) (items_view (map (λ s. s.value) ss)) vs
      → list_all (is_node_placed b (length nodes)) (filled vs ss) ≡ true → AreItems (IsNodeOf buses nodes) (items_of js) (filled vs ss)
  items_full spelled b no_items [] [] h is pass = tt
  items_full spelled b (item j js) (s ∷ ss) (v ∷ vs) h is pass =
      let here = with_part v (found_value (index_among nodes) (cut_value s.parts)) in
      let p = both (is_node_placed b (length nodes) here) (list_all (is_node_placed b (length nodes)) (filled vs ss)) pass in
      (item_full spelled v j s h.0 is.0 (rows_placed b here p.0), items_full spelled b js ss vs h.1 is.1 p.1)
  items_full spelled b no_items [] (v ∷ vs) h is pass = absurd is
  items_full spelled b (item j js) (s ∷ ss) [] h is pass = absurd is
  items_full spelled b js ss vs h is pass = absurd h

  names_filled : (js : Items) (ss : List NodeSkeleton) (vs : List NodeValue) → EachIs IsNodeSkeleton js ss → AreItems (IsNodeOf buses nodes) (items_view (map (λ s. s.value) ss)) vs → node_names (filled vs ss) ≡ node_names vs
  names_filled no_items [] [] h is = refl
  names_filled (item j js) (s ∷ ss) (v ∷ vs) h is = ap (λ ns. v.name ∷ ns) (names_filled js ss vs h.1 is.1)
  names_filled no_items [] (v ∷ vs) h is = absurd is
  names_filled (item j js) (s ∷ ss) [] h is = absurd is
  names_filled js ss vs h is = absurd h

-- the nodes that were read have names
names_spelled : (buses nodes : List (List ℕ)) (ds : whole.Items) (vs : List NodeValue) → AreItems (IsNodeOf buses nodes) ds vs → list_all is_name (node_names vs) ≡ true
names_spelled buses nodes whole.no_items [] h = refl
names_spelled buses nodes (whole.item d ds) (v ∷ vs) h = and_from (is_name v.name) (list_all is_name (node_names vs)) h.0.name.2.1 (names_spelled buses nodes ds vs h.1)
names_spelled buses nodes ds vs h = absurd h

same_items : {ds es : whole.Items} → whole.array ds ≡ whole.array es → ds ≡ es
same_items e = cc

abbrev AreNodes : List (List ℕ) → Data → List NodeValue → Type 0
AreNodes buses d vs = IsShortListOf 64 (IsNodeOf buses (node_names vs)) d vs

-- the nodes of a plan with these parts
abbrev pub all_filled : List NodeValue → List CutValue → List NodeValue
all_filled vs cs = with_parts vs (map (found_value (index_among (node_names vs))) cs)

list_full : (buses : List (List ℕ)) (b : ℕ) (cs : List CutValue) (vs : List NodeValue) (j l : Json) → IsCutNodes (Some cs) j l → are_placed b (all_filled vs cs) ≡ true → AreNodes buses (data_of l) vs
    → AreNodes buses (data_of j) (all_filled vs cs)
list_full buses b cs vs j l h pass is =
    let ss = h.0 in
    let js = h.1.0 in
    let names = node_names vs in
    let same : is.0.0 ≡ items_view (map (λ s. s.value) ss) = same_items (sym is.0.1 ∙ ap data_of h.2) in
    let lean = subst (λ ds. AreItems (IsNodeOf buses names) ds vs) same is.0.2 in
    let all = filled buses names vs ss in
    let named = names_filled buses names js ss vs h.1.2 lean in
    let count : length all ≡ length vs = sym (length-map all (λ n. n.name)) ∙ ap length named ∙ length-map vs (λ n. n.name) in
    let passed : are_placed b all ≡ true = subst (λ us. are_placed b (all_filled vs us) ≡ true) h.3 pass in
    let here : list_all (is_node_placed b (length names)) all ≡ true = ap (λ n. list_all (is_node_placed b n) all) (length-map vs (λ n. n.name) ∙ sym count) ∙ passed in
    let spelled = names_spelled buses names (items_view (map (λ s. s.value) ss)) vs lean in
    let read = items_full buses names spelled b js ss vs h.1.2 lean here in
    let renamed = subst (λ ns. AreItems (IsNodeOf buses ns) (items_of js) all) (sym named) read in
    subst (λ us. AreNodes buses (data_of j) (all_filled vs us)) (sym h.3) ((items_of js, ap data_of h.1.1, renamed), subst (λ n. n ≤ 64) (sym count) is.1)

unit_full : (u : ℕ) (cs : Option (List CutValue)) (ms ls : Members) → AreStandIns (codes "nodes") (IsCutNodes cs) ms ls → (f : PlanFormat) → IsUnitOf f (data_of (object ls)) u → IsUnitOf f (data_of (object ms)) u
unit_full u cs ms ls h One is = is
unit_full u cs ms ls h Two is = at_same (codes "nodes") (IsCutNodes cs) ms ls h (codes "unit") (IsNumberWithin 64 1024) u refl is

pub plan_full : (v : PlanValue) (b : ℕ) (cs : List CutValue) (ms ls : Members) → AreStandIns (codes "nodes") (IsCutNodes (Some cs)) ms ls → are_placed b (all_filled v.nodes cs) ≡ true → IsPlanOf (data_of (object ls)) v
    → IsPlanOf (data_of (object ms)) (record { unit = v.unit; buses = v.buses; nodes = all_filled v.nodes cs })
plan_full v b cs ms ls h pass is =
    let cut = codes "nodes" in
    let R = IsCutNodes (Some cs) in
    record {
      format = is.format;
      numbered = at_same cut R ms ls h (codes "format") IsPlanFormat is.format refl is.numbered;
      keys = keys_full cut R ms ls h (plan_keys is.format) is.keys;
      unit = unit_full v.unit (Some cs) ms ls h is.format is.unit;
      buses = at_same cut R ms ls h (codes "buses") (IsShortListOf 64 IsBusOf) v.buses refl is.buses;
      names = is.names;
      nodes = at_cut cut R ms ls h (AreNodes (bus_names v.buses)) (AreNodes (bus_names v.buses)) v.nodes (all_filled v.nodes cs) (λ j l r p. list_full (bus_names v.buses) b cs v.nodes j l r pass p) is.nodes;
    }

-- ---- plain values

node_plain : (j : Json) (s : NodeSkeleton) → IsNodeSkeleton j s → IsPlain (value_view s.value) → IsPlain j
node_plain j s h p =
    subst IsPlain (sym h.3) (object_full (codes "terminus") (IsCutTerminus (Some (cut_value s.parts).terminus)) (λ j l r p. r.1) h.0 h.1 h.5
    (object_full (codes "rows") (IsCutRows (Some (cut_value s.parts).rows)) (λ j l r p. r.1) h.1 h.2 h.6 (subst IsPlain h.4 p)))

nodes_plain : (js : Items) (ss : List NodeSkeleton) → EachIs IsNodeSkeleton js ss → items_fit (trees.items_view (map (λ s. s.value) ss)) ≡ true → items_single (trees.items_view (map (λ s. s.value) ss)) ≡ true
    → (items_fit js ≡ true) × (items_single js ≡ true)
nodes_plain no_items [] h e f = (refl, refl)
nodes_plain (item j js) (s ∷ ss) h e f =
    let left = trees.items_view (map (λ s. s.value) ss) in
    let p = both (fits (value_view s.value)) (items_fit left) e in
    let q = both (single (value_view s.value)) (items_single left) f in
    let here = node_plain j s h.0 (p.0, q.0) in
    let rest = nodes_plain js ss h.1 p.1 q.1 in
    (and_from (fits j) (items_fit js) here.0 rest.0, and_from (single j) (items_single js) here.1 rest.1)
nodes_plain js ss h e f = absurd h

cut_plain : (ts : List CutValue) (j l : Json) → IsCutNodes (Some ts) j l → IsPlain l → IsPlain j
cut_plain ts j l h p =
    let q = subst IsPlain h.2 p in
    let all = nodes_plain h.1.0 h.0 h.1.2 q.0 q.1 in
    (ap fits h.1.1 ∙ all.0, ap single h.1.1 ∙ all.1)

pub plan_plain : (ts : List CutValue) (ms ls : Members) → AreStandIns (codes "nodes") (IsCutNodes (Some ts)) ms ls → IsPlain (object ls) → IsPlain (object ms)
plan_plain ts ms ls h p = object_full (codes "nodes") (IsCutNodes (Some ts)) (cut_plain ts) ms ls h p

-- ---- before a part was read

pub no_terminus_yet : (o : Option (Option PlannedTerminus)) (t : Option (Option TerminusValue)) → is_some o ≡ false → (j l : Json) → IsCutTerminus (option_map (λ t. option_map terminus_value t) o) j l → IsCutTerminus t j l
no_terminus_yet None t e j l h = absurd h
no_terminus_yet (Some x) t e j l h = absurd (true≢false e)

pub no_rows_yet : (o : Option (Vec NamedRow Global)) (rs : Option (List NamedRowValue)) → is_some o ≡ false → (j l : Json) → IsCutRows (option_map (λ v. map named_row v.items) o) j l → IsCutRows rs j l
no_rows_yet None rs e j l h = absurd h
no_rows_yet (Some x) rs e j l h = absurd (true≢false e)

pub no_nodes_yet : (o : Option (Vec CutParts Global)) (cs : Option (List CutValue)) → is_some o ≡ false → (j l : Json) → IsCutNodes (option_map (λ v. map cut_value v.items) o) j l → IsCutNodes cs j l
no_nodes_yet None cs e j l h = absurd h
no_nodes_yet (Some x) cs e j l h = absurd (true≢false e)

pub other_key : (a b : List ℕ) → bytes_eq a b ≡ false → a ≢ b
other_key a b other same = true≢false (sym ((bytes_eq-Decides a b).1 same) ∙ other)

pub view-Null : value_view {A = Global} Null ≡ null
view-Null = search (rules, the_lemmas)

pub cut_parts : (ss : List NodeSkeleton) → map cut_value (map (λ s. s.parts) ss) ≡ map (λ s. cut_value s.parts) ss
cut_parts [] = refl
cut_parts (s ∷ ss) = ap (λ ps. cut_value s.parts ∷ ps) (cut_parts ss)

pub item_moved : {A B : Type 0} (f : A → B) (all : List B) (done : List B) (x : A) (rest : List A) → all ≡ done ++ map f (x ∷ rest) → all ≡ (done ++ f x ∷ []) ++ map f rest
item_moved f all done x rest e = e ∙ sym (append_assoc done (f x ∷ []) (map f rest))

pub node_moved : (done : List Node) (n filled : Node) (p : PlacedParts) (ns : List Node) (ps : List PlacedParts) → node_value filled ≡ with_part (node_value n) (placed_value p)
    → map node_value done ++ with_parts (map node_value (n ∷ ns)) (map placed_value (p ∷ ps)) ≡ map node_value (done ++ filled ∷ []) ++ with_parts (map node_value ns) (map placed_value ps)
node_moved [] n filled p ns ps e = ap (λ v. v ∷ with_parts (map node_value ns) (map placed_value ps)) (sym e)
node_moved (d ∷ ds) n filled p ns ps e = ap (λ vs. node_value d ∷ vs) (node_moved ds n filled p ns ps e)

-- what was made of an item stands for it
pub made_moved : {A B C : Type 0} (f : A → C) (g : B → C) (all : List C) (done : List B) (made : B) (x : A) (rest : List A) → all ≡ map g done ++ map f (x ∷ rest) → g made ≡ f x → all ≡ map g (done ++ made ∷ []) ++ map f rest
made_moved {B = B} f g all done made x rest e same = e ∙ moved done
  where
    moved : (done : List B) → map g done ++ map f (x ∷ rest) ≡ map g (done ++ made ∷ []) ++ map f rest
    moved [] = ap (λ y. y ∷ map f rest) (sym same)
    moved (d ∷ ds) = ap (λ ys. g d ∷ ys) (moved ds)

pub map_twice : {A B C : Type 0} (f : B → C) (g : A → B) (xs : List A) → map f (map g xs) ≡ map (λ x. f (g x)) xs
map_twice f g [] = refl
map_twice f g (x ∷ xs) = ap (λ ys. f (g x) ∷ ys) (map_twice f g xs)

-- What is read of a plan is what the relation tells.
use Rattle.std.{proofs.Common.{◌≡◌, ℕ, suc, List, [], ◌∷◌, map, length, true, cond, ◌&&◌, Some, None, Ok, Err, refl, sym, ap, ◌∙◌, subst, is_ok, codes, arith}, proofs.lemmas.List.{length-map}, specs.List.{list_all}}
use Rattle.serde_json.specs.Data.{Data, null, object, string, array, Items, no_items, item, Members}
use Rattle.plan_values.{specs.Placed.{is_port_placed, is_row_placed, is_owner_placed, is_node_placed, are_placed}, specs.PlanValues.{BusValue, NodeValue, PlanValue, bus_names, node_names}}
use Rattle.net_plan.{specs.Finding.{first_fault, refused}, specs.Fitting.{HasAt, Fits, FieldsFit}, specs.Grammar.{a_list, an_optional, Known}, specs.Json.{at_key, demand, whole_number, found}, specs.JsonWords.{HasKeys, At, AreItems, IsShortListOf, IsOptional, IsNumber, IsName, IsIndexOfName}, specs.Keys.{plan_keys}, specs.Made.{index_in, each_made, within_in, found_or, within_at, optional_at, bus_made, port_made, row_made, pool_made, record_made, terminus_made, node_made, unit_made, buses_made, nodes_made, plan_made}, specs.Names.{index_among, names_differ, text_found, each_text_at, names_in, names_at}, specs.PlanReading.{plan_format, plan_tested, plan_by, plan}, specs.PlanText.{IsBusOf, IsPortOf, IsRowOf, IsPoolOf, IsRecordOf, IsTerminusOf, IsNodeOf, IsPlanFormat, IsUnitOf, IsPlanOf}, specs.Reading.{then_with}, specs.Tables.{a_node_name, a_bus, a_port, a_row, a_pool, a_record, a_terminus, a_node, plan_lists, a_plan}, specs.declared.error.ValueFault.TheVariants.{OutOfRange, UnknownName, Doubled}, specs.declared.plan_format.PlanFormat.{PlanFormat}, specs.declared.plan_format.PlanFormat.TheVariants.{One, Two}, specs.declared.shape.Named.TheVariants.{Buses, Nodes}, proofs.Differing.{differ_sound, differ_whole}, proofs.Fitting.{none_fits, fits_none, forget, unrefused}, proofs.Makes.{Made, MadeAt, number_made, index_makes, index_made, name_made, kind_made, hex_made, address_made, at_makes, within_is, within_makes, optional_makes, any_makes, any_optional, one_there, one_back}, proofs.Telling.{Tells, any, same_Ok, then_Ok, demanded, both}, proofs.WordsLaw.{number_at as number_told}}

no_object : (ms : Members) → object ms ≡ null → ⊥
no_object ms e = cc

no_string : (s : List ℕ) → string s ≡ null → ⊥
no_string s e = cc

-- ---- what a plan is made of

module _ (k : Known) where
  bus_makes : Made k a_bus bus_made any IsBusOf
  bus_makes = record {
    there = λ d h. record { keys = h.0; name = (name_made k).there d h.1.0; binding = (number_made k (codes "binding") 0 255).there d h.1.1.0; media = (number_made k (codes "media") 0 255).there d h.1.1.1.0 };
    back = λ d b h. (h.keys, ((name_made k).back d b.name h.name, ((number_made k (codes "binding") 0 255).back d b.binding h.binding, ((number_made k (codes "media") 0 255).back d b.media h.media, tt))), tt);
    same = λ d b h. rw ((name_made k).same d b.name h.name, (number_made k (codes "binding") 0 255).same d b.binding h.binding, (number_made k (codes "media") 0 255).same d b.media h.media) refl;
    known = λ d h pass. h;
    passes = λ d h. refl;
  }

  port_makes : Made k a_port (port_made (index_among k.buses)) (is_port_placed (length k.buses)) (IsPortOf k.buses)
  port_makes = record {
    there = λ d h. record { keys = h.0; bus = (index_made k (codes "bus") Buses).there d h.1.0; address = (address_made k).there d h.1.1.0 };
    back = λ d p h. (h.keys, ((index_made k (codes "bus") Buses).back d p.bus h.bus, ((address_made k).back d p.address h.address, tt)), tt);
    same = λ d p h. rw ((index_made k (codes "bus") Buses).same d p.bus h.bus, (address_made k).same d p.address h.address) refl;
    known = λ d h pass. (h.0, ((index_made k (codes "bus") Buses).known d h.1.0 pass, (h.1.1.0, tt)), tt);
    passes = λ d h. (index_made k (codes "bus") Buses).passes d h.1.0;
  }

  row_makes : Made k a_row (row_made (index_among k.nodes)) (is_row_placed (length k.nodes)) (IsRowOf k.nodes)
  row_makes =
      let first = number_made k (codes "first") 0 255 in
      let size = number_made k (codes "size") 0 255 in
      let port = number_made k (codes "port") 0 31 in
      let next = index_made k (codes "next") Nodes in
      record {
        there = λ d h. record { keys = h.0; first = first.there d h.1.0; size = size.there d h.1.1.0; port = port.there d h.1.1.1.0; next = next.there d h.1.1.1.1.0 };
        back = λ d r h. (h.keys, (first.back d r.first h.first, (size.back d r.size h.size, (port.back d r.port h.port, (next.back d r.next h.next, tt)))), tt);
        same = λ d r h. rw (first.same d r.first h.first, size.same d r.size h.size, port.same d r.port h.port, next.same d r.next h.next) refl;
        known = λ d h pass. (h.0, (h.1.0, (h.1.1.0, (h.1.1.1.0, (next.known d h.1.1.1.1.0 pass, tt)))), tt);
        passes = λ d h. next.passes d h.1.1.1.1.0;
      }

  pool_makes : Made k a_pool pool_made any IsPoolOf
  pool_makes =
      let first = number_made k (codes "first") 0 255 in
      let size = number_made k (codes "size") 0 255 in
      record {
        there = λ d h. record { keys = h.0; first = first.there d h.1.0; size = size.there d h.1.1.0 };
        back = λ d p h. (h.keys, (first.back d p.first h.first, (size.back d p.size h.size, tt)), tt);
        same = λ d p h. rw (first.same d p.first h.first, size.same d p.size h.size) refl;
        known = λ d h pass. h;
        passes = λ d h. refl;
      }

  record_makes : Made k a_record record_made any IsRecordOf
  record_makes =
      let handle = number_made k (codes "handle") 0 4294967295 in
      let next = number_made k (codes "next") 0 4294967295 in
      record {
        there = λ d h. record { keys = h.0; handle = handle.there d h.1.0; next = next.there d h.1.1.0; bytes = (hex_made k).there d h.1.1.1.0 };
        back = λ d r h. (h.keys, (handle.back d r.handle h.handle, (next.back d r.next h.next, ((hex_made k).back d r.bytes h.bytes, tt))), tt);
        same = λ d r h. rw (handle.same d r.handle h.handle, next.same d r.next h.next, (hex_made k).same d r.bytes h.bytes) refl;
        known = λ d h pass. h;
        passes = λ d h. refl;
      }

  records_at : MadeAt k (codes "records") (a_list (Some 4096) a_record) (within_at (codes "records") 4096 record_made) any (IsShortListOf 4096 IsRecordOf)
  records_at = at_makes (codes "records") [] (any_makes (within_makes record_makes 4096))

  terminus_makes : Made k a_terminus terminus_made any IsTerminusOf
  terminus_makes =
      let tid = number_made k (codes "tid") 0 254 in
      record {
        there = λ d h. record { keys = h.0; tid = tid.there d h.1.0; records = records_at.there d h.1.1.0 };
        back = λ d t h. (h.keys, (tid.back d t.tid h.tid, (records_at.back d t.records h.records, tt)), tt);
        same = λ d t h. rw (tid.same d t.tid h.tid, records_at.same d t.records h.records) refl;
        known = λ d h pass. h;
        passes = λ d h. refl;
      }

  owner_at : MadeAt k (codes "owner") (an_optional a_node_name) (optional_at (codes "owner") (index_in (index_among k.nodes))) (is_owner_placed (length k.nodes)) (IsOptional (IsIndexOfName k.nodes))
  owner_at = at_makes (codes "owner") None (optional_makes (index_makes k Nodes) (λ d h e. no_string h.0 (sym h.1.0 ∙ e)))

  pool_at : MadeAt k (codes "pool") (an_optional a_pool) (optional_at (codes "pool") pool_made) any (IsOptional IsPoolOf)
  pool_at = at_makes (codes "pool") None (any_optional (optional_makes pool_makes (λ d h e. no_object h.0.0 (sym h.0.1 ∙ e))))

  terminus_at : MadeAt k (codes "terminus") (an_optional a_terminus) (optional_at (codes "terminus") terminus_made) any (IsOptional IsTerminusOf)
  terminus_at = at_makes (codes "terminus") None (any_optional (optional_makes terminus_makes (λ d h e. no_object h.0.0 (sym h.0.1 ∙ e))))

  ports_at : MadeAt k (codes "ports") (a_list (Some 32) a_port) (within_at (codes "ports") 32 (port_made (index_among k.buses))) (list_all (is_port_placed (length k.buses))) (IsShortListOf 32 (IsPortOf k.buses))
  ports_at = at_makes (codes "ports") [] (within_makes port_makes 32)

  rows_at : MadeAt k (codes "rows") (a_list (Some 256) a_row) (within_at (codes "rows") 256 (row_made (index_among k.nodes))) (list_all (is_row_placed (length k.nodes))) (IsShortListOf 256 (IsRowOf k.nodes))
  rows_at = at_makes (codes "rows") [] (within_makes row_makes 256)

  pub node_makes : Made k a_node (node_made (index_among k.buses) (index_among k.nodes)) (is_node_placed (length k.buses) (length k.nodes)) (IsNodeOf k.buses k.nodes)
  node_makes =
      let eid = number_made k (codes "eid") 0 255 in
      record {
        there = λ d h. record {
          keys = h.0;
          name = (name_made k).there d h.1.0;
          kind = (kind_made k).there d h.1.1.0;
          eid = eid.there d h.1.1.1.0;
          owner = owner_at.there d h.1.1.1.1.0;
          pool = pool_at.there d h.1.1.1.1.1.0;
          ports = ports_at.there d h.1.1.1.1.1.1.0;
          rows = rows_at.there d h.1.1.1.1.1.1.1.0;
          terminus = terminus_at.there d h.1.1.1.1.1.1.1.1.0;
        };
        back = λ d n h. (
          h.keys,
          (
            (name_made k).back d n.name h.name,
            (
              (kind_made k).back d n.kind h.kind,
              (eid.back d n.eid h.eid, (owner_at.back d n.owner h.owner, (pool_at.back d n.pool h.pool, (ports_at.back d n.ports h.ports, (rows_at.back d n.rows h.rows, (terminus_at.back d n.terminus h.terminus, tt)))))),
            ),
          ),
          tt,
        );
        same = λ d n h. rw (
          (name_made k).same d n.name h.name,
          (kind_made k).same d n.kind h.kind,
          eid.same d n.eid h.eid,
          owner_at.same d n.owner h.owner,
          pool_at.same d n.pool h.pool,
          ports_at.same d n.ports h.ports,
          rows_at.same d n.rows h.rows,
          terminus_at.same d n.terminus h.terminus,
        ) refl;
        known = λ d h pass.
            let n = node_made (index_among k.buses) (index_among k.nodes) d in
            let p = both (is_owner_placed (length k.nodes) n.owner) (list_all (is_port_placed (length k.buses)) n.ports && list_all (is_row_placed (length k.nodes)) n.rows) pass in
            let q = both (list_all (is_port_placed (length k.buses)) n.ports) (list_all (is_row_placed (length k.nodes)) n.rows) p.1 in
            let f = h.1.1.1.1 in
            (h.0, (h.1.0, (h.1.1.0, (h.1.1.1.0, (owner_at.known d f.0 p.0, (f.1.0, (ports_at.known d f.1.1.0 q.0, (rows_at.known d f.1.1.1.0 q.1, (f.1.1.1.1.0, tt)))))))), tt);
        passes = λ d h. rw (owner_at.passes d h.1.1.1.1.0, ports_at.passes d h.1.1.1.1.1.1.0, rows_at.passes d h.1.1.1.1.1.1.1.0) refl;
      }

  pub buses_at : MadeAt k (codes "buses") (a_list (Some 64) a_bus) buses_made any (IsShortListOf 64 IsBusOf)
  buses_at = at_makes (codes "buses") [] (any_makes (within_makes bus_makes 64))

  pub nodes_at : MadeAt k (codes "nodes") (a_list (Some 64) a_node) (within_at (codes "nodes") 64 (node_made (index_among k.buses) (index_among k.nodes))) (list_all (is_node_placed (length k.buses) (length k.nodes)))
      (IsShortListOf 64 (IsNodeOf k.buses k.nodes))
  nodes_at = at_makes (codes "nodes") [] (within_makes node_makes 64)

-- ---- names

-- names stand where what has them does
module _ {A : Type 0} (R : Data → A → Type 0) (name_of : A → List ℕ) (name : (d : Data) (x : A) → R d x → At (codes "name") IsName d (name_of x)) where
  each_named : (ds : Items) (xs : List A) → AreItems R ds xs → each_text_at (codes "name") ds ≡ map name_of xs
  each_named no_items [] h = refl
  each_named (item d ds) (x ∷ xs) h = let is = name d x h.0 in rw (ap text_found (is.1 ∙ ap Some is.2.0), each_named ds xs h.1) refl
  each_named ds xs h = absurd h

  named : (key : List ℕ) (d : Data) (xs : List A) → At key (IsShortListOf 64 R) d xs → names_at key d ≡ map name_of xs
  named key d xs h = ap names_in (h.1 ∙ ap Some h.2.0.1) ∙ each_named h.2.0.0 xs h.2.0.2

pub buses_named : (d : Data) (bs : List BusValue) → At (codes "buses") (IsShortListOf 64 IsBusOf) d bs → names_at (codes "buses") d ≡ bus_names bs
buses_named d bs h = named IsBusOf (λ b. b.name) (λ d b h. h.name) (codes "buses") d bs h

nodes_named : (buses nodes : List (List ℕ)) (d : Data) (ns : List NodeValue) → At (codes "nodes") (IsShortListOf 64 (IsNodeOf buses nodes)) d ns → names_at (codes "nodes") d ≡ node_names ns
nodes_named buses nodes d ns h = named (IsNodeOf buses nodes) (λ n. n.name) (λ d n h. h.name) (codes "nodes") d ns h

-- there are as many names as nodes
each_counted : {A : Type 0} (f : Data → A) (ds : Items) → length (each_text_at (codes "name") ds) ≡ length (each_made f ds)
each_counted f no_items = refl
each_counted f (item d ds) = ap suc (each_counted f ds)

module _ (d : Data) (lists : FieldsFit None plan_lists d) where
  -- the names that a plan gives its buses and nodes
  abbrev pub known : Known
  known = record { buses = bus_names (buses_made d); nodes = names_at (codes "nodes") d }

  abbrev pub nodes : List NodeValue
  nodes = nodes_made (bus_names (buses_made d)) d

  nodes_counted : length known.nodes ≡ length nodes
  nodes_counted =
      let at = lists.1.0 in
      let f = node_made (index_among known.buses) (index_among known.nodes) in
      let stands = at.1 ∙ ap Some at.2.1 in
      ap (λ o. length (names_in o)) stands ∙ each_counted f at.2.0 ∙ ap length (sym (ap (found_or [] (within_in 64 f)) stands ∙ within_is (node_makes known) 64 (array at.2.0) at.2.0 refl at.2.2))

  -- what is tested of the whole is what is asked of the nodes
  pub placed_is : are_placed (length (buses_made d)) nodes ≡ list_all (is_node_placed (length known.buses) (length known.nodes)) nodes
  placed_is = rw (nodes_counted, length-map (buses_made d) (λ b. b.name)) refl

-- ---- plans

nobody : Known
nobody = record { buses = []; nodes = [] }

-- the parts of a plan whose format is this one
pub parts : (f : PlanFormat) (d : Data) → Fits None (a_plan f) d → At (codes "format") IsPlanFormat d f × HasKeys (plan_keys f) d × IsUnitOf f d (unit_made f d) × FieldsFit None plan_lists d
parts One d h = (one_there (codes "format") 1 d h.1.0, h.0, refl, h.1.1)
parts Two d h = (one_there (codes "format") 2 d h.1.0, h.0, (number_made nobody (codes "unit") 64 1024).there d h.1.1.0, h.1.1.1)

whole : (f : PlanFormat) (d : Data) (unit : ℕ) → At (codes "format") IsPlanFormat d f → HasKeys (plan_keys f) d → IsUnitOf f d unit → FieldsFit None plan_lists d → Fits None (a_plan f) d × (unit_made f d ≡ unit)
whole One d unit n keys u lists = ((keys, (one_back (codes "format") 1 d n, lists), tt), sym u)
whole Two d unit n keys u lists = ((keys, (one_back (codes "format") 2 d n, ((number_made nobody (codes "unit") 64 1024).back d unit u, lists)), tt), (number_made nobody (codes "unit") 64 1024).same d unit u)

-- a plan whose nodes name what is known names what is known
pub strictly : (k : Known) (f : PlanFormat) (d : Data) → Fits None (a_plan f) d → HasAt (codes "nodes") (λ e. Fits (Some k) (a_list (Some 64) a_node) e) d → Fits (Some k) (a_plan f) d
strictly k One d h nodes = (h.0, (h.1.0, (h.1.1.0, (nodes, tt))), tt)
strictly k Two d h nodes = (h.0, (h.1.0, (h.1.1.0, (h.1.1.1.0, (nodes, tt)))), tt)

pub nodes_of : (k : Known) (f : PlanFormat) (d : Data) → Fits (Some k) (a_plan f) d → HasAt (codes "nodes") (λ e. Fits (Some k) (a_list (Some 64) a_node) e) d
nodes_of k One d h = h.1.1.1.0
nodes_of k Two d h = h.1.1.1.1.0

-- a plan of format 1 does not say format 2
not_two : (d : Data) → At (codes "format") IsNumber d 1 → at_key (codes "format") (whole_number 2 2) d ≡ Err OutOfRange
not_two d h = ap (λ o. then_with (found o) (whole_number 2 2)) h.1 ∙ ap (whole_number 2 2) h.2

says : (f : PlanFormat) (d : Data) → At (codes "format") IsPlanFormat d f → plan_format d ≡ f
says One d h = ap (λ r. cond (is_ok r) Two One) (not_two d h)
says Two d h = ap (λ r. cond (is_ok r) Two One) ((number_told (codes "format") 2 2).whole d 2 (h.0, h.1, (h.2, omega arith, omega arith)))

abbrev plan_of : ℕ → List BusValue → List NodeValue → PlanValue
plan_of unit buses nodes = record { unit = unit; buses = buses; nodes = nodes }

sound_by : (f : PlanFormat) (d : Data) (v : PlanValue) → plan_by f d ≡ Ok v → IsPlanOf d v
sound_by f d v e =
    let p = plan_made f d in
    let s = then_Ok (refused (first_fault None (a_plan f) d)) (λ _. plan_tested p) v e in
    let u = then_Ok (demand Doubled (names_differ (bus_names p.buses))) (λ _. then_with (demand UnknownName (are_placed (length p.buses) p.nodes)) (λ _. Ok p)) v s.2 in
    let q = then_Ok (demand UnknownName (are_placed (length p.buses) p.nodes)) (λ _. Ok p) v u.2 in
    let h = parts f d (none_fits None (a_plan f) d (unrefused (first_fault None (a_plan f) d) s.0 s.1)) in
    let k = known d h.3 in
    let placed = sym (placed_is d h.3) ∙ demanded UnknownName (are_placed (length p.buses) p.nodes) q.0 q.1 in
    let nodes : At (codes "nodes") (IsShortListOf 64 (IsNodeOf k.buses k.nodes)) d p.nodes = (nodes_at k).there d ((nodes_at k).known d h.3.1.0 placed) in
    subst (IsPlanOf d) (same_Ok q.2) (record {
      format = f;
      numbered = h.0;
      keys = h.1;
      unit = h.2;
      buses = (buses_at k).there d h.3.0;
      names = differ_sound (bus_names p.buses) (demanded Doubled (names_differ (bus_names p.buses)) u.0 u.1);
      nodes = subst (λ names. At (codes "nodes") (IsShortListOf 64 (IsNodeOf k.buses names)) d p.nodes) (nodes_named k.buses k.nodes d p.nodes nodes) nodes;
    })

plan_whole : (d : Data) (v : PlanValue) → IsPlanOf d v → plan d ≡ Ok v
plan_whole d v h =
    let k : Known = record { buses = bus_names v.buses; nodes = node_names v.nodes } in
    let strict = (nodes_at k).back d v.nodes h.nodes in
    let buses : buses_made d ≡ v.buses = (buses_at k).same d v.buses h.buses in
    let names : names_at (codes "nodes") d ≡ node_names v.nodes = nodes_named (bus_names v.buses) (node_names v.nodes) d v.nodes h.nodes in
    let nodes : nodes_made (bus_names (buses_made d)) d ≡ v.nodes =
    ap (λ bs. within_at (codes "nodes") 64 (node_made (index_among (bus_names bs)) (index_among (names_at (codes "nodes") d))) d) buses
    ∙ ap (λ ns. within_at (codes "nodes") 64 (node_made (index_among (bus_names v.buses)) (index_among ns)) d) names ∙ (nodes_at k).same d v.nodes h.nodes in
    let w = whole h.format d v.unit h.numbered h.keys h.unit ((buses_at k).back d v.buses h.buses, ((strict.0, strict.1, forget k (a_list (Some 64) a_node) strict.0 strict.2), tt)) in
    let made : plan_made h.format d ≡ v =
    ap (λ unit. plan_of unit (buses_made d) (nodes_made (bus_names (buses_made d)) d)) w.1 ∙ ap (λ bs. plan_of v.unit bs (nodes_made (bus_names (buses_made d)) d)) buses ∙ ap (plan_of v.unit v.buses) nodes in
    let differ = differ_whole (bus_names v.buses) h.names in
    let placed : are_placed (length v.buses) v.nodes ≡ true =
    ap (λ count. list_all (is_node_placed count (length v.nodes)) v.nodes) (sym (length-map v.buses (λ b. b.name))) ∙ ap (λ count. list_all (is_node_placed (length k.buses) count) v.nodes) (sym (length-map v.nodes (λ n. n.name)))
    ∙ ap (list_all (is_node_placed (length k.buses) (length k.nodes))) (sym ((nodes_at k).same d v.nodes h.nodes)) ∙ (nodes_at k).passes d strict in
    ap (λ f. plan_by f d) (says h.format d h.numbered) ∙ ap (λ o. then_with (refused o) (λ _. plan_tested (plan_made h.format d))) (fits_none None (a_plan h.format) d w.0) ∙ ap plan_tested made ∙ rw (differ, placed) refl

pub plan_tells : Tells plan any IsPlanOf
plan_tells = record { sound = λ d v e pass. sound_by (plan_format d) d v e; whole = plan_whole; passes = λ d v h. refl }

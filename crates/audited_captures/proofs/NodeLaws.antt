-- No line of a node tells a difference exactly where all that it said is planned.
use Rattle.std.proofs.Common.{◌≡◌, ℕ, List, [], ◌∷◌, ◌++◌, refl, sym, ◌∙◌}
use Rattle.mctp_control.specs.Responses.{AnswerValue}
use Rattle.plan_values.{specs.NodeValues.{name_bytes}, specs.declared.nodes.Node.{Node}}
use Rattle.audited_captures.{specs.Audits.{NodeFacts, AreRecorded, said_lines, lines_or_quiet, lines_of_node, told_lines_of}, specs.Counting.{difference_count}, specs.Exchanges.{ExchangeValue}, specs.Identities.{eid_lines, pool_lines, answers_of, first_of, size_of, kind_number}, specs.Lines.{LineValue}, specs.Matching.{SaysAsPlanned, NodesMatchWhereAsPlanned}, specs.Readings.{PartValue, parts_of}, specs.Routes.{routes_lines}, specs.Tids.{planned_tid, tid_lines}, proofs.MatchLaws.{zero_left, zero_right, zero_both, tables_are, routes_are, routes_of, eid_told_are, eids_are, eids_of, pool_told_are, pools_are, pools_of}, proofs.RecordMatches.{records_match}, proofs.TidLaws.{tids_are, tid_told_are, tids_of}}

pub quiet_count : (name : List ℕ) (unanswered : ℕ) (ls : List LineValue) → difference_count (lines_or_quiet name unanswered ls) ≡ difference_count ls
quiet_count name unanswered [] = refl
quiet_count name unanswered (l ∷ ls) = refl

module _ (node : Node) (xs : List ExchangeValue) (f : NodeFacts) (unanswered : ℕ) (recorded : AreRecorded f) where
  abbrev name : List ℕ
  name = name_bytes node.name

  abbrev answers : List AnswerValue
  answers = answers_of node.eid.value xs

  abbrev parts : List PartValue
  parts = parts_of node.eid.value xs

  abbrev tids : List LineValue
  tids = tid_lines name (planned_tid node) f.tids

  abbrev told : List LineValue
  told = told_lines_of node f

  abbrev routes : List LineValue
  routes = routes_lines name f.planned parts

  abbrev eids : List LineValue
  eids = eid_lines name node.eid.value (kind_number node.kind) answers

  abbrev pools : List LineValue
  pools = pool_lines name (first_of node.pool) (size_of node.pool) answers

  abbrev said : List LineValue
  said = said_lines node f.planned xs told

  node_is : difference_count (lines_of_node node f.planned xs unanswered told) ≡ 0 → SaysAsPlanned node xs f
  node_is zero =
      let all : difference_count said ≡ 0 = sym (quiet_count name unanswered said) ∙ zero in
      let control = zero_left (routes ++ (eids ++ pools)) told all in
      let table = zero_left routes (eids ++ pools) control in
      let later = zero_right routes (eids ++ pools) control in
      let terminus = zero_right (routes ++ (eids ++ pools)) told all in
      record {
        tables = tables_are name f.planned parts table;
        routes_told = routes_are name f.planned parts table;
        eid_told = eid_told_are name node.eid.value (kind_number node.kind) answers (zero_left eids pools later);
        pool_told = pool_told_are name (first_of node.pool) (size_of node.pool) answers (zero_right eids pools later);
        eids = eids_are name node.eid.value (kind_number node.kind) answers (zero_left eids pools later);
        pools = pools_are name (first_of node.pool) (size_of node.pool) answers (zero_right eids pools later);
        tids = tids_are name (planned_tid node) f.tids (zero_left tids f.recorded terminus);
        tid_told = tid_told_are name (planned_tid node) f.tids (zero_left tids f.recorded terminus);
        records = (records_match f recorded).0 (zero_right tids f.recorded terminus);
      }

  node_of : SaysAsPlanned node xs f → difference_count (lines_of_node node f.planned xs unanswered told) ≡ 0
  node_of says =
      quiet_count name unanswered said
      ∙ zero_both (routes ++ (eids ++ pools)) told
      (zero_both routes (eids ++ pools) (routes_of name f.planned parts says.tables says.routes_told)
      (zero_both eids pools (eids_of name node.eid.value (kind_number node.kind) answers says.eids says.eid_told)
      (pools_of name (first_of node.pool) (size_of node.pool) answers says.pools says.pool_told)))
      (zero_both tids f.recorded (tids_of name (planned_tid node) f.tids says.tids says.tid_told) ((records_match f recorded).1 says.records))

pub nodes_match : NodesMatchWhereAsPlanned
nodes_match node xs f unanswered recorded = (node_is node xs f unanswered recorded, node_of node xs f unanswered recorded)

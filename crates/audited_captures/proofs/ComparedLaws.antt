-- A line of a node tells of a comparison exactly where one was made.
use Rattle.std.{proofs.Common.{◌≡◌, ◌≢◌, ℕ, ◌==◌, ◌||◌, Bool, true, false, List, [], ◌∷◌, ◌++◌, refl, ap, sym, ◌∙◌, subst, inl, inr}, specs.Prelude.{IsTrue, codes}, specs.Fmt.{decimal}, specs.List.{flat_map, list_any}, proofs.lemmas.Bool.{cases_Bool, eqb-true, eq-eqb}}
use Rattle.mctp_control.{specs.RouteEntries.{EntryValue}, specs.Responses.{AnswerValue}}
use Rattle.plan_values.{specs.NodeValues.{name_bytes}, specs.declared.nodes.Node.{Node}}
use Rattle.audited_captures.{specs.AsPlanned.{IsAmong}, specs.Audits.{NodeFacts, AreRecorded, said_lines, lines_or_quiet, told_lines_of}, specs.Counting.{has_compared}, specs.Exchanges.{ExchangeValue}, specs.Failures.{fails, failures_of, failures_in, failed_lines}, specs.Identities.{identity_lines, tells_eid, span_words, pool_lines_of, tells_pool, told_lines, eid_lines, pool_lines, answers_of, first_of, size_of, kind_number}, specs.Lines.{LineValue, note}, specs.Matching.{IsCompared, ByTable, ByPart, ByAnswer, ByRefusal, ByTid, ByRecord, NodesCompareWhereHeard}, specs.Readings.{PartValue, ReadingValue, Read, Refused, Unended, parts_of, readings}, specs.Tids.{planned_tid, tid_lines}, specs.Routes.{match_line, unlike_lines, reading_lines, readings_lines, routes_lines}, proofs.Booleans.{not_both, either, or_right}, proofs.LineLaws.{compares_left, compares_right, compares_either, none_compared, or_compared, told_some, told_compared}, proofs.MatchLaws.{all_flat, unlike_all, identity_all, pool_all}, proofs.RecordMatches.{records_compare}, proofs.TidLaws.{compared_tids, tids_compared}, proofs.PlannedReadings.{any_is, any_of}, proofs.FailureLaws.{some_fails, a_failure, failed_compared, compared_failed, refused_part}}
use Rattle.audited_captures.specs.declared.failures.Topic.TheVariants as topic

module _ {A : Type 0} (f : A → List LineValue) where
  flat_some : (xs : List A) → has_compared (flat_map f xs) ≡ true → (x : A) × IsAmong x xs
  flat_some [] is = absurd (none_compared is)
  flat_some (x ∷ xs) is = (x, inl refl)

  flat_compared : (xs : List A) (x : A) → IsAmong x xs → has_compared (f x) ≡ true → has_compared (flat_map f xs) ≡ true
  flat_compared [] x among is = absurd among
  flat_compared (y ∷ ys) x (inl same) is = compares_left (f y) (flat_map f ys) (subst (λ z. has_compared (f z) ≡ true) (sym same) is)
  flat_compared (y ∷ ys) x (inr among) is = compares_right (f y) (flat_map f ys) (flat_compared ys x among is)

-- ---- what one reading and the answers tell

module _ (name : List ℕ) where
  reading_compared : (planned : List EntryValue) (r : ReadingValue) → (r ≡ Refused → ⊥) → has_compared (reading_lines name planned r) ≡ true
  reading_compared planned Unended sound = refl
  reading_compared planned Refused sound = absurd (sound refl)
  reading_compared planned (Read found) sound = or_compared (match_line name found) (unlike_lines name planned found) refl (unlike_all name planned found)

-- ---- a node

quiet_compared : (name : List ℕ) (unanswered : ℕ) (ls : List LineValue) → has_compared (lines_or_quiet name unanswered ls) ≡ has_compared ls
quiet_compared name unanswered [] = refl
quiet_compared name unanswered (l ∷ ls) = refl

flag_of : (b : Bool) → (b ≡ true → ⊥) → b ≡ false
flag_of true never = absurd (never refl)
flag_of false never = refl

module _ (node : Node) (xs : List ExchangeValue) (f : NodeFacts) (recorded : AreRecorded f) where
  abbrev name : List ℕ
  name = name_bytes node.name

  abbrev size : ℕ
  size = size_of node.pool

  abbrev answers : List AnswerValue
  answers = answers_of node.eid.value xs

  abbrev parts : List PartValue
  parts = parts_of node.eid.value xs

  abbrev tids : List LineValue
  tids = tid_lines name (planned_tid node) f.tids

  abbrev told : List LineValue
  told = told_lines_of node f

  abbrev read : List LineValue
  read = readings_lines name f.planned (readings parts)

  abbrev routes_failed : List LineValue
  routes_failed = failed_lines false (name ++ codes " routes") (failures_in parts)

  abbrev routes : List LineValue
  routes = routes_lines name f.planned parts

  abbrev eids_unlike : List LineValue
  eids_unlike = flat_map (identity_lines name node.eid.value (kind_number node.kind)) answers

  abbrev eid_text : List ℕ
  eid_text = name ++ (codes " eid match " ++ decimal node.eid.value)

  abbrev eids_told : List LineValue
  eids_told = told_lines (list_any tells_eid answers) (note eid_text) eids_unlike

  abbrev eids_failed : Bool → List LineValue
  eids_failed is_remark = failed_lines is_remark (name ++ codes " eid") (failures_of topic.Eid answers)

  abbrev eids : List LineValue
  eids = eid_lines name node.eid.value (kind_number node.kind) answers

  abbrev pools_unlike : List LineValue
  pools_unlike = flat_map (pool_lines_of name (first_of node.pool) size) answers

  abbrev pool_text : List ℕ
  pool_text = name ++ (codes " pool match " ++ span_words (first_of node.pool) size)

  abbrev pools_told : List LineValue
  pools_told = told_lines (list_any tells_pool answers) (note pool_text) pools_unlike

  abbrev pool_remark : Bool
  pool_remark = list_any tells_pool answers || size == 0

  abbrev pools_failed : Bool → List LineValue
  pools_failed is_remark = failed_lines is_remark (name ++ codes " pool") (failures_of topic.Pool answers)

  abbrev pools : List LineValue
  pools = pool_lines name (first_of node.pool) size answers

  abbrev said : List LineValue
  said = said_lines node f.planned xs told

  -- of an answer
  by_eid : list_any tells_eid answers ≡ true → IsCompared node xs f
  by_eid is = let (a, among, tells) = any_is tells_eid answers is in ByAnswer a among (ap (λ c. c || tells_pool a) tells)

  by_pool : list_any tells_pool answers ≡ true → IsCompared node xs f
  by_pool is = let (a, among, tells) = any_is tells_pool answers is in ByAnswer a among (or_right (tells_eid a) (tells_pool a) tells)

  -- of one that fails
  by_part : has_compared routes_failed ≡ true → IsCompared node xs f
  by_part is =
      let (counts, c, cs, some) = failed_compared false (name ++ codes " routes") (failures_in parts) is in
      let (p, among, fails_it) = some_fails topic.Table (λ (p : PartValue). p.answer) parts c cs some in
      ByPart p among fails_it

  by_refused_eid : has_compared (eids_failed (list_any tells_eid answers)) ≡ true → IsCompared node xs f
  by_refused_eid is =
      let (counts, c, cs, some) = failed_compared (list_any tells_eid answers) (name ++ codes " eid") (failures_of topic.Eid answers) is in
      let (a, among, fails_it) = some_fails topic.Eid (λ (b : AnswerValue). b) answers c cs some in
      ByRefusal a among (inl fails_it)

  by_refused_pool : has_compared (pools_failed pool_remark) ≡ true → IsCompared node xs f
  by_refused_pool is =
      let (counts, c, cs, some) = failed_compared pool_remark (name ++ codes " pool") (failures_of topic.Pool answers) is in
      let (a, among, fails_it) = some_fails topic.Pool (λ (b : AnswerValue). b) answers c cs some in
      ByRefusal a among (inr (fails_it, λ empty. not_both pool_remark (or_right (list_any tells_pool answers) (size == 0) (eq-eqb size 0 empty)) counts))

  by_lines : has_compared said ≡ true → IsCompared node xs f
  by_lines is = elim (compares_either (routes ++ (eids ++ pools)) told is) [
    | inl control ↦ elim (compares_either routes (eids ++ pools) control) [
      | inl table ↦ elim (compares_either read routes_failed table) [
        | inl some ↦ (let (r, among) = flat_some (reading_lines name f.planned) (readings parts) some in ByTable r among)
        | inr some ↦ by_part some
      ]
      | inr later ↦ elim (compares_either eids pools later) [
        | inl eid ↦ elim (compares_either eids_told (eids_failed (list_any tells_eid answers)) eid) [
          | inl some ↦ by_eid (told_some (list_any tells_eid answers) (note eid_text) eids_unlike some)
          | inr some ↦ by_refused_eid some
        ]
        | inr pool ↦ elim (compares_either pools_told (pools_failed pool_remark) pool) [
          | inl some ↦ by_pool (told_some (list_any tells_pool answers) (note pool_text) pools_unlike some)
          | inr some ↦ by_refused_pool some
        ]
      ]
    ]
    | inr later ↦ elim (compares_either tids f.recorded later) [
      | inl tid ↦ (let (t, among, tells) = tids_compared name (planned_tid node) f.tids tid in ByTid t among tells)
      | inr record_line ↦ (let (i, x, at, is) = (records_compare f recorded).0 record_line in ByRecord i x at is)
    ]
  ]

  control_compared : has_compared (routes ++ (eids ++ pools)) ≡ true → has_compared said ≡ true
  control_compared is = compares_left (routes ++ (eids ++ pools)) told is

  routes_compared : has_compared routes ≡ true → has_compared said ≡ true
  routes_compared is = control_compared (compares_left routes (eids ++ pools) is)

  eids_compared : has_compared eids ≡ true → has_compared said ≡ true
  eids_compared is = control_compared (compares_right routes (eids ++ pools) (compares_left eids pools is))

  pools_compared : has_compared pools ≡ true → has_compared said ≡ true
  pools_compared is = control_compared (compares_right routes (eids ++ pools) (compares_right eids pools is))

  part_compared : (p : PartValue) → IsAmong p parts → IsTrue (fails topic.Table p.answer) → has_compared said ≡ true
  part_compared p among fails_it =
      let (c, cs, some) = a_failure topic.Table (λ (q : PartValue). q.answer) parts p among fails_it in
      routes_compared (compares_right read routes_failed (compared_failed (name ++ codes " routes") (failures_in parts) c cs some))

  table_compared : (r : ReadingValue) → IsAmong r (readings parts) → (q : ReadingValue) → r ≡ q → has_compared said ≡ true
  table_compared r among Refused is = let (p, there, fails_it) = refused_part parts r among is in part_compared p there fails_it
  table_compared r among (Read found) is =
      routes_compared (compares_left read routes_failed (flat_compared (reading_lines name f.planned) (readings parts) r among (reading_compared name f.planned r (λ same. cc))))
  table_compared r among Unended is =
      routes_compared (compares_left read routes_failed (flat_compared (reading_lines name f.planned) (readings parts) r among (reading_compared name f.planned r (λ same. cc))))

  eid_compared : list_any tells_eid answers ≡ true → has_compared said ≡ true
  eid_compared tells = eids_compared (compares_left eids_told (eids_failed (list_any tells_eid answers))
      (told_compared (list_any tells_eid answers) eid_text eids_unlike tells (all_flat (identity_lines name node.eid.value (kind_number node.kind)) (identity_all name node.eid.value (kind_number node.kind)) answers)))

  pool_compared : list_any tells_pool answers ≡ true → has_compared said ≡ true
  pool_compared tells = pools_compared (compares_left pools_told (pools_failed pool_remark)
      (told_compared (list_any tells_pool answers) pool_text pools_unlike tells (all_flat (pool_lines_of name (first_of node.pool) size) (pool_all name (first_of node.pool) size) answers)))

  refused_eid_compared : (a : AnswerValue) → IsAmong a answers → IsTrue (fails topic.Eid a) → has_compared said ≡ true
  refused_eid_compared a among fails_it = elim (cases_Bool (list_any tells_eid answers)) [
    | inl tells ↦ eid_compared tells
    | inr silent ↦ (
        let (c, cs, some) = a_failure topic.Eid (λ (b : AnswerValue). b) answers a among fails_it in
        eids_compared (compares_right eids_told (eids_failed (list_any tells_eid answers))
        (ap (λ b. has_compared (eids_failed b)) silent ∙ compared_failed (name ++ codes " eid") (failures_of topic.Eid answers) c cs some)))
  ]

  refused_pool_compared : (a : AnswerValue) → IsAmong a answers → IsTrue (fails topic.Pool a) → size ≢ 0 → has_compared said ≡ true
  refused_pool_compared a among fails_it planned = elim (cases_Bool (list_any tells_pool answers)) [
    | inl tells ↦ pool_compared tells
    | inr silent ↦ (
        let (c, cs, some) = a_failure topic.Pool (λ (b : AnswerValue). b) answers a among fails_it in
        let counts : pool_remark ≡ false = ap (λ b. b || size == 0) silent ∙ flag_of (size == 0) (λ empty. planned (eqb-true size 0 empty)) in
        pools_compared (compares_right pools_told (pools_failed pool_remark)
        (ap (λ b. has_compared (pools_failed b)) counts ∙ compared_failed (name ++ codes " pool") (failures_of topic.Pool answers) c cs some)))
  ]

  lines_compared : IsCompared node xs f → has_compared said ≡ true
  lines_compared (ByTable r among) = table_compared r among r refl
  lines_compared (ByPart p among fails_it) = part_compared p among fails_it
  lines_compared (ByAnswer a among tells) = elim (either (tells_eid a) (tells_pool a) tells) [
    | inl eid ↦ eid_compared (any_of tells_eid answers a among eid)
    | inr pool ↦ pool_compared (any_of tells_pool answers a among pool)
  ]
  lines_compared (ByRefusal a among (inl eid)) = refused_eid_compared a among eid
  lines_compared (ByRefusal a among (inr pool)) = refused_pool_compared a among pool.0 pool.1
  lines_compared (ByTid t among tells) =
      compares_right (routes ++ (eids ++ pools)) told (compares_left tids f.recorded (compared_tids name (planned_tid node) f.tids t among tells))
  lines_compared (ByRecord i x at is) =
      compares_right (routes ++ (eids ++ pools)) told (compares_right tids f.recorded ((records_compare f recorded).1 (i, x, at, is)))

pub nodes_compare : NodesCompareWhereHeard
nodes_compare node xs f unanswered recorded = (
  λ is. by_lines node xs f recorded (sym (quiet_compared (name_bytes node.name) unanswered (said_lines node f.planned xs (told_lines_of node f))) ∙ is),
  λ compared. quiet_compared (name_bytes node.name) unanswered (said_lines node f.planned xs (told_lines_of node f)) ∙ lines_compared node xs f recorded compared,
)

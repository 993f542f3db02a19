-- What nodes didn't tell.
use Rattle.std.{proofs.Common.{◌≡◌, ◌≢◌, ℕ, zero, suc, add-one, ◌+◌, ◌<◌, ◌==◌, ◌||◌, not, Bool, true, false, List, [], ◌∷◌, ◌++◌, refl, ap, sym, ◌∙◌, subst, inl, inr, arith, drop, length, map}, specs.Prelude.{IsTrue, codes}, specs.List.{list_any}, proofs.lemmas.Bool.{eqb-true, eq-eqb}}
use Rattle.mctp_control.{specs.RouteEntries.{EntryValue}, specs.Responses.{AnswerValue}}
use Rattle.plan_values.{specs.NodeValues.{name_bytes}, specs.declared.nodes.Node.{Node}}
use Rattle.audited_captures.{specs.AsPlanned.{IsAmong}, specs.Audits.{NodeFacts, AreRecorded}, specs.Counting.{difference_count}, specs.Exchanges.{ExchangeValue}, specs.Identities.{answers_of, tells_eid, tells_pool, size_of}, specs.Lines.{LineValue}, specs.Matching.{SomeTellsPool, TellsAll}, specs.Readings.{ReadingValue, Read, Refused, Unended, begun_with, part_value, parts_of, readings}, specs.declared.readings.Part.{Part}, specs.Untold.{is_bridge, is_read, is_some, readings_begun, tells_its_pool, tells_records, tells_routes, untold_if, untold_lines, untold_text, wanted_lines}, specs.RecordLines.{missing_count}, specs.RecordReadings.{IsReadToEnd}, proofs.Booleans.{either, or_right}, proofs.MatchLaws.{AllDiffer, all_both, one_if, zero_left, zero_right, zero_both}, proofs.PlannedReadings.{any_is, any_of}, proofs.RecordMatches.{all_read}}

-- ---- one line

zero_told : (b : Bool) (text : List ℕ) → difference_count (untold_if b text) ≡ 0 → b ≡ true
zero_told true text none = refl
zero_told false text none = absurd (cc)

told_zero : (b : Bool) (text : List ℕ) → b ≡ true → difference_count (untold_if b text) ≡ 0
told_zero b text told = ap (λ c. difference_count (untold_if c text)) told

so_then : (a b : Bool) → (not a || b) ≡ true → a ≡ true → b ≡ true
so_then true b is holds = is
so_then false b is holds = absurd (cc)

then_so : (a b : Bool) → (a ≡ true → b ≡ true) → (not a || b) ≡ true
then_so true b gives = gives refl
then_so false b gives = refl

a_reading : (r : ReadingValue) → is_read r ≡ true → (found : List EntryValue) × (r ≡ Read found)
a_reading (Read found) is = (found, refl)
a_reading Refused is = absurd (cc)
a_reading Unended is = absurd (cc)

-- ---- readings that come to their ends

any_append : (a b : List ReadingValue) → list_any is_read (a ++ b) ≡ (list_any is_read a || list_any is_read b)
any_append [] b = refl
any_append (r ∷ rs) b = by (is_read r) (any_append rs b)
  where
    by : (c : Bool) → list_any is_read (rs ++ b) ≡ (list_any is_read rs || list_any is_read b) → (c || list_any is_read (rs ++ b)) ≡ ((c || list_any is_read rs) || list_any is_read b)
    by true is = refl
    by false is = is

-- what is left from a place on begins with an item
left_at : {A : Type 0} (xs : List A) (i : ℕ) → i < length xs → (x : A) × (drop i xs ≡ x ∷ drop (suc i) xs)
left_at [] i within = absurd (omega (arith, within))
left_at (x ∷ xs) zero within = (x, refl)
left_at (x ∷ xs) (suc i) within = left_at xs i (omega (arith, within))

left_next : {A : Type 0} (xs : List A) (i : ℕ) → i < length xs → (x : A) × (drop i xs ≡ x ∷ drop (i + 1) xs)
left_next xs i within = (let (x, is) = left_at xs i within in (x, is ∙ ap (λ k. x ∷ drop k xs) (sym (add-one i))))

any_left : (parts : List Part) (i : ℕ) → i < length parts
    → list_any is_read (readings (map part_value (drop i parts)))
    ≡ (list_any is_read (readings_begun (map part_value (drop i parts))) || list_any is_read (readings (map part_value (drop (i + 1) parts))))
any_left parts i within =
    let (first, is) = left_next parts i within in
    let rest = map part_value (drop (i + 1) parts) in
    ap (λ (ps : List Part). list_any is_read (readings (map part_value ps))) is ∙ any_append (begun_with (part_value first) rest) (readings rest)
    ∙ ap (λ (ps : List Part). list_any is_read (readings_begun (map part_value ps)) || list_any is_read (readings rest)) (sym is)

pub reads_on : (parts : List Part) (i : ℕ) → i < length parts → list_any is_read (readings_begun (map part_value (drop i parts))) ≡ false
    → list_any is_read (readings (map part_value (drop i parts))) ≡ list_any is_read (readings (map part_value (drop (i + 1) parts)))
reads_on parts i within none = any_left parts i within ∙ ap (λ b. b || list_any is_read (readings (map part_value (drop (i + 1) parts)))) none

pub reads_here : (parts : List Part) (i : ℕ) → i < length parts → list_any is_read (readings_begun (map part_value (drop i parts))) ≡ true
    → list_any is_read (readings (map part_value (drop i parts))) ≡ true
reads_here parts i within some = any_left parts i within ∙ ap (λ b. b || list_any is_read (readings (map part_value (drop (i + 1) parts)))) some

-- ---- a node

module _ (node : Node) (xs : List ExchangeValue) (f : NodeFacts) where
  abbrev untold : List LineValue
  untold = untold_lines node xs (length f.records) f.verdicts

  abbrev told_records : Bool
  told_records = tells_records node (length f.records) f.verdicts

  abbrev answers : List AnswerValue
  answers = answers_of node.eid.value xs

  abbrev size : ℕ
  size = size_of node.pool

  abbrev line : Bool → List ℕ → List LineValue
  line told what = untold_if told (untold_text (name_bytes node.name) what)

  abbrev eid : List LineValue
  eid = line (list_any tells_eid answers) (codes "eid")

  abbrev routes : List LineValue
  routes = line (tells_routes node xs) (codes "routes")

  abbrev pool : List LineValue
  pool = line (tells_its_pool node xs) (codes "pool")

  abbrev records : List LineValue
  records = line told_records (codes "records")

  abbrev some_read : Bool
  some_read = list_any is_read (readings (parts_of node.eid.value xs))

  pub untold_all : AllDiffer untold
  untold_all =
      all_both eid (routes ++ (pool ++ records)) (one_if (list_any tells_eid answers) (untold_text (name_bytes node.name) (codes "eid")))
      (all_both routes (pool ++ records) (one_if (tells_routes node xs) (untold_text (name_bytes node.name) (codes "routes")))
      (all_both pool records (one_if (tells_its_pool node xs) (untold_text (name_bytes node.name) (codes "pool"))) (one_if told_records (untold_text (name_bytes node.name) (codes "records")))))

  pool_is : tells_its_pool node xs ≡ true → size ≢ 0 → SomeTellsPool answers
  pool_is told planned = elim (either (size == 0) (list_any tells_pool answers) told) [
    | inl none ↦ absurd (planned (eqb-true size 0 none))
    | inr some ↦ any_is tells_pool answers some
  ]

  routes_are : tells_routes node xs ≡ true → IsTrue (is_bridge node.kind) → (found : List EntryValue) × IsAmong (Read found) (readings (parts_of node.eid.value xs))
  routes_are told bridge =
      let (r, among, is) = any_is is_read (readings (parts_of node.eid.value xs)) (so_then (is_bridge node.kind) some_read told bridge) in
      let (found, same) = a_reading r is in
      (found, subst (λ (q : ReadingValue). IsAmong q (readings (parts_of node.eid.value xs))) same among)

  records_are : AreRecorded f → told_records ≡ true → IsTrue (is_some node.terminus) → (place : ℕ) → place < length f.records → IsReadToEnd f.records f.parts place
  records_are recorded told terminus =
      (all_read f recorded).0 (eqb-true (missing_count f.verdicts (length f.records)) 0 (so_then (is_some node.terminus) (missing_count f.verdicts (length f.records) == 0) told terminus))

  pub tells_all : AreRecorded f → difference_count untold ≡ 0 → TellsAll node xs f
  tells_all recorded none =
      let later = zero_right eid (routes ++ (pool ++ records)) none in
      let last = zero_right routes (pool ++ records) later in
      record {
        eid = any_is tells_eid answers (zero_told (list_any tells_eid answers) (untold_text (name_bytes node.name) (codes "eid")) (zero_left eid (routes ++ (pool ++ records)) none));
        routes = routes_are (zero_told (tells_routes node xs) (untold_text (name_bytes node.name) (codes "routes")) (zero_left routes (pool ++ records) later));
        pool = pool_is (zero_told (tells_its_pool node xs) (untold_text (name_bytes node.name) (codes "pool")) (zero_left pool records last));
        records = records_are recorded (zero_told told_records (untold_text (name_bytes node.name) (codes "records")) (zero_right pool records last));
      }

  routes_of : (IsTrue (is_bridge node.kind) → (found : List EntryValue) × IsAmong (Read found) (readings (parts_of node.eid.value xs))) → tells_routes node xs ≡ true
  routes_of gives = then_so (is_bridge node.kind) some_read (λ bridge. (let (found, among) = gives bridge in any_of is_read (readings (parts_of node.eid.value xs)) (Read found) among refl))

  pool_of : (size ≢ 0 → SomeTellsPool answers) → tells_its_pool node xs ≡ true
  pool_of gives = by (size == 0) refl
    where
      by : (b : Bool) → (size == 0) ≡ b → tells_its_pool node xs ≡ true
      by true none = ap (λ c. c || list_any tells_pool answers) none
      by false some = (
          let (a, among, is) = gives (λ empty. (let one : (size == 0) ≡ true = eq-eqb size 0 empty in cc)) in
          or_right (size == 0) (list_any tells_pool answers) (any_of tells_pool answers a among is))

  records_of : AreRecorded f → (IsTrue (is_some node.terminus) → (place : ℕ) → place < length f.records → IsReadToEnd f.records f.parts place) → told_records ≡ true
  records_of recorded gives =
      then_so (is_some node.terminus) (missing_count f.verdicts (length f.records) == 0) (λ terminus. eq-eqb (missing_count f.verdicts (length f.records)) 0 ((all_read f recorded).1 (gives terminus)))

  pub nothing_untold : AreRecorded f → TellsAll node xs f → difference_count untold ≡ 0
  nothing_untold recorded told =
      zero_both eid (routes ++ (pool ++ records)) (told_zero (list_any tells_eid answers) (untold_text (name_bytes node.name) (codes "eid")) (any_of tells_eid answers told.eid.0 told.eid.1 told.eid.2))
      (zero_both routes (pool ++ records) (told_zero (tells_routes node xs) (untold_text (name_bytes node.name) (codes "routes")) (routes_of told.routes))
      (zero_both pool records (told_zero (tells_its_pool node xs) (untold_text (name_bytes node.name) (codes "pool")) (pool_of told.pool))
      (told_zero told_records (untold_text (name_bytes node.name) (codes "records")) (records_of recorded told.records))))

-- ---- the lines that are wanted

pub wanted_is : (complete : Bool) (untold : List LineValue) → difference_count (wanted_lines complete untold) ≡ 0 → complete ≡ true → difference_count untold ≡ 0
wanted_is true ls none wanted = none
wanted_is false ls none wanted = absurd (cc)

pub wanted_of : (complete : Bool) (untold : List LineValue) → (complete ≡ true → difference_count untold ≡ 0) → difference_count (wanted_lines complete untold) ≡ 0
wanted_of true ls gives = gives refl
wanted_of false ls gives = refl

pub wanted_all : (complete : Bool) (untold : List LineValue) → AllDiffer untold → AllDiffer (wanted_lines complete untold)
wanted_all true ls all = all
wanted_all false ls all = refl

-- What captured devices said, laid beside a plan.
use Rattle.std.{specs.Prelude.{◌≡◌, ℕ, ◌+◌, ◌<◌, ◌==◌, ◌&&◌, Bool, List, [], ◌∷◌, ◌++◌, length, codes, slice_get, Option, Some, Result, if◌then◌else◌}, specs.Fmt.{decimal}, specs.List.{flat_map}}
use Rattle.bus_captures.{specs.Values.{EntryValue}, specs.declared.capture.End.{End}}
use Rattle.heard_captures.{specs.Hearing.{AreHeard}, specs.Messages.{MessageValue}}
use Rattle.plan_values.{specs.NodeValues.{name_bytes}, specs.declared.certificate.Certificate.{Certificate}, specs.declared.plan.Plan.{Plan}, specs.declared.nodes.Node.{Node}}
use Rattle.audited_captures.{specs.Words.{WordValue, AreWords}, specs.Exchanges.{ExchangeValue, AreExchanges}, specs.Asked.{unanswered}, specs.Readings.{parts_of}, specs.Lines.{LineValue, silence}, specs.Counting.{difference_count, has_compared}, specs.RecordLines.{AreRecordLines, one_if}, specs.RecordParts.{RecordPartValue, AreRecordParts}, specs.RecordSteps.{AreAllVerdicts}, specs.declared.record_readings.Verdict.{Verdict}, specs.Refusals.{AreRefusals, refused_lines}, specs.declared.refusals.Refusal.{Refusal}, specs.Strangers.{AreStrangerLines}, specs.Sums.{sum_words}, specs.declared.sums.Sum.{Sum}, specs.Talk.{AreTalkLines, AreOwnerLines}, specs.Tids.{AreTids, planned_tid, tid_lines}, specs.Untold.{untold_lines, wanted_lines}, specs.Routes.{routes_lines}, specs.TrafficLines.{IsTraffic}, specs.Identities.{answers_of, eid_lines, pool_lines, first_of, size_of, kind_number}}
use Rattle.net_tables.specs.Repositories.{records_by_place}
use Rattle.pdr_repository.specs.Records.{Entry}
use Rattle.plan_exports.{specs.PlannedTables.{HasLawfulRows}, specs.TableAnswers.{AreEntriesOf}}
use Rattle.bus_captures.specs.declared.capture.End.TheVariants as end
use Rattle.mctp_control.specs.RouteEntries as routes

-- each node's rows make a routing table
abbrev pub HasTables : Plan → Type 0
HasTables plan = (n : ℕ) → n < length plan.nodes.items → HasLawfulRows plan n

-- what a node's control messages say beside the plan: of its routing table, of its endpoint ID and type, of its pool
abbrev pub answered_lines : Node → (planned : List routes.EntryValue) → List ExchangeValue → List LineValue
answered_lines node planned xs =
    routes_lines (name_bytes node.name) planned (parts_of node.eid.value xs)
    ++ (eid_lines (name_bytes node.name) node.eid.value (kind_number node.kind) (answers_of node.eid.value xs)
    ++ pool_lines (name_bytes node.name) (first_of node.pool) (size_of node.pool) (answers_of node.eid.value xs))

-- behind that stands what was told of its terminus ID and its records
abbrev pub said_lines :
    Node → (planned : List routes.EntryValue) → List ExchangeValue → (told : List LineValue) → List LineValue
said_lines node planned xs told = answered_lines node planned xs ++ told

-- Nothing was captured of a node that could be laid beside the plan, or it was asked so many times and never answered.
abbrev pub quiet_text : List ℕ → (unanswered : ℕ) → List ℕ
quiet_text name unanswered =
    if unanswered == 0 then name ++ codes " not captured"
    else name ++ (codes " asked " ++ (decimal unanswered ++ codes ", never answered"))

-- the lines, or where there are none the one that says so
abbrev pub lines_or_quiet : List ℕ → (unanswered : ℕ) → List LineValue → List LineValue
lines_or_quiet name unanswered [] = silence (quiet_text name unanswered) ∷ []
lines_or_quiet name unanswered (l ∷ ls) = l ∷ ls

-- the lines of a node that left so many requests unanswered
abbrev pub lines_of_node : Node → (planned : List routes.EntryValue) → List ExchangeValue → (unanswered : ℕ)
    → (told : List LineValue) → List LineValue
lines_of_node node planned xs unanswered told =
    lines_or_quiet (name_bytes node.name) unanswered (said_lines node planned xs told)

-- what was captured: the messages that ask and answer, and among them the control messages that were answered
pub record Heard : Type 0 where
  pub words : List WordValue
  pub exchanges : List ExchangeValue

abbrev pub heard_of : List WordValue → List ExchangeValue → Heard
heard_of words exchanges = record { words = words; exchanges = exchanges }

-- what is planned and what was captured of a node: the entries of its routing table, its records by place, what it
-- answered about records with the verdicts on that and the lines that tell it, and what it answered of its terminus ID
pub record NodeFacts : Type 0 where
  pub planned : List routes.EntryValue
  pub records : List Entry
  pub parts : List RecordPartValue
  pub verdicts : List Verdict
  pub recorded : List LineValue
  pub tids : List (Result ℕ ℕ)

-- each answer about records was judged, and the lines tell what was found
pub record AreRecorded (f : NodeFacts) : Type 0 where
  pub judged : AreAllVerdicts f.records f.parts f.verdicts
  pub told : AreRecordLines f.records f.parts f.verdicts f.recorded

pub record AreFacts (plan : Plan) (repositories : List (List Entry)) (h : Heard) (n : ℕ) (node : Node)
    (f : NodeFacts) : Type 0 where
  pub plans : AreEntriesOf plan n f.planned
  pub stored : slice_get repositories n ≡ Some f.records
  pub answered : AreRecordParts node.eid.value h.words f.parts
  pub recorded : AreRecorded f
  pub identified : AreTids node.eid.value h.words f.tids

-- what was told of a node's terminus: of its ID, and of its records
abbrev pub told_lines_of : Node → NodeFacts → List LineValue
told_lines_of node f =
    tid_lines (name_bytes node.name) (planned_tid node) f.tids ++ f.recorded

-- the lines of the node at an index, and those of what it didn't tell
pub record AreNodeLines (plan : Plan) (repositories : List (List Entry)) (h : Heard) (n : ℕ)
    (lines untold : List LineValue) : Type 0 where
  pub node : Node
  pub facts : NodeFacts
  pub at : slice_get plan.nodes.items n ≡ Some node
  pub are : AreFacts plan repositories h n node facts
  pub tell : lines
      ≡ lines_of_node node facts.planned h.exchanges
      (unanswered node.eid.value h.words h.exchanges facts.parts facts.tids) (told_lines_of node facts)
  pub wants : untold ≡ untold_lines node h.exchanges (length facts.records) facts.verdicts

-- something was laid beside the plan, and nothing differs
abbrev pub is_match : List LineValue → Bool
is_match lines = difference_count lines == 0 && has_compared lines

-- the lines of so many nodes, in the plan's order, those of what they didn't tell, and of how many of these nodes some
-- line tells of a comparison
pub data AreLines (plan : Plan) (repositories : List (List Entry)) (h : Heard)
    : ℕ → (lines untold : List LineValue) → (compared : ℕ) → Type 0 where
  Empty : AreLines plan repositories h 0 [] [] 0
  More : (n : ℕ) (lines untold more wants : List LineValue) (compared : ℕ)
      → AreLines plan repositories h n lines untold compared → AreNodeLines plan repositories h n more wants
      → AreLines plan repositories h (n + 1) (lines ++ more) (untold ++ wants)
      (compared + one_if (has_compared more))

-- the records of so many nodes, by the certificate's places
pub record AreRepositories (plan : Plan) (cert : Certificate) (count : ℕ)
    (repositories : List (List Entry)) : Type 0 where
  pub as_many : length repositories ≡ count
  pub each : (n : ℕ) (records : List Entry) → slice_get repositories n ≡ Some records
      → records ≡ records_by_place plan cert n

-- the last line of what was captured whole, with the numbers behind it
abbrev pub whole_line : List LineValue → Sum → List ℕ
whole_line lines sum =
    if is_match lines then codes "audit match" ++ sum_words sum
    else (if difference_count lines == 0 then codes "audit saw nothing of the plan" ++ sum_words sum
    else codes "audit differs " ++ (decimal (difference_count lines) ++ sum_words sum))

-- and of what was read in part only: what wasn't read may differ too
abbrev pub part_line : ℕ → Sum → List ℕ
part_line count sum = codes "audit incomplete " ++ (decimal count ++ sum_words sum)

abbrev pub last_line : End → List LineValue → Sum → List ℕ
last_line end.Whole lines sum = whole_line lines sum
last_line end.Full lines sum = part_line (difference_count lines) sum
last_line (end.Broken place why) lines sum = part_line (difference_count lines) sum

abbrev pub text_line : LineValue → List ℕ
text_line l = l.text ++ codes "\n"

-- where a capture was not read to its end, and why
abbrev pub rest_line : End → List ℕ
rest_line end.Whole = []
rest_line end.Full = codes "capture not read behind 100000 entries\n"
rest_line (end.Broken place why) = codes "capture not read from " ++ (decimal place ++ codes "\n")

abbrev pub audit_text : List LineValue → Sum → End → List ℕ
audit_text lines sum how = flat_map text_line lines ++ (rest_line how ++ last_line how lines sum)

-- The lines behind those of the nodes: of devices that no node stands for, of what nodes didn't tell, where that is
-- wanted, of messages whose sender says the wrong of who owns the tag, and of requests and answers that don't go
-- together.
pub record AreOthers (plan : Plan) (complete : Bool) (messages : List MessageValue) (h : Heard)
    (untold lines : List LineValue) : Type 0 where
  pub strangers : List LineValue
  pub owners : List LineValue
  pub talk : List LineValue
  pub strange : AreStrangerLines plan h.exchanges strangers
  pub owned : AreOwnerLines plan messages owners
  pub talked : AreTalkLines plan h.words talk
  pub joined : lines ≡ strangers ++ (wanted_lines complete untold ++ (owners ++ talk))

-- These are the lines of what was captured beside the plan and these records: the messages that came whole in packets
-- of the plan's transmission unit, those among them that ask and answer, the control messages that were answered, what
-- the answers of each node say, and behind that the others. So many nodes said something that was laid beside the plan.
pub record AreBeside (plan : Plan) (complete : Bool) (repositories : List (List Entry)) (entries : List EntryValue)
    (lines : List LineValue) (compared : ℕ) : Type 0 where
  pub messages : List MessageValue
  pub heard : Heard
  pub whole : AreHeard plan.unit entries messages
  pub spoken : AreWords messages heard.words
  pub answered : AreExchanges heard.words heard.exchanges
  pub of_nodes : List LineValue
  pub untold : List LineValue
  pub of_others : List LineValue
  pub told : AreLines plan repositories heard (length plan.nodes.items) of_nodes untold compared
  pub others : AreOthers plan complete messages heard untold of_others
  pub joined : lines ≡ of_nodes ++ of_others

-- The lines are those of the answers, beside the plan and its records, behind them those of the packets that the plan
-- doesn't have on the bus where the capture was taken, or on any bus where none is named, and last the remark on what
-- was refused. The sum has the number of nodes that said something which was compared, of all nodes, of packets, and of
-- what was refused.
pub record AreAudited (plan : Plan) (cert : Certificate) (bus : Option ℕ) (complete : Bool)
    (entries : List EntryValue) (lines : List LineValue) (sum : Sum) : Type 0 where
  pub repositories : List (List Entry)
  pub answers : List LineValue
  pub traffic : List LineValue
  pub refusals : List Refusal
  pub placed : AreRepositories plan cert (length plan.nodes.items) repositories
  pub beside : AreBeside plan complete repositories entries answers sum.compared
  pub passed : IsTraffic plan bus entries traffic
  pub refused : AreRefusals plan.unit entries refusals
  pub joined : lines ≡ (answers ++ traffic) ++ refused_lines refusals
  pub all_nodes : sum.nodes ≡ length plan.nodes.items
  pub all_packets : sum.packets ≡ length passed.packets
  pub all_refused : sum.refused ≡ length refusals

-- The lines of one node, and of one node more.
use Rattle.std.{proofs.Common.{◌≡◌, ℕ, ◌+◌, List, ◌++◌, length, ap, sym, ◌∙◌, subst, map}, specs.Prelude.{Bool, Option, Some, slice_get}, proofs.lemmas.List.{map-append}}
use Rattle.plan_values.{specs.declared.certificate.Certificate.{Certificate}, specs.declared.plan.Plan.{Plan}, specs.declared.nodes.Node.{Node}}
use Rattle.pdr_repository.specs.Records.{Entry}
use Rattle.plan_exports.specs.TableAnswers.{AreEntriesOf}
use Rattle.audited_captures.{specs.Asked.{unanswered}, specs.RecordParts.{AreRecordParts}, specs.Talk.{AreTalkLines, AreOwnerLines}, specs.Tids.{AreTids}, specs.Untold.{untold_lines, wanted_lines}, specs.Lines.{LineValue, line_value}, specs.declared.lines.Line.{Line}, specs.Exchanges.{AreExchanges}, specs.Strangers.{AreStrangerLines}, specs.Refusals.{IsRefusedOf}, specs.declared.sums.Sum.{Sum}, specs.TrafficLines.{IsTrafficOf}, specs.Words.{AreWords}, specs.Audits.{Heard, NodeFacts, AreRecorded, AreNodeLines, AreLines, More, lines_of_node, told_lines_of, AreOthers, AreBeside, AreAudited, AreRepositories}, specs.Counting.{has_compared}, specs.RecordLines.{one_if}}
use Rattle.heard_captures.{specs.Hearing.{AreHeard}, specs.Messages.{MessageValue}}
use Rattle.bus_captures.specs.Values as captured

-- three lists of lines joined
pub joined : (a b c two all : List Line) (A B C : List LineValue) → two ≡ b ++ c → all ≡ a ++ two
    → map line_value a ≡ A → map line_value b ≡ B → map line_value c ≡ C → map line_value all ≡ A ++ (B ++ C)
joined a b c two all A B C later whole is_a is_b is_c =
    ap (map line_value) (whole ∙ ap (λ x. a ++ x) later) ∙ map-append line_value a (b ++ c)
    ∙ ap (λ x. map line_value a ++ x) (map-append line_value b c)
    ∙ (ap (λ x. x ++ (map line_value b ++ map line_value c)) is_a
    ∙ (ap (λ x. A ++ (x ++ map line_value c)) is_b ∙ ap (λ x. A ++ (B ++ x)) is_c))

-- the lines of a node and those of what it didn't tell
pub of_node : (plan : Plan) (rs : List (List Entry)) (h : Heard) (n : ℕ) (node : Node) (f : NodeFacts) (lines untold : List LineValue) → slice_get plan.nodes.items n ≡ Some node
    → AreEntriesOf plan n f.planned → slice_get rs n ≡ Some f.records → AreRecordParts node.eid.value h.words f.parts → AreRecorded f → AreTids node.eid.value h.words f.tids
    → lines ≡ lines_of_node node f.planned h.exchanges (unanswered node.eid.value h.words h.exchanges f.parts f.tids) (told_lines_of node f) → untold ≡ untold_lines node h.exchanges (length f.records) f.verdicts
    → AreNodeLines plan rs h n lines untold
of_node plan rs h n node f lines untold at plans stored answered recorded identified tell wants = record {
  node = node;
  facts = f;
  at = at;
  are = record { plans = plans; stored = stored; answered = answered; recorded = recorded; identified = identified };
  tell = tell;
  wants = wants;
}

pub next_node : (plan : Plan) (rs : List (List Entry)) (h : Heard) (n : ℕ) (old more new old_untold wants untold : List Line) (compared total : ℕ)
    → AreLines plan rs h n (map line_value old) (map line_value old_untold) compared
    → AreNodeLines plan rs h n (map line_value more) (map line_value wants) → new ≡ old ++ more → untold ≡ old_untold ++ wants → total ≡ compared + one_if (has_compared (map line_value more))
    → AreLines plan rs h (n + 1) (map line_value new) (map line_value untold) total
next_node plan rs h n old more new old_untold wants untold compared total are of_one joins adds sums =
    subst (λ count. AreLines plan rs h (n + 1) (map line_value new) (map line_value untold) count) (sym sums)
    (subst (λ ls. AreLines plan rs h (n + 1) ls (map line_value untold) (compared + one_if (has_compared (map line_value more)))) (sym (ap (map line_value) joins ∙ map-append line_value old more))
    (subst (λ us. AreLines plan rs h (n + 1) (map line_value old ++ map line_value more) us (compared + one_if (has_compared (map line_value more)))) (sym (ap (map line_value) adds ∙ map-append line_value old_untold wants))
    (More n (map line_value old) (map line_value old_untold) (map line_value more) (map line_value wants) compared are of_one)))

pub others_so : (plan : Plan) (complete : Bool) (messages : List MessageValue) (h : Heard) (untold : List LineValue) (strangers wanted owners talk three two all : List Line)
    → AreStrangerLines plan h.exchanges (map line_value strangers) → map line_value wanted ≡ wanted_lines complete untold → AreOwnerLines plan messages (map line_value owners)
    → AreTalkLines plan h.words (map line_value talk) → two ≡ owners ++ talk → three ≡ wanted ++ two → all ≡ strangers ++ three
    → AreOthers plan complete messages h untold (map line_value all)
others_so plan complete messages h untold strangers wanted owners talk three two all strange is_wanted owned talked is_two is_three is_all = record {
  strangers = map line_value strangers;
  owners = map line_value owners;
  talk = map line_value talk;
  strange = strange;
  owned = owned;
  talked = talked;
  joined = ap (map line_value) is_all ∙ map-append line_value strangers three ∙ ap (λ ls. map line_value strangers ++ ls)
      (ap (map line_value) is_three ∙ map-append line_value wanted two ∙ ap (λ ls. ls ++ map line_value two) is_wanted
      ∙ ap (λ ls. wanted_lines complete untold ++ ls) (ap (map line_value) is_two ∙ map-append line_value owners talk));
}

pub beside_so : (plan : Plan) (complete : Bool) (rs : List (List Entry)) (entries : List captured.EntryValue) (messages : List MessageValue) (h : Heard) (nodes untold others all : List Line) (compared : ℕ)
    → AreHeard plan.unit entries messages → AreWords messages h.words → AreExchanges h.words h.exchanges
    → AreLines plan rs h (length plan.nodes.items) (map line_value nodes) (map line_value untold) compared
    → AreOthers plan complete messages h (map line_value untold) (map line_value others) → all ≡ nodes ++ others → AreBeside plan complete rs entries (map line_value all) compared
beside_so plan complete rs entries messages h nodes untold others all compared whole spoken answered told are joins = record {
  messages = messages;
  heard = h;
  whole = whole;
  spoken = spoken;
  answered = answered;
  of_nodes = map line_value nodes;
  untold = map line_value untold;
  of_others = map line_value others;
  told = told;
  others = are;
  joined = ap (map line_value) joins ∙ map-append line_value nodes others;
}

pub audited_so : (plan : Plan) (cert : Certificate) (bus : Option ℕ) (complete : Bool) (rs : List (List Entry)) (entries : List captured.EntryValue) (answers traffic refused two all : List Line) (sum : Sum)
    → AreRepositories plan cert (length plan.nodes.items) rs → AreBeside plan complete rs entries (map line_value answers) sum.compared → IsTrafficOf plan bus entries (map line_value traffic) sum.packets
    → IsRefusedOf plan.unit entries (map line_value refused) sum.refused → two ≡ answers ++ traffic → all ≡ two ++ refused → sum.nodes ≡ length plan.nodes.items
    → AreAudited plan cert bus complete entries (map line_value all) sum
audited_so plan cert bus complete rs entries answers traffic refused two all sum placed beside (passed, packets) (refusals, are, told, count) joins ends nodes = record {
  repositories = rs;
  answers = map line_value answers;
  traffic = map line_value traffic;
  refusals = refusals;
  placed = placed;
  beside = beside;
  passed = passed;
  refused = are;
  joined = ap (map line_value) ends ∙ map-append line_value two refused ∙ ap (λ ls. ls ++ map line_value refused) (ap (map line_value) joins ∙ map-append line_value answers traffic)
      ∙ ap (λ ls. (map line_value answers ++ map line_value traffic) ++ ls) told;
  all_nodes = nodes;
  all_packets = packets;
  all_refused = count;
}

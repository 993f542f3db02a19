-- Packets that the plan has on a bus, and others.
use Rattle.std.{proofs.Common.{◌≡◌, ◌⊎◌, ℕ, ◌<◌, ◌+◌, Bool, true, false, List, [], ◌∷◌, ◌++◌, length, arith, refl, ap, sym, ◌∙◌, subst, inl, inr, map, take, get_or}, specs.Prelude.{Option, Some, Result, Ok, Err, IfOk}}
use Rattle.bus_captures.specs.Values.{EntryValue}
use Rattle.net_check.proofs.Lawful.{alone_by_rule}
use Rattle.plan_values.{specs.declared.certificate.Certificate.{Certificate}, specs.declared.plan.Plan.{Plan}}
use Rattle.net_questions.{proofs.WayLaws.{ways_are_alone}, specs.Ways.{IsWay}, specs.declared.step.WayStep.{WayStep}, specs.declared.way.End.{End}}
use Rattle.net_rules.{specs.Rules.{Accepts}, specs.declared.rule.Rule.TheVariants.{C03}}
use Rattle.net_tables.specs.Routing.{Holds}
use Rattle.audited_captures.{specs.AsPlanned.{IsAmong}, specs.Counting.{difference_count}, specs.Judging.{why_by}, specs.Lines.{LineValue}, specs.Matching.{TrafficMatchesWhereAsPlanned}, specs.Packets.{NumberedPacket, numbered_packet, count_like, ArePackets, AreFirst}, specs.declared.packets.CapturedPacket.{CapturedPacket}, specs.Traffic.{LacksSender, LacksReceiver, is_one_over, ArrivesBy, GoesOver, IsPlanned, Unplanned, IsJudged}, specs.TrafficLines.{IsOneLine, AreLinesOf, AreTrafficLines, More, IsTrafficOf}, proofs.MatchLaws.{AllDiffer, all_both, zero_left, zero_right, zero_both}, proofs.PacketLaws.{each_has_first, first_among, among_left, among_right, among_split}, proofs.WordLaws.{mapped_more}}
use Rattle.net_questions.specs.declared.way.End.TheVariants as end
use Rattle.audited_captures.specs.TrafficLines as lines

-- ---- a way decides

module _ (plan : Plan) (cert : Certificate) (accepted : Accepts plan cert) (bus : Option ℕ) (source destination from to : ℕ) (sent : ¬ LacksSender plan source)
    (taken : ¬ LacksReceiver plan destination) (sender : Holds plan from source) (receiver : Holds plan to destination) where
  other_end : (steps others : List WayStep) (last end_at : ℕ) (one other : End) → IsWay plan destination from steps last one → IsWay plan destination from others end_at other → one ≡ other
  other_end steps others last end_at one other way second = (ways_are_alone plan cert destination from last end_at steps others one other accepted way second).2

  no_arrival : (steps : List WayStep) (last : ℕ) (why : _) → IsWay plan destination from steps last (end.Stops why) → (others : List WayStep) → ¬ ArrivesBy plan destination from others
  no_arrival steps last why way others (end_at, arrives) =
      let same : end.Stops why ≡ end.Arrives = other_end steps others last end_at (end.Stops why) end.Arrives way arrives in cc

  -- those who hold the source are one
  goes_from : (steps : List WayStep) (last : ℕ) → IsWay plan destination from steps last end.Arrives → is_one_over plan bus steps ≡ true
      → (n m : ℕ) → Holds plan n source → Holds plan m destination → GoesOver plan bus destination n
  goes_from steps last way over n m here there =
      let same : from ≡ n = alone_by_rule plan cert (accepted C03) n from source here sender in
      subst (λ k. GoesOver plan bus destination k) same (steps, (last, way), over)

  not_over : (steps : List WayStep) (last : ℕ) → IsWay plan destination from steps last end.Arrives → is_one_over plan bus steps ≡ false → ¬ GoesOver plan bus destination from
  not_over steps last way none (others, (end_at, arrives), over) =
      let same : steps ≡ others = (ways_are_alone plan cert destination from last end_at steps others end.Arrives end.Arrives accepted way arrives).0 in
      let both : false ≡ true = sym none ∙ ap (is_one_over plan bus) same ∙ over in cc

  arrives_so : (steps : List WayStep) (last : ℕ) (b : Bool) → is_one_over plan bus steps ≡ b → IsWay plan destination from steps last end.Arrives
      → IsJudged plan bus source destination (why_by plan bus steps end.Arrives)
  arrives_so steps last true over way = rw over (record { sent = sent; taken = taken; goes = goes_from steps last way over })
  arrives_so steps last false none way = rw none (λ planned. not_over steps last way none (planned.goes from to sender receiver), (from, to, sender, receiver, (last, way), none))

  pub way_decides : (steps : List WayStep) (last : ℕ) (ends : End) → IsWay plan destination from steps last ends → IsJudged plan bus source destination (why_by plan bus steps ends)
  way_decides steps last (end.Stops why) way = (
    λ planned. (let goes = planned.goes from to sender receiver in no_arrival steps last why way goes.0 goes.1),
    (from, to, sender, receiver, no_arrival steps last why way),
  )
  way_decides steps last end.Arrives way = arrives_so steps last (is_one_over plan bus steps) refl way

among_cases : (f : NumberedPacket) (fs : List NumberedPacket) (g : NumberedPacket) → IsAmong f (fs ++ g ∷ []) → IsAmong f fs ⊎ (g ≡ f)
among_cases f fs g among = elim (among_split f fs (g ∷ []) among) [
  | inl before ↦ inl before
  | inr last ↦ elim last [ inl same ↦ inr same | inr none ↦ absurd none ]
]

-- ---- lines

module _ (plan : Plan) (bus : Option ℕ) (packets : List NumberedPacket) where
  pub next_lines : (items : List CapturedPacket) (i : ℕ) (item : CapturedPacket) (old more new : List LineValue) → i < length items → item ≡ get_or items i item
      → AreTrafficLines plan bus packets (map numbered_packet (take i items)) old → AreLinesOf plan bus (numbered_packet item) (count_like (numbered_packet item) packets) more
      → new ≡ old ++ more → AreTrafficLines plan bus packets (map numbered_packet (take (i + 1) items)) new
  next_lines items i item old more new within is are of_one joined =
      subst (λ fs. AreTrafficLines plan bus packets fs new) (sym (mapped_more numbered_packet items i item within is))
      (subst (λ ls. AreTrafficLines plan bus packets (map numbered_packet (take i items) ++ numbered_packet item ∷ []) ls) (sym joined)
      (More (map numbered_packet (take i items)) old (numbered_packet item) more are of_one))

  pub some_lines : {T E : Type 0} (lines_of : T → List LineValue) (f : NumberedPacket) (count : ℕ) (why : Unplanned) (result : Result T E)
      → IsJudged plan bus f.source f.destination (Some why) → IfOk result (λ t. IsOneLine plan f count why (lines_of t)) → IfOk result (λ t. AreLinesOf plan bus f count (lines_of t))
  some_lines lines_of f count why (Ok t) judged line = inr (why, judged, line)
  some_lines lines_of f count why (Err e) judged line = line

  one_zero : (f : NumberedPacket) (count : ℕ) (ls : List LineValue) → AreLinesOf plan bus f count ls → difference_count ls ≡ 0 → IsPlanned plan bus f.source f.destination
  one_zero f count ls (inl (planned, none)) zero = planned
  one_zero f count ls (inr (why, judged, (line, is, told))) zero =
      let one : difference_count ls ≡ 1 = ap difference_count told ∙ ap (λ l. difference_count (l ∷ [])) is.told in
      absurd (omega (arith, one, zero))

  zero_one : (f : NumberedPacket) (count : ℕ) (ls : List LineValue) → AreLinesOf plan bus f count ls → IsPlanned plan bus f.source f.destination → difference_count ls ≡ 0
  zero_one f count ls (inl (planned, none)) is = ap difference_count none
  zero_one f count ls (inr (why, judged, line)) is = absurd (judged.0 is)

  each_planned : {firsts : List NumberedPacket} {ls : List LineValue} → AreTrafficLines plan bus packets firsts ls → difference_count ls ≡ 0
      → (f : NumberedPacket) → IsAmong f firsts → IsPlanned plan bus f.source f.destination
  each_planned lines.Empty zero f among = absurd among
  each_planned (More firsts ls first more are of_one) zero f among = elim (among_cases f firsts first among) [
    | inl before ↦ each_planned are (zero_left ls more zero) f before
    | inr same ↦ (let P : NumberedPacket → Type 0 = λ p. IsPlanned plan bus p.source p.destination in
        subst P same (one_zero first (count_like first packets) more of_one (zero_right ls more zero)))
  ]

  none_told : {firsts : List NumberedPacket} {ls : List LineValue} → AreTrafficLines plan bus packets firsts ls
      → ((f : NumberedPacket) → IsAmong f firsts → IsPlanned plan bus f.source f.destination) → difference_count ls ≡ 0
  none_told lines.Empty planned = refl
  none_told (More firsts ls first more are of_one) planned =
      zero_both ls more (none_told are (λ f among. planned f (among_left f firsts (first ∷ []) among)))
      (zero_one first (count_like first packets) more of_one (planned first (among_right first firsts (first ∷ []) (inl refl))))

  one_differs : (f : NumberedPacket) (count : ℕ) (ls : List LineValue) → AreLinesOf plan bus f count ls → AllDiffer ls
  one_differs f count ls (inl (planned, none)) = subst AllDiffer (sym none) refl
  one_differs f count ls (inr (why, judged, (line, is, told))) = subst AllDiffer (sym (told ∙ ap (λ l. l ∷ []) is.told)) refl

  -- each line about packets tells a difference
  pub traffic_differs : {firsts : List NumberedPacket} {ls : List LineValue} → AreTrafficLines plan bus packets firsts ls → AllDiffer ls
  traffic_differs lines.Empty = refl
  traffic_differs (More firsts ls first more are of_one) = all_both ls more (traffic_differs are) (one_differs first (count_like first packets) more of_one)

pub traffic_so : (plan : Plan) (bus : Option ℕ) (entries : List EntryValue) (packets firsts : List NumberedPacket) (ls : List LineValue) (count : ℕ)
    → ArePackets plan.unit entries packets → AreFirst packets firsts → AreTrafficLines plan bus packets firsts ls → count ≡ length packets → IsTrafficOf plan bus entries ls count
traffic_so plan bus entries packets firsts ls count read first told many = (record { packets = packets; firsts = firsts; read = read; first = first; told = told }, many)

pub traffic_matches : TrafficMatchesWhereAsPlanned
traffic_matches plan bus entries ls passed = (
  λ zero p among. (
      let first = each_has_first passed.first p among in
      let planned = each_planned plan bus passed.packets passed.told zero first.0 first.1 in
      subst (λ s. IsPlanned plan bus s p.destination) first.2 (subst (λ d. IsPlanned plan bus first.0.source d) first.3 planned)),
  λ planned. none_told plan bus passed.packets passed.told (λ f among. planned f (first_among passed.first f among)),
)

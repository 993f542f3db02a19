-- What is told of packets that aren't planned.
use Rattle.std.{specs.Prelude.{◌≡◌, ◌⊎◌, ℕ, ◌-◌, ◌==◌, List, [], ◌∷◌, ◌++◌, length, codes, Option, Some, None, if◌then◌else◌}, specs.Fmt.{decimal}, specs.List.{flat_map}}
use Rattle.bus_captures.specs.Values.{EntryValue}
use Rattle.plan_values.specs.declared.plan.Plan.{Plan}
use Rattle.net_questions.specs.declared.step.WayStep.{WayStep}
use Rattle.net_tables.{specs.Rows.{bus_of}, specs.Names.{node_name, bus_name}}
use Rattle.audited_captures.{specs.Lines.{LineValue, difference}, specs.Names.{IsNameOf}, specs.Packets.{NumberedPacket, ArePackets, AreFirst, count_like}, specs.Traffic.{Unplanned, NoSender, NoReceiver, Nobody, NoWay, Elsewhere, IsJudged}}

-- the bus over which a step goes
abbrev pub bus_text : Plan → Option ℕ → List ℕ
bus_text plan None = codes "-"
bus_text plan (Some bus) = bus_name plan bus

abbrev pub step_bus : Plan → WayStep → List ℕ
step_bus plan step = bus_text plan (bus_of plan step.node step.hop.port)

-- the nodes that forward a packet on its way: those of all steps but the first
abbrev pub by_words : Plan → List WayStep → List ℕ
by_words plan [] = []
by_words plan (step ∷ []) = []
by_words plan (step ∷ second ∷ steps) =
    codes " by " ++ (node_name plan second.node
    ++ flat_map (λ (later : WayStep). codes ", " ++ node_name plan later.node) steps)

-- the buses over which it goes
abbrev pub over_words : Plan → List WayStep → List ℕ
over_words plan [] = codes " over no bus"
over_words plan (step ∷ steps) =
    codes " over " ++ (step_bus plan step ++ flat_map (λ (later : WayStep). codes ", " ++ step_bus plan later) steps)

-- no node holds either endpoint ID
abbrev pub nobody_words : (source destination : ℕ) → List ℕ
nobody_words source destination =
    if source == destination then codes "no node holds " ++ decimal source
    else codes "no node holds " ++ (decimal source ++ (codes " or " ++ decimal destination))

abbrev pub why_words : Plan → (source destination : ℕ) → Unplanned → List ℕ
why_words plan source destination NoSender = codes "no node holds " ++ decimal source
why_words plan source destination NoReceiver = codes "no node holds " ++ decimal destination
why_words plan source destination Nobody = nobody_words source destination
why_words plan source destination NoWay = codes "no way planned"
why_words plan source destination (Elsewhere steps) =
    codes "planned" ++ (by_words plan steps ++ over_words plan steps)

-- how many packets there are beside the first
abbrev pub more_words : ℕ → List ℕ
more_words count = if count == 1 then [] else codes " and " ++ (decimal (count - 1) ++ codes " more")

-- the line of so many packets from an endpoint ID to another, the first of which has this number
abbrev pub packets_line : (number count : ℕ) → (source destination why : List ℕ) → LineValue
packets_line number count source destination why =
    difference (codes "packet " ++ (decimal number ++ (more_words count ++ (codes " from " ++ (source
    ++ (codes " to " ++ (destination ++ (codes ": " ++ why))))))))

-- the line of the packets for this reason
pub record IsLineOf (plan : Plan) (first : NumberedPacket) (count : ℕ) (why : Unplanned) (line : LineValue)
    : Type 0 where
  pub source : List ℕ
  pub destination : List ℕ
  pub source_named : IsNameOf plan first.source source
  pub destination_named : IsNameOf plan first.destination destination
  pub told : line ≡ packets_line first.number count source destination
      (why_words plan first.source first.destination why)

abbrev pub IsOneLine : Plan → NumberedPacket → ℕ → Unplanned → List LineValue → Type 0
IsOneLine plan first count why lines = (line : LineValue) × IsLineOf plan first count why line × (lines ≡ line ∷ [])

-- what is told of so many packets that go the way of the first of them: nothing where they are planned
abbrev pub AreLinesOf : Plan → Option ℕ → NumberedPacket → ℕ → List LineValue → Type 0
AreLinesOf plan bus first count lines =
    (IsJudged plan bus first.source first.destination None × (lines ≡ []))
    ⊎ ((why : Unplanned) × IsJudged plan bus first.source first.destination (Some why)
    × IsOneLine plan first count why lines)

-- the lines of all of them, in the order of the first packets
pub data AreTrafficLines (plan : Plan) (bus : Option ℕ) (packets : List NumberedPacket)
    : List NumberedPacket → List LineValue → Type 0 where
  Empty : AreTrafficLines plan bus packets [] []
  More : (firsts : List NumberedPacket) (lines : List LineValue) (first : NumberedPacket) (more : List LineValue)
      → AreTrafficLines plan bus packets firsts lines
      → AreLinesOf plan bus first (count_like first packets) more
      → AreTrafficLines plan bus packets (firsts ++ first ∷ []) (lines ++ more)

-- the lines tell which packets of the capture, within the plan's transmission unit, aren't planned on the bus
pub record IsTraffic (plan : Plan) (bus : Option ℕ) (entries : List EntryValue) (lines : List LineValue) : Type 0 where
  pub packets : List NumberedPacket
  pub firsts : List NumberedPacket
  pub read : ArePackets plan.unit entries packets
  pub first : AreFirst packets firsts
  pub told : AreTrafficLines plan bus packets firsts lines

-- and there are so many packets
abbrev pub IsTrafficOf : Plan → Option ℕ → List EntryValue → List LineValue → ℕ → Type 0
IsTrafficOf plan bus entries lines count =
    (traffic : IsTraffic plan bus entries lines) × (count ≡ length traffic.packets)

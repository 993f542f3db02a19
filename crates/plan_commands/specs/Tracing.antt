-- What the end of `trace` says of the plan and the certificate that it read, and of what it wrote.
use Rattle.std.specs.Prelude.{◌≡◌, ◌≤◌, ℕ, List, length}
use Rattle.net_tables.specs.Ranks.{rank}
use Rattle.plan_values.{specs.declared.plan.Plan.{Plan}, specs.declared.certificate.Certificate.{Certificate}}
use Rattle.net_questions.{specs.declared.step.WayStep.{WayStep}, specs.declared.way.End.{End}, specs.Packets.{KeepsToWays}, specs.Ways.{IsWay}}
use Rattle.command_answers.specs.Naming.{IsFirstNamed, IsDestination}
use Rattle.question_texts.specs.WayLines.{trace_text}

-- The text is the lines of the way of a packet for e that is put in at n. It has no more hops than the certified rank,
-- and in every run of the network each packet keeps to its way.
pub record IsWayText (plan : Plan) (certificate : Certificate) (n e : ℕ) (text : List ℕ) : Type 0 where
  pub steps : List WayStep
  pub last : ℕ
  pub end : End
  pub way : IsWay plan e n steps last end
  pub within : length steps ≤ rank certificate n e
  pub kept : KeepsToWays plan certificate
  pub written : text ≡ trace_text plan steps last end

-- the text is that of the way from the first node of the one name to the destination that the other word names
abbrev pub IsTraceText : List ℕ → List ℕ → Plan → Certificate → List ℕ → Type 0
IsTraceText from to plan certificate text = (n e : ℕ) × IsFirstNamed plan from n × IsDestination plan to e
    × IsWayText plan certificate n e text

-- What is accepted: a plan, or a move to another, with the certificate.
use Rattle.std.specs.Prelude.{Option, Some, None}
use Rattle.plan_values.{specs.declared.plan.Plan.{Plan}, specs.declared.certificate.Certificate.{Certificate}}
use Rattle.net_tables.specs.TwoPlans.{Tables}
use Rattle.net_rules.{specs.Rules.{Accepts}, specs.MoveRules.{AcceptsMove}}

-- each rule of the plan holds, or where there is a plan after, each rule of the move
abbrev pub AreAccepted : Plan → Option Plan → Certificate → Type 0
AreAccepted plan None cert = Accepts plan cert
AreAccepted plan (Some after) cert = AcceptsMove plan after cert

abbrev pub IsAccepted : Tables → Certificate → Type 0
IsAccepted tables cert = AreAccepted tables.plan tables.after cert

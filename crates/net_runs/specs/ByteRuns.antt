-- Runs in which what is put in is bytes.
use Rattle.std.specs.Prelude.{◌≡◌, ℕ, List, All}
use Rattle.plan_values.{specs.declared.plan.Plan.{Plan}, specs.declared.certificate.Certificate.{Certificate}}
use Rattle.net_tables.{specs.Repositories.{records_by_place}, specs.TwoPlans.{Tables}}
use Rattle.net_runs.{specs.Termini.{AreBytes}, specs.Events.{EventValue, Put}, specs.Networks.{HasStep}, specs.Runs.{Turn, RunOf, reached}}

-- the plan's records are bytes
abbrev pub RecordsAreBytes : Plan → Certificate → Type 0
RecordsAreBytes plan cert = (n : ℕ) → All (λ e. AreBytes e.bytes) (records_by_place plan cert n)

-- each put puts in bytes
abbrev pub PutBytes : List Turn → Type 0
PutBytes turns = All (λ turn. (node : ℕ) (bytes : List ℕ) → turn.event ≡ Put node bytes → AreBytes bytes) turns

-- whatever the event, each such run goes on
abbrev pub RunsGoOn : Tables → Certificate → Type 0
RunsGoOn tables cert =
    (turns : List Turn) (event : EventValue) → RecordsAreBytes tables.plan cert → PutBytes turns
    → RunOf tables cert turns → HasStep tables (reached tables.plan cert turns) event

-- That an event leaves one outcome and one next state.
use Rattle.std.specs.Prelude.{◌≡◌, ℕ, List, Some, IfSome}
use Rattle.plan_values.specs.declared.certificate.Certificate.{Certificate}
use Rattle.pdr_repository.specs.Records.{IsLawful}
use Rattle.net_tables.{specs.Rows.{RowsAreApart}, specs.TwoPlans.{Tables}}
use Rattle.net_runs.{specs.Termini.{TerminusState}, specs.States.{NetworkState}, specs.Events.{EventValue, OutcomeValue}, specs.Networks.{Step}, specs.Runs.{Turn, RunOf, reached}}

-- no two rows of a node cover one EID, before it has switched nor from then on
abbrev pub HaveRowsApart : Tables → Type 0
HaveRowsApart tables = RowsAreApart tables.plan × IfSome tables.after RowsAreApart

-- the records of each terminus are a lawful list
abbrev pub HoldsLawfulLists : NetworkState → Type 0
HoldsLawfulLists w = (n : ℕ) (t : TerminusState) → w.terminus n ≡ Some t → IsLawful t.records

-- What comes of the event, and the network after it, are determined.
abbrev pub HasOneOutcome : Tables → NetworkState → EventValue → Type 0
HasOneOutcome tables w event =
    (a b : OutcomeValue) (u v : NetworkState) → Step tables w event a u → Step tables w event b v → (a ≡ b) × (u ≡ v)

-- so it is at each moment of each run by the tables
abbrev pub RunsHaveOneOutcome : Tables → Certificate → Type 0
RunsHaveOneOutcome tables cert =
    (turns : List Turn) (event : EventValue) → RunOf tables cert turns
    → HasOneOutcome tables (reached tables.plan cert turns) event

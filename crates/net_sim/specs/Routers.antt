-- Routing tables of a network's nodes, and what going on by them keeps.
use Rattle.std.specs.Prelude.{◌≡◌, ◌≢◌, ◌⊎◌, ℕ, ◌<◌, List, length, slice_get, Bool, true, false, Option, Some, None, unwrap_or}
use Rattle.mctp_routing.{specs.declared.decision.Decision.{Decision}, specs.declared.decision.Decision.TheVariants.{Here, Drop, Forward}}
use Rattle.plan_values.{specs.declared.plan.Plan.{Plan}, specs.declared.nodes.Row.{Row}, specs.declared.certificate.Certificate.{Certificate}}
use Rattle.net_tables.{specs.Ranks.{rank}, specs.Tables.{AreTabled}, specs.TwoPlans.{Tables, rows_by}}
use Rattle.net_runs.specs.States.{Flight, destination}
use Rattle.net_check.specs.Accepted.{IsAccepted}
use Rattle.mctp_routing.specs.declared.row.TableRow as bridge

-- The tables of a network, the certificate for them, and where there is a plan after, whether each node has switched.
pub record RouterValue : Type 0 where
  pub tables : Tables
  pub certificate : Certificate
  pub switched : List Bool

-- whether n has switched, by a list of marks
abbrev pub has_switched : List Bool → ℕ → Bool
has_switched marks n = unwrap_or (slice_get marks n) false

-- the rows that n goes by
abbrev pub rows_in_force : RouterValue → ℕ → List Row
rows_in_force router n = rows_by router.tables.plan router.tables.after (has_switched router.switched n) n

-- where there is a plan after, as many tables that route as its rows do; else none
abbrev pub AreTabledAfter : Plan → Option Plan → List (List bridge.TableRow) → Type 0
AreTabledAfter plan None tables = length tables ≡ 0
AreTabledAfter plan (Some after) tables = AreTabled after (length plan.nodes.items) tables

-- The tables are accepted. Each node has a table that routes as its rows before a switch do; and where there is a plan
-- after, one for those after it, and a mark.
pub record RoutesAs (tables : Tables) (cert : Certificate) (old new : List (List bridge.TableRow))
    (switched : List Bool) : Type 0 where
  pub accepted : IsAccepted tables cert
  pub before : AreTabled tables.plan (length tables.plan.nodes.items) old
  pub after : AreTabledAfter tables.plan tables.after new
  pub marked : length switched ≡ length new

-- whether n can switch: there is a plan after, and it has not
abbrev pub TellsIfSwitchable : RouterValue → ℕ → Bool → Type 0
TellsIfSwitchable router n true = (router.tables.after ≢ None) × (slice_get router.switched n ≡ Some false)
TellsIfSwitchable router n false = (router.tables.after ≡ None) ⊎ (slice_get router.switched n ≡ Some true)

-- a flight that goes on goes to a node of the plan, of a lower rank
abbrev pub GoesOnWithinRank : Plan → Certificate → Flight → Decision → Type 0
GoesOnWithinRank plan cert f Here = Unit {0}
GoesOnWithinRank plan cert f (Drop why) = Unit {0}
GoesOnWithinRank plan cert f (Forward hop) =
    (hop.next < length plan.nodes.items) × (rank cert hop.next (destination f) < rank cert f.node (destination f))

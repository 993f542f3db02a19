-- Walks that are played to their end.
use Rattle.std.specs.Prelude.{◌≡◌, ◌≢◌, ◌⊎◌, ℕ, ◌<◌, ◌≤◌, List, ◌∷◌, length, sum_by, false, Some, None, All}
use Rattle.pdr_repository.{specs.Records.{bytes_by_place}, specs.Walks.{exchanges}}
use Rattle.net_tables.{specs.TwoPlans.{Tables, HasRowAlways}, specs.Routing.{Holds}, specs.Repositories.{terminus_of, records_by_place}}
use Rattle.plan_values.specs.declared.certificate.Certificate.{Certificate}
use Rattle.net_runs.{specs.Termini.{AreBytes}, specs.States.{unit_of}, specs.Events.{Put}, specs.Walkers.{WalkerValue, Happening, BeginWalk, Begun, fresh_walker, five_packets, most_records, most_bytes}, specs.NetworkWalks.{IsSameWalker}, specs.WalkedRuns.{WalkedTurn, WalkedRunOf, walked_reached}}

-- the node holds the endpoint ID, or always has a row for it
abbrev pub HasWay : Tables → (n e : ℕ) → Type 0
HasWay tables n e = Holds tables.plan n e ⊎ HasRowAlways tables n e

-- A run that begins with the walk and leads to its end, in which only requests and answers are put in: nothing more is
-- due, no fault has ended it, and with one answer for each part of the records the walker has collected all of them.
pub record IsPlayedToItsEnd (tables : Tables) (cert : Certificate) (node eid tag count n : ℕ) : Type 0 where
  pub begins : WalkedTurn
  pub later : List WalkedTurn
  pub run : WalkedRunOf tables cert (begins ∷ later)
  pub event : begins.event ≡ BeginWalk node eid tag count
  pub outcome : begins.outcome ≡ Begun 1
  pub puts : All (λ turn. (at : ℕ) (bytes : List ℕ) → turn.event ≢ Happening (Put at bytes)) later
  pub walker : WalkerValue
  pub there : (walked_reached tables.plan cert (begins ∷ later)).walker 1 ≡ Some walker
  pub same : IsSameWalker (fresh_walker node eid tag count) walker
  pub due : walker.walk.due ≡ None
  pub goes : walker.walk.failed ≡ false
  pub ended : walker.ended ≡ None
  pub whole : walker.walk.records ≡ bytes_by_place (records_by_place tables.plan cert n)
  pub taken : walker.walk.taken ≡ exchanges count (records_by_place tables.plan cert n)

-- Each walk that isn't refused can be played to its end, where requests and answers have ways to go by, and the
-- records of the terminus are bytes and not too many.
abbrev pub WalksCanBePlayed : Tables → Certificate → Type 0
WalksCanBePlayed tables cert =
    (node own eid tag count n : ℕ) → Holds tables.plan node own → Holds tables.plan n eid
    → terminus_of tables.plan n ≢ None → tag < 8
    → 8 ≤ count → count ≤ five_packets (unit_of tables.plan) → HasWay tables node eid → HasWay tables n own
    → All (λ e. AreBytes e.bytes) (records_by_place tables.plan cert n)
    → length (records_by_place tables.plan cert n) ≤ most_records
    → sum_by (λ e. length e.bytes) (records_by_place tables.plan cert n) ≤ most_bytes
    → IsPlayedToItsEnd tables cert node eid tag count n

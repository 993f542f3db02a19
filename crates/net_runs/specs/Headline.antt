-- What is promised of every run of a network, and of every walk over a terminus: for an accepted plan and
-- certificate, and for an accepted move.
use Rattle.std.specs.Prelude.{◌≡◌, ◌≢◌, ℕ, ◌+◌, ◌≤◌, List, [], ◌∷◌, ◌++◌, length, slice_get, Some, None, Ok, All, AllPairs}
use Rattle.mctp_transport.{specs.PacketValues.{PacketValue, KeyValue, key_of}, specs.Messages.{Joined}, specs.Histories.{EachArrival, Comes}, specs.Hearing.{Whole}}
use Rattle.plan_values.{specs.declared.plan.Plan.{Plan}, specs.declared.certificate.Certificate.{Certificate}, specs.declared.terminus.PlannedRecord.{PlannedRecord}}
use Rattle.pldm_message.specs.Pdrs.{Part}
use Rattle.pdr_repository.{specs.Records.{Means, handle_in, bytes_by_place}, specs.Walks.{Exchange, Walk, IsFinished, Collects}}
use Rattle.net_tables.{specs.Routing.{Holds}, specs.Ranks.{rank}, specs.Repositories.{terminus_of, records_of, places_of, entry_of, records_by_place}, specs.TwoPlans.{Tables, one_plan}}
use Rattle.net_runs.{specs.Termini.{TerminusState}, specs.States.{NetworkState, Flight, destination, slots, limit}, specs.Events.{Brings}, specs.Runs.{Turn, RunOf, reached, WasPutIn}}

-- n holds e, and no other node does
abbrev pub AloneHolds : Plan → ℕ → ℕ → Type 0
AloneHolds plan n e = Holds plan n e × ((m : ℕ) → Holds plan m e → m ≡ n)

-- every packet that entered a node was for that node alone
abbrev pub EntersItsHolderOnly : Plan → NetworkState → Type 0
EntersItsHolderOnly plan w = (n : ℕ) → EachArrival (λ p. AloneHolds plan n p.destination) (w.history n)

-- every flight is within its certified hops
abbrev pub StaysWithinHops : Certificate → NetworkState → Type 0
StaysWithinHops cert w = (number : ℕ) (f : Flight) → w.flight number ≡ Some f
    → f.hops + rank cert f.node (destination f) ≤ rank cert f.origin (destination f)

-- packets that the turns put in, all for n and of the key, join to the message
abbrev pub JoinsPackets : Plan → List Turn → ℕ → KeyValue → List ℕ → Type 0
JoinsPackets plan turns n key message = (ps : List PacketValue) × Joined ps message
    × All (λ p. WasPutIn plan turns p × Holds plan n p.destination × (key_of p ≡ key)) ps

-- What holds of every run, of any length. Each beginning of a run is a run, so it holds at every moment of one.
pub record KeepsPackets (tables : Tables) (cert : Certificate) : Type 0 where
  pub enters : (turns : List Turn) → RunOf tables cert turns
      → EntersItsHolderOnly tables.plan (reached tables.plan cert turns)
  pub hops : (turns : List Turn) → RunOf tables cert turns → StaysWithinHops cert (reached tables.plan cert turns)
  -- a message that comes at a node joins packets that were put in, by a put or an answer
  pub joins : (turns : List Turn) → RunOf tables cert turns → (n : ℕ) (message : List ℕ)
      → Comes slots limit ((reached tables.plan cert turns).history n) message
      → (key : KeyValue) × JoinsPackets tables.plan turns n key message
  -- a message that a turn tells joins packets that were put in earlier
  pub tells : (earlier : List Turn) (turn : Turn) → RunOf tables cert (earlier ++ turn ∷ [])
      → (number n : ℕ) (key : KeyValue) (message : List ℕ)
      → Brings turn.outcome number n key (Whole message) → JoinsPackets tables.plan earlier n key message

-- the answer names the next handle that the plan gives the record asked for
pub record NamesPlannedNext (plan : Plan) (cert : Certificate) (n : ℕ) (x : Exchange) : Type 0 where
  pub place : ℕ
  pub asked : PlannedRecord
  pub meant : Means (records_by_place plan cert n) x.request.handle place (entry_of asked)
  pub j : ℕ
  pub planned : slice_get (records_of plan n) j ≡ Some asked
  pub part : Part
  pub answered : x.answer ≡ Ok part
  pub next : part.next ≡ asked.next

-- The exchanges have collected each record of n once, at its place, with different handles.
pub record CollectsEach (plan : Plan) (cert : Certificate) (n : ℕ) (xs : List Exchange) : Type 0 where
  pub collected : List (List ℕ)
  pub collects : Collects xs collected []
  pub ordered : collected ≡ bytes_by_place (records_by_place plan cert n)
  pub as_many : length collected ≡ length (records_of plan n)
  pub each : (j place : ℕ) (r : PlannedRecord) → slice_get (records_of plan n) j ≡ Some r
      → slice_get (places_of cert n) j ≡ Some place → slice_get collected place ≡ Some r.bytes.items
  pub handles : AllPairs (λ a b. handle_in a ≢ handle_in b) collected
  pub nexts : (i : ℕ) (x : Exchange) → slice_get xs i ≡ Some x → NamesPlannedNext plan cert n x

-- every finished walk over a terminus, with parts of 8 to 4079 bytes, has collected each of its records
abbrev pub WalksCollectEach : Plan → Certificate → Type 0
WalksCollectEach plan cert = (n count : ℕ) (xs : List Exchange) → terminus_of plan n ≢ None → 8 ≤ count → count ≤ 4079
    → Walk (records_by_place plan cert n) count xs → IsFinished count xs → CollectsEach plan cert n xs

-- a terminus has the plan's records, in the certificate's order
abbrev pub HasPlannedRecords : Plan → Certificate → NetworkState → Type 0
HasPlannedRecords plan cert w =
    (n : ℕ) (t : TerminusState) → w.terminus n ≡ Some t → t.records ≡ records_by_place plan cert n

-- what is promised of packets, of termini and of walks
pub record HeadlineOf (tables : Tables) (cert : Certificate) : Type 0 where
  pub packets : KeepsPackets tables cert
  pub records : (turns : List Turn) → RunOf tables cert turns
      → HasPlannedRecords tables.plan cert (reached tables.plan cert turns)
  pub walks : WalksCollectEach tables.plan cert

-- what an accepted plan and certificate promise
abbrev pub Headline : Plan → Certificate → Type 0
Headline plan cert = HeadlineOf (one_plan plan) cert

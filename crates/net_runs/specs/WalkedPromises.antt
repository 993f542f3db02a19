-- What is promised of every run with walkers, as of every run of the network: for an accepted plan and certificate,
-- and for an accepted move.
use Rattle.std.specs.Prelude.{◌≡◌, ◌≢◌, ◌⊎◌, ℕ, ◌+◌, ◌≤◌, Bool, false, not, ◌&&◌, List, [], ◌∷◌, ◌++◌, length, filter, slice_get, Option, Some, All}
use Rattle.mctp_transport.{specs.PacketValues.{PacketValue, KeyValue, key_of}, specs.Messages.{Joined}, specs.Histories.{Comes}, specs.Hearing.{Answer}}
use Rattle.mctp_routing.specs.declared.decision.ForwardFault.{ForwardFault}
use Rattle.plan_values.{specs.declared.plan.Plan.{Plan}, specs.declared.certificate.Certificate.{Certificate}}
use Rattle.net_tables.{specs.Routing.{Holds}, specs.Ranks.{rank}, specs.TwoPlans.{Tables}}
use Rattle.net_runs.{specs.States.{NetworkState, Flight, destination, slots, limit}, specs.Events.{Move, Lost, Stopped, Entered}, specs.Headline.{EntersItsHolderOnly, StaysWithinHops, HasPlannedRecords, WalksCollectEach}, specs.Deliveries.{IsDeliverable, names_itself, is_refusal}, specs.Walkers.{WalkedEvent, Happening, WalkedOutcome, Happened, Handed, BringsWhole}, specs.WalkedRuns.{WalkedTurn, WalkedRunOf, walked_reached}, specs.WalkedMessages.{IsPutOfWalked}}

-- one of the turns puts the packet in, by a put, an answer or a walker's request
abbrev pub WasPutInWalked : Plan → List WalkedTurn → PacketValue → Type 0
WasPutInWalked plan [] p = ⊥
WasPutInWalked plan (turn ∷ turns) p =
    IsPutOfWalked plan turn.event turn.outcome turn.after.network p ⊎ WasPutInWalked plan turns p

-- packets that the turns put in, all for n and of the key, join to the message
abbrev pub JoinsPacketsWalked : Plan → List WalkedTurn → ℕ → KeyValue → List ℕ → Type 0
JoinsPacketsWalked plan turns n key message = (ps : List PacketValue) × Joined ps message
    × All (λ p. WasPutInWalked plan turns p × Holds plan n p.destination × (key_of p ≡ key)) ps

-- the network that a run with walkers reaches
abbrev pub network_reached : Plan → Certificate → List WalkedTurn → NetworkState
network_reached plan cert turns = (walked_reached plan cert turns).network

-- What holds of every run with walkers, of any length. Each beginning of a run is a run, so it holds at every moment of
-- one.
pub record WalkedKeepsPackets (tables : Tables) (cert : Certificate) : Type 0 where
  pub enters : (turns : List WalkedTurn) → WalkedRunOf tables cert turns
      → EntersItsHolderOnly tables.plan (network_reached tables.plan cert turns)
  pub hops : (turns : List WalkedTurn) → WalkedRunOf tables cert turns
      → StaysWithinHops cert (network_reached tables.plan cert turns)
  -- a message that comes at a node joins packets that were put in, by a put, an answer or a walker's request
  pub joins : (turns : List WalkedTurn) → WalkedRunOf tables cert turns → (n : ℕ) (message : List ℕ)
      → Comes slots limit ((network_reached tables.plan cert turns).history n) message
      → (key : KeyValue) × JoinsPacketsWalked tables.plan turns n key message
  -- a message that a turn tells joins packets that were put in earlier
  pub tells : (earlier : List WalkedTurn) (turn : WalkedTurn) → WalkedRunOf tables cert (earlier ++ turn ∷ [])
      → (number n : ℕ) (key : KeyValue) (message : List ℕ) (handed : Option Handed)
      → BringsWhole turn.outcome number n key message handed → JoinsPacketsWalked tables.plan earlier n key message

-- what is promised of packets, of termini and of walks
pub record WalkedHeadline (tables : Tables) (cert : Certificate) : Type 0 where
  pub packets : WalkedKeepsPackets tables cert
  pub records : (turns : List WalkedTurn) → WalkedRunOf tables cert turns
      → HasPlannedRecords tables.plan cert (network_reached tables.plan cert turns)
  pub walks : WalksCollectEach tables.plan cert

-- whether the flight itself was moved, and not a copy of it
abbrev pub moves_itself : ℕ → WalkedEvent → WalkedOutcome → Bool
moves_itself number (Happening event) (Happened outcome handed) = names_itself number event && not (is_refusal outcome)
moves_itself number _ _ = false

-- the turns that moved the flight itself
abbrev pub walked_moves_of : ℕ → List WalkedTurn → List WalkedTurn
walked_moves_of number turns = filter (λ turn. moves_itself number turn.event turn.outcome) turns

-- none of the turns loses the flight
abbrev pub IsNotLostWalked : ℕ → List WalkedTurn → Type 0
IsNotLostWalked number turns =
    All (λ turn. (handed : Option Handed) → turn.outcome ≢ Happened (Lost number) handed) turns

-- with one of the turns the flight enters a node that holds e
pub record HasEnteredWalked (plan : Plan) (e number : ℕ) (turns : List WalkedTurn) : Type 0 where
  pub index : ℕ
  pub turn : WalkedTurn
  pub there : slice_get turns index ≡ Some turn
  pub node : ℕ
  pub key : KeyValue
  pub answer : Answer
  pub handed : Option Handed
  pub enters : turn.outcome ≡ Happened (Entered number node key answer) handed
  pub holds : Holds plan node e

-- the flight is still on its way, with a hop more for each of its moves
pub record IsOnItsWayWalked (number : ℕ) (f : Flight) (turns : List WalkedTurn) (w : NetworkState) : Type 0 where
  pub flight : Flight
  pub stands : w.flight number ≡ Some flight
  pub packet : flight.packet ≡ f.packet
  pub origin : flight.origin ≡ f.origin
  pub hops : flight.hops ≡ f.hops + length (walked_moves_of number turns)

-- What holds of a flight that can be delivered, in each run with walkers, be it put in by a walker or not.
pub record WalkedDelivers (tables : Tables) (cert : Certificate) : Type 0 where
  -- no move ends the flight, or a copy of it, by a fault of forwarding
  pub stops_none : (earlier : List WalkedTurn) (turn : WalkedTurn) (number : ℕ) (keep : Bool) (f : Flight) (k : ℕ)
      (why : ForwardFault) (handed : Option Handed)
      → WalkedRunOf tables cert (earlier ++ turn ∷ [])
      → (network_reached tables.plan cert earlier).flight number ≡ Some f
      → IsDeliverable tables f → turn.event ≡ Happening (Move number keep)
      → turn.outcome ≢ Happened (Stopped k why) handed
  -- where it isn't lost, it is on its way until it has entered
  pub stays : (earlier later : List WalkedTurn) (number : ℕ) (f : Flight) → WalkedRunOf tables cert (earlier ++ later)
      → (network_reached tables.plan cert earlier).flight number ≡ Some f → IsDeliverable tables f
      → IsNotLostWalked number later
      → IsOnItsWayWalked number f later (network_reached tables.plan cert (earlier ++ later))
      ⊎ HasEnteredWalked tables.plan (destination f) number later
  -- and with the move after as many as the certified hops of its origin, if not before, it has entered
  pub enters : (earlier later : List WalkedTurn) (number : ℕ) (f : Flight) → WalkedRunOf tables cert (earlier ++ later)
      → (network_reached tables.plan cert earlier).flight number ≡ Some f → IsDeliverable tables f
      → IsNotLostWalked number later
      → rank cert f.origin (destination f) + 1 ≤ f.hops + length (walked_moves_of number later)
      → HasEnteredWalked tables.plan (destination f) number later
  -- it never makes more moves
  pub most : (earlier later : List WalkedTurn) (number : ℕ) (f : Flight) → WalkedRunOf tables cert (earlier ++ later)
      → (network_reached tables.plan cert earlier).flight number ≡ Some f → IsDeliverable tables f
      → IsNotLostWalked number later
      → f.hops + length (walked_moves_of number later) ≤ rank cert f.origin (destination f) + 1

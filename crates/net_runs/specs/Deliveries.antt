-- Flights whose destination is held: that they enter, and after how many moves.
use Rattle.std.specs.Prelude.{◌≡◌, ◌≢◌, ◌⊎◌, ℕ, ◌+◌, ◌≤◌, Bool, true, false, not, ◌&&◌, ◌==◌, List, [], ◌∷◌, ◌++◌, length, filter, slice_get, Some, All}
use Rattle.mctp_transport.{specs.PacketValues.{KeyValue}, specs.Hearing.{Answer}}
use Rattle.plan_values.{specs.declared.plan.Plan.{Plan}, specs.declared.certificate.Certificate.{Certificate}}
use Rattle.net_tables.{specs.Routing.{Holds}, specs.Ranks.{rank}, specs.TwoPlans.{Tables, one_plan, HasRowAlways}}
use Rattle.mctp_routing.specs.declared.decision.ForwardFault.{ForwardFault}
use Rattle.net_runs.{specs.States.{NetworkState, Flight, destination}, specs.Events.{EventValue, Put, Move, Lose, Expire, AnswerAt, Switch, OutcomeValue, PutIn, Brings, Moved, Entered, Stopped, Lost, Expired, Answered, Silent, Switched, Refused}, specs.Runs.{Turn, RunOf, reached}}

-- a node holds the flight's destination, and its origin holds it or always has a row for it
abbrev pub IsDeliverable : Tables → Flight → Type 0
IsDeliverable tables f = ((n : ℕ) × Holds tables.plan n (destination f))
    × (Holds tables.plan f.origin (destination f) ⊎ HasRowAlways tables f.origin (destination f))

-- the event moves the flight itself, and not a copy of it
abbrev pub names_itself : ℕ → EventValue → Bool
names_itself number (Put node bytes) = false
names_itself number (Move k true) = false
names_itself number (Move k false) = number == k
names_itself number (Lose k) = false
names_itself number (Expire node key) = false
names_itself number (AnswerAt node) = false
names_itself number (Switch node) = false

abbrev pub is_refusal : OutcomeValue → Bool
is_refusal (PutIn number node) = false
is_refusal (Moved number node hops) = false
is_refusal (Entered number node key answer) = false
is_refusal (Stopped number why) = false
is_refusal (Lost number) = false
is_refusal (Expired node was_open) = false
is_refusal (Answered node first last) = false
is_refusal (Silent node) = false
is_refusal (Switched node) = false
is_refusal (Refused why) = true

-- the turns that moved the flight itself
abbrev pub moves_of : ℕ → List Turn → List Turn
moves_of number turns = filter (λ turn. names_itself number turn.event && not (is_refusal turn.outcome)) turns

-- none of the turns loses the flight
abbrev pub IsNotLost : ℕ → List Turn → Type 0
IsNotLost number turns = All (λ turn. turn.outcome ≢ Lost number) turns

-- with one of the turns the flight enters a node that holds e
pub record HasEntered (plan : Plan) (e number : ℕ) (turns : List Turn) : Type 0 where
  pub index : ℕ
  pub turn : Turn
  pub there : slice_get turns index ≡ Some turn
  pub node : ℕ
  pub key : KeyValue
  pub answer : Answer
  pub enters : Brings turn.outcome number node key answer
  pub holds : Holds plan node e

-- the flight is still on its way, with a hop more for each of its moves
pub record IsOnItsWay (number : ℕ) (f : Flight) (turns : List Turn) (w : NetworkState) : Type 0 where
  pub flight : Flight
  pub stands : w.flight number ≡ Some flight
  pub packet : flight.packet ≡ f.packet
  pub origin : flight.origin ≡ f.origin
  pub hops : flight.hops ≡ f.hops + length (moves_of number turns)

-- What holds of a flight that can be delivered, in each run. The hops that it has made count as moves; a
-- flight that has just been put in has none.
pub record DeliversBy (tables : Tables) (cert : Certificate) : Type 0 where
  -- no move ends the flight, or a copy of it, by B10, B11 or B12
  pub stops_none : (earlier : List Turn) (turn : Turn) (number : ℕ) (keep : Bool) (f : Flight) (k : ℕ)
      (why : ForwardFault)
      → RunOf tables cert (earlier ++ turn ∷ []) → (reached tables.plan cert earlier).flight number ≡ Some f
      → IsDeliverable tables f → turn.event ≡ Move number keep → turn.outcome ≢ Stopped k why
  -- where it isn't lost, it is on its way until it has entered
  pub stays : (earlier later : List Turn) (number : ℕ) (f : Flight) → RunOf tables cert (earlier ++ later)
      → (reached tables.plan cert earlier).flight number ≡ Some f → IsDeliverable tables f → IsNotLost number later
      → IsOnItsWay number f later (reached tables.plan cert (earlier ++ later))
      ⊎ HasEntered tables.plan (destination f) number later
  -- and with the move after as many as the certified hops of its origin, if not before, it has entered
  pub enters : (earlier later : List Turn) (number : ℕ) (f : Flight) → RunOf tables cert (earlier ++ later)
      → (reached tables.plan cert earlier).flight number ≡ Some f → IsDeliverable tables f → IsNotLost number later
      → rank cert f.origin (destination f) + 1 ≤ f.hops + length (moves_of number later)
      → HasEntered tables.plan (destination f) number later
  -- it never makes more moves
  pub most : (earlier later : List Turn) (number : ℕ) (f : Flight) → RunOf tables cert (earlier ++ later)
      → (reached tables.plan cert earlier).flight number ≡ Some f → IsDeliverable tables f → IsNotLost number later
      → f.hops + length (moves_of number later) ≤ rank cert f.origin (destination f) + 1

-- what holds of it by the tables of one plan
abbrev pub Delivers : Plan → Certificate → Type 0
Delivers plan cert = DeliversBy (one_plan plan) cert

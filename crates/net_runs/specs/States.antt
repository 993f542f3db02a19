-- The network of a plan at one moment.
use Rattle.std.specs.Prelude.{ℕ, ◌+◌, List, [], ◌∷◌, Bool, true, false, Option, Some, None, option_map, if◌then◌else◌, ◌==◌}
use Rattle.mctp_transport.{specs.PacketValues.{PacketValue, KeyValue}, specs.Histories.{Input, History, after}, specs.Hearing.{Answer, Whole, Held, Dropped}}
use Rattle.plan_values.{specs.declared.plan.Plan.{Plan}, specs.declared.certificate.Certificate.{Certificate}, specs.declared.nodes.Row.{Row}}
use Rattle.net_runs.specs.Termini.{TerminusState, terminus_at_start, with_waiting}
use Rattle.net_tables.specs.TwoPlans.{Tables, rows_by}

-- the most payload bytes of a packet in the network of a plan: its transmission unit
abbrev pub unit_of : Plan → ℕ
unit_of plan = plan.unit

-- each node's assembler has 16 slots of 4096 bytes
abbrev pub slots : ℕ
slots = 16

abbrev pub limit : ℕ
limit = 4096

-- a packet on its way: where it was put in, the node where it is, and how often it has moved
pub record Flight : Type 0 where
  pub packet : PacketValue
  pub origin : ℕ
  pub node : ℕ
  pub hops : ℕ

abbrev pub destination : Flight → ℕ
destination f = f.packet.destination

-- The flights by their numbers, how many were made, what each node's assembler was given, the terminus of each node
-- that has one, and which nodes have switched to new tables.
pub record NetworkState : Type 0 where
  pub flight : ℕ → Option Flight
  pub made : ℕ
  pub history : ℕ → History
  pub terminus : ℕ → Option TerminusState
  pub switched : ℕ → Bool

-- the rows that n goes by now
abbrev pub rows_now : Tables → NetworkState → ℕ → List Row
rows_now tables w n = rows_by tables.plan tables.after (w.switched n) n

-- nothing has happened yet
abbrev pub at_start : Plan → Certificate → NetworkState
at_start plan cert =
    record {
      flight = λ _. None;
      made = 0;
      history = λ _. [];
      terminus = terminus_at_start plan cert;
      switched = λ _. false;
    }

-- The flight is added or changed; ends; one more is made; the node's assembler is given an input; the node's terminus
-- is changed; the node has switched. All else stays.
abbrev pub with_flight : NetworkState → ℕ → Flight → NetworkState
with_flight w number f = record w { flight = λ k. if k == number then Some f else w.flight k }

abbrev pub without_flight : NetworkState → ℕ → NetworkState
without_flight w number = record w { flight = λ k. if k == number then None else w.flight k }

abbrev pub with_made : NetworkState → ℕ → NetworkState
with_made w number = record w { made = number }

abbrev pub with_input : NetworkState → ℕ → Input → NetworkState
with_input w node input = record w { history = λ n. if n == node then after (w.history n) input else w.history n }

abbrev pub with_terminus : NetworkState → ℕ → Option TerminusState → NetworkState
with_terminus w node t = record w { terminus = λ n. if n == node then t else w.terminus n }

abbrev pub with_switched : NetworkState → ℕ → NetworkState
with_switched w node = record w { switched = λ n. if n == node then true else w.switched n }

-- the packet is put in at the node, under the next number
abbrev pub with_packet : NetworkState → ℕ → PacketValue → NetworkState
with_packet w node p =
    with_made (with_flight w (w.made + 1) (record { packet = p; origin = node; node = node; hops = 0 })) (w.made + 1)

-- the packets are put in there one after another
abbrev pub with_packets : NetworkState → ℕ → List PacketValue → NetworkState
with_packets w node [] = w
with_packets w node (p ∷ ps) = with_packets (with_packet w node p) node ps

-- What an assembler's answer to a packet of the key means to the node's terminus: a whole message with the owner bit
-- waits there.
abbrev pub with_received : NetworkState → ℕ → KeyValue → Answer → NetworkState
with_received w node key (Whole message) =
    if key.owner
    then with_terminus w node
    (option_map (λ t. with_waiting t (record { key = key; bytes = message })) (w.terminus node))
    else w
with_received w node key Held = w
with_received w node key (Dropped why) = w

-- What an event does to the packets of a network, as plain values.
use Rattle.std.specs.Prelude.{ℕ, List, codes}
use Rattle.mctp_transport.specs.Packets.{key_value}
use Rattle.net_runs.specs.Events.{OutcomeValue, N01, N02, N03, N04, N05, N06, N07}
use Rattle.net_sim.{specs.declared.refusal.Refusal.{Refusal}, specs.declared.refusal.Refusal.TheVariants.{NoNode, NoPacket, NoFlight, NoTerminus, NothingWaits, NoNumbers, NoSwitch}, specs.declared.effect.Effect.{Effect}}
use Rattle.mctp_transport.specs.Hearing as heard
use Rattle.net_runs.specs.Events as value
use Rattle.net_sim.specs.declared.effect.Effect.TheVariants as effect

abbrev pub refusal_value : Refusal → value.Refusal
refusal_value NoNode = N01
refusal_value NoPacket = N02
refusal_value NoFlight = N03
refusal_value NoTerminus = N04
refusal_value NothingWaits = N05
refusal_value NoNumbers = N06
refusal_value NoSwitch = N07

abbrev pub effect_value : Effect → OutcomeValue
effect_value (effect.PutIn number node) = value.PutIn number node
effect_value (effect.Moved number node hops) = value.Moved number node hops
effect_value (effect.Held number node key) = value.Entered number node (key_value key) heard.Held
effect_value (effect.Whole number node key bytes) = value.Entered number node (key_value key) (heard.Whole bytes.items)
effect_value (effect.Dropped number node key why) = value.Entered number node (key_value key) (heard.Dropped why)
effect_value (effect.Stopped number why) = value.Stopped number why
effect_value (effect.Lost number) = value.Lost number
effect_value (effect.Expired node was_open) = value.Expired node was_open
effect_value (effect.Answered node first last) = value.Answered node first last
effect_value (effect.Silent node) = value.Silent node
effect_value (effect.Switched node) = value.Switched node
effect_value (effect.Refused why) = value.Refused (refusal_value why)

-- the code that users see
abbrev pub refusal_code : Refusal → List ℕ
refusal_code NoNode = codes "N01"
refusal_code NoPacket = codes "N02"
refusal_code NoFlight = codes "N03"
refusal_code NoTerminus = codes "N04"
refusal_code NothingWaits = codes "N05"
refusal_code NoNumbers = codes "N06"
refusal_code NoSwitch = codes "N07"

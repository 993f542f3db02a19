use Rattle.std.proofs.Common.{◌≡◌, ◌++◌, map}
use Rattle.emulated_node.{specs.Networks.{sent_on, sent_value}, specs.Standing.{setting_of}}
use Rattle.emulated_node.proofs.network.sent_on.Given as goal

abbrev pub invariant-loop-bytes : goal.invariant-loop-bytes
invariant-loop-bytes g l =
    map sent_value l.sent.items ++ map (sent_on (setting_of l.node) (sent_value l.packet) l.asked.value) (map (λ p. p.items) l.bytes-iterator.rest.items)
    ≡ map (sent_on (setting_of l.node) (sent_value l.packet) l.asked.value) (map (λ p. p.items) l.initial.bytes-iterator.rest.items)

use Rattle.std.proofs.Common.{◌≡◌, arith}
use Rattle.net_questions.proofs.Exists.{found_item, item_not_found, item_more}
use Rattle.net_questions.proofs.lints.buses.has_port_on.Goals as goal

pub returns-then-is_on : goal.returns-then-is_on
returns-then-is_on c =
    found_item c.ports_at-ports.result.now _ c.ports_at-ports.ensures (λ k b. b.bus ≡ c.args.bus) c.loop-port.port-index c.port-item.result (omega arith) c.port-item.is
    (c.is_on.ensures.0 c.if-is_on.true)

pub loop-port-preserved : goal.loop-port-preserved
loop-port-preserved c =
    item_more c.ports_at-ports.result.now _ c.ports_at-ports.ensures (λ k b. b.bus ≡ c.args.bus) c.loop-port.port-index c.port-item.result (omega arith) c.port-item.is
    (λ there. cc (c.is_on.ensures.1 there, c.if-is_on.false)) c.loop-port.invariant

pub returns : goal.returns
returns c = item_not_found c.ports_at-ports.result.now _ c.ports_at-ports.ensures (λ k b. b.bus ≡ c.args.bus) c.loop-port.port-index (omega arith) c.loop-port.invariant

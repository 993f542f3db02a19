use Rattle.std.proofs.Common.{arith}
use Rattle.net_questions.{specs.Lint.{IsAddressedOn}, proofs.Exists.{found_item, item_not_found, item_more}}
use Rattle.net_questions.proofs.lints.ports.has_address_on.Goals as goal

pub returns-then-is_addressed_on : goal.returns-then-is_addressed_on
returns-then-is_addressed_on c =
    found_item c.ports_at-ports.result.now _ c.ports_at-ports.ensures (λ k b. IsAddressedOn c.args.bus b) c.loop-port.port-index c.port-item.result (omega arith) c.port-item.is
    (c.is_addressed_on.ensures.0 c.if-is_addressed_on.true)

pub loop-port-preserved : goal.loop-port-preserved
loop-port-preserved c =
    item_more c.ports_at-ports.result.now _ c.ports_at-ports.ensures (λ k b. IsAddressedOn c.args.bus b) c.loop-port.port-index c.port-item.result (omega arith) c.port-item.is
    (λ there. cc (c.is_addressed_on.ensures.1 there, c.if-is_addressed_on.false)) c.loop-port.invariant

pub returns : goal.returns
returns c = item_not_found c.ports_at-ports.result.now _ c.ports_at-ports.ensures (λ k b. IsAddressedOn c.args.bus b) c.loop-port.port-index (omega arith) c.loop-port.invariant

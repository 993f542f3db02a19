use Rattle.std.proofs.Common.{subst, sym}
use Rattle.emulated_node.specs.Ways.{IsAt}
use Rattle.bus_commands.{specs.PacketLines.{NamesAddress}, proofs.BusNames.{read_at_all}}
use Rattle.bus_commands.proofs.line.read_addressed.Goals as goal

pub returns-in_default : goal.returns-in_default
returns-in_default c = λ address names.
    let none = rw c.in_default.is at c.in_ok-address.ensures in
    none address (subst (λ w. NamesAddress w address) (sym c.split_word.ensures.word) names)

pub returns-then-not-is_at : goal.returns-then-not-is_at
returns-then-not-is_at c =
    let names = rw c.in-Some.is at c.in_ok-address.ensures in
    let items = c.in-Some.address.items in (
      items,
      subst (λ w. NamesAddress w items) c.split_word.ensures.word names,
      λ is. cc (c.is_at.ensures.1 (subst (IsAt c.args.plan.now c.args.node c.args.bus) (sym c.deref.ensures.value) is), c.if-not-is_at.true),
    )

pub returns : goal.returns
returns c =
    let names = rw c.in-Some.is at c.in_ok-address.ensures in
    let items = c.in-Some.address.items in
    read_at_all c.args.plan.now c.args.node c.args.bus c.args.text.now c.split_word.result.1.now c.read_packet.result c.split_word.ensures.behind
    (items, subst (λ w. NamesAddress w items) c.split_word.ensures.word names, subst (IsAt c.args.plan.now c.args.node c.args.bus) c.deref.ensures.value (c.is_at.ensures.0 c.if-not-is_at.false))
    c.read_packet.ensures

use Rattle.std.{proofs.Common.{◌≡◌, sym, ◌∙◌, subst, true≢false}, specs.Prelude.{Some}}
use Rattle.bus_captures.{specs.Blocks.{IsNext, Block}, specs.BlockValues.{block_value}, proofs.BlockLaws.{one_block}}
use Rattle.bus_captures.proofs.block.next_block.Goals as goal

pub returns-else-is_next : goal.returns-else-is_next
returns-else-is_next c = λ b begins.
    let found = block_value c.in_ok-block.block in
    let tells : Some b.order ≡ Some c.in_ok-order.order = sym (c.order_at.ensures b begins) ∙ c.in_ok-order.was in
    let same : b.order ≡ c.in_ok-order.order = cc in
    let is = c.in_ok-block.ensures in
    let one = one_block b found begins.2.0 c.in_ok-block.rest.now begins.0 is.0 (same ∙ sym is.1) (sym begins.2.1 ∙ is.2) in
    let next : IsNext c.args.section found = subst (λ (x : Block). IsNext c.args.section x) one.0 begins.1 in
    absurd (true≢false (sym (c.is_next.ensures.1 next) ∙ c.if-is_next.false))

use Rattle.std.{proofs.Common.{◌≡◌, ◌<◌, ◌+◌, ◌++◌, ◌∷◌, [], ap, arith, get_or, inl, inr, length, map, refl, subst, sym, ◌∙◌}, proofs.lemmas.List.{length-append, length-map, length_push, map-append}, proofs.Math.ListN.{get_or-map}}
use Rattle.emulated_node.{specs.Emulating.{HaveStates}, specs.Emulations.{world_of}, specs.Networks.{Becomes, World, sent_value}, proofs.Spreading.{spread_more, spread_none, spread_ends}}
use Rattle.emulated_node.proofs.network.EmulatedNetwork.spread.Goals as goal

pub loop-index-init : goal.loop-index-init
loop-index-init g c =
    let first : c.push.new.self.items ≡ c.args.put ∷ [] = c.in_ok-push.ensures.items ∙ ap (λ xs. xs ++ c.args.put ∷ []) c.new-packets.ensures.items in (
      refl,
      ap length c.new-handled.ensures.items,
      omega arith,
      λ s stands. rw first (rw c.new-handled.ensures.items (spread_none (HaveStates g.T.Terminus.tid g.T.Terminus.records c.args.self.now.nodes.items) (world_of c.args.self.now) s (sent_value c.args.put) stands)),
    )

pub loop-index-preserved : goal.loop-index-preserved
loop-index-preserved g c =
    let l = c.loop-index in
    let step = c.in_ok-step.step in
    let (world, count, few, spreads) = l.invariant in
    let within : l.index < length l.packets.items = omega (arith, few, c.if-index-len.false, c.len.ensures) in
    let Stands = HaveStates g.T.Terminus.tid g.T.Terminus.records in
    let there : sent_value c.index.result.now ≡ get_or (map sent_value l.packets.items) (length l.handled.items) (sent_value c.index.result.now) =
    ap sent_value c.index.ensures ∙ (sym (get_or-map sent_value l.packets.items l.index c.index.result.now)
    ∙ ap (λ k. get_or (map sent_value l.packets.items) k (sent_value c.index.result.now)) (sym count)) in (
      c.in_ok-step.ensures.world ∙ world,
      ap length c.in_ok-push-2.ensures.items ∙ (length_push l.handled.items step.handled ∙ ap (λ n. n + 1) count),
      omega (arith, within, ap length c.in_ok-append.ensures.items, length-append l.packets.items step.sent.items),
      λ s stands.
          let before = spreads s stands in
          let went = c.in_ok-step.ensures.becomes before.last before.stands in
          rw c.in_ok-append.ensures.items (rw (map-append sent_value l.packets.items step.sent.items) (rw c.in_ok-push-2.ensures.items
          (spread_more (Stands l.self.nodes.items) (Stands c.step.new.self.nodes.items) (world_of c.args.self.now) s (sent_value c.args.put) (map sent_value l.packets.items) l.handled.items before
          (sent_value c.index.result.now) step.handled (map sent_value step.sent.items) went.0 (omega (arith, within, count, length-map l.packets.items sent_value)) there
          (subst (λ (w : World). Becomes w before.last (sent_value c.index.result.now) step.handled (map sent_value step.sent.items) went.0) world went.1) went.2))),
    )

pub returns-then-index-len-clause-spreads : goal.returns-then-index-len-clause-spreads
returns-then-index-len-clause-spreads g c = λ s stands.
    let l = c.loop-index in
    let (world, count, few, spreads) = l.invariant in
    spread_ends (HaveStates g.T.Terminus.tid g.T.Terminus.records l.self.nodes.items) (world_of c.args.self.now) s (sent_value c.args.put) (map sent_value l.packets.items) l.handled.items
    (spreads s stands) (inl (omega (arith, count, c.if-index-len.true, c.len.ensures, length-map l.packets.items sent_value)))

pub returns-clause-spreads : goal.returns-clause-spreads
returns-clause-spreads g c = λ s stands.
    let l = c.loop-index in
    let (world, count, few, spreads) = l.invariant in
    spread_ends (HaveStates g.T.Terminus.tid g.T.Terminus.records l.self.nodes.items) (world_of c.args.self.now) s (sent_value c.args.put) (map sent_value l.packets.items) l.handled.items
    (spreads s stands) (inr (omega (arith, count, c.loop-index-test.false, l.auto.index-end)))

use Rattle.std.{proofs.Common.{◌≡◌, List, length, Some, refl, sym, ◌∙◌, subst}, specs.Prelude.{slice_get}, proofs.lemmas.Option.{slice_get_read, same_Some}}
use Rattle.net_sim.{specs.declared.network_walker.NetworkWalker.{NetworkWalker}, specs.NetworkWalkers.{walker_value, IsAt}, proofs.Noting.{none_but}}
use Rattle.net_sim.proofs.network.Network.walker_at.Goals as goal

pub returns-then-is_at : goal.returns-then-is_at
returns-then-is_at g c =
    let look = c.in_ok-get.ensures.lookup in (
      c.in_ok-get.field-0.now,
      subst (λ (xs : List NetworkWalker). slice_get xs c.in_ok-index.index ≡ Some c.in_ok-get.field-0.now) c.deref.ensures.value
          (slice_get_read c.deref.result.now (length c.deref.result.now) c.in_ok-index.index c.in_ok-get.field-0.now refl look.3.0 look.1),
      c.is_at.ensures.0 c.if-is_at.true,
    )

pub returns-else-is_at : goal.returns-else-is_at
returns-else-is_at g c =
    let now = c.args.self.now in
    let items = now.walkers.items in
    let i = c.in_ok-index.index in
    let x = c.in_ok-get.field-0.now in
    let look = c.in_ok-get.ensures.lookup in
    let there : slice_get items i ≡ Some x =
    subst (λ (xs : List NetworkWalker). slice_get xs i ≡ Some x) c.deref.ensures.value (slice_get_read c.deref.result.now (length c.deref.result.now) i x refl look.3.0 look.1) in
    none_but now.index items now.noted c.args.node c.args.eid.value c.args.tag.value i (sym c.in_ok-index.ensures)
    (λ y here at. (
    let P : NetworkWalker → Type 0 = λ z. IsAt c.args.node c.args.eid.value c.args.tag.value (walker_value z) in
    absurd (cc (c.is_at.ensures.1 (subst P (same_Some y x (sym here ∙ there)) at), c.if-is_at.false))))

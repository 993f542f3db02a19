use Rattle.std.{proofs.Common.{◌≡◌, length, map, Some, refl, sym, ◌∙◌, ap, inl, inr, arith}, specs.Prelude.{slice_get, option_map}, proofs.lemmas.List.{length-map}, proofs.lemmas.Option.{slice_get_read, slice_get-map}}
use Rattle.net_sim.{specs.NetworkWalkers.{walker_value}, proofs.Finding.{no_walker}}
use Rattle.net_sim.proofs.network.Network.collected.Goals as goal

pub returns-in_err-index : goal.returns-in_err-index
returns-in_err-index g c =
    let items = c.args.self.now.walkers.items in
    rw c.from_residual.ensures (λ w s. no_walker _ w s c.args.walker
    (elim c.in_err-index.ensures [ inl zero ↦ inl zero | inr past ↦ inr (omega (arith, past, length-map items walker_value)) ]))

pub returns : goal.returns
returns g c = λ w s.
    let items = c.args.self.now.walkers.items in
    let place = c.in_ok-index.ensures in
    let i = c.in_ok-index.index in
    let x = c.index.result.now in
    let there : slice_get items i ≡ Some x = slice_get_read items _ _ x refl place.1 c.index.ensures in
    let here : slice_get (map walker_value items) i ≡ Some (walker_value x) = slice_get-map walker_value items i ∙ ap (option_map walker_value) there in
    (walker_value x, ap w.walker (sym place.0) ∙ (s.walkers i ∙ here), c.records.ensures)

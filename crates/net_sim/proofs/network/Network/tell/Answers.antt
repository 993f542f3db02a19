use Rattle.std.{proofs.Common.{◌≡◌, ◌+◌, length, map, Some, refl, sym, ◌∙◌, ap, inl, inr, arith}, specs.Prelude.{slice_get, option_map}, proofs.lemmas.List.{length-map}, proofs.lemmas.Option.{slice_get_read, slice_get-map}}
use Rattle.net_sim.{specs.NetworkWalkers.{walker_value}, proofs.Finding.{no_walker}, proofs.Telling.{tells_none, tells}}
use Rattle.net_sim.proofs.network.Network.tell.Goals as goal

pub returns-in_default : goal.returns-in_default
returns-in_default g c =
    let now = c.args.self.now in
    tells_none now.traffic.router.tables _ c.args.number (λ w s. no_walker _ w s c.args.number
    (elim c.in_default.ensures [ inl zero ↦ inl zero | inr past ↦ inr (omega (arith, past, length-map now.walkers.items walker_value)) ]))

pub returns : goal.returns
returns g c =
    let now = c.args.self.now in
    let x = c.index-walker.result.now in
    let items = now.walkers.items in
    let place = c.in-Some.ensures in
    let there : slice_get items c.in-Some.index ≡ Some x = slice_get_read items _ _ x refl place.1 c.index-walker.ensures in
    let here : slice_get (map walker_value items) c.in-Some.index ≡ Some (walker_value x) = slice_get-map walker_value items c.in-Some.index ∙ ap (option_map walker_value) there in
    tells now.traffic.router.tables _ c.args.number (c.in-Some.index + 1) (walker_value x) _ _ place.0 (λ w s. ap w.walker (sym place.0) ∙ (s.walkers c.in-Some.index ∙ here))
    (sym (length-map c.records.result.now (λ v. v.items)) ∙ ap length c.records.ensures) c.standing.ensures

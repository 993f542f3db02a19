use Rattle.std.{proofs.Common.{◌≡◌, ℕ, ◌<◌, ◌↔◌, true, length, Some, refl, subst, arith}, specs.Prelude.{slice_get}, proofs.lemmas.Option.{slice_get_read}}
use Rattle.mctp_transport.{specs.Packets.{key_value}, specs.Histories.{IsOpen}, specs.Assembly.{assembler_slots}}
use Rattle.net_sim.proofs.Expiring.{expires}
use Rattle.net_sim.proofs.traffic.Traffic.expire.Goals as goal

pub returns-clause-plays : goal.returns-clause-plays
returns-clause-plays g c =
    let now = c.args.self.now in
    let assemblers = now.assemblers.items in
    let a = c.index_mut.result.now in
    let within = c.has_node.ensures.0 c.if-not-has_node.false in
    let short : c.args.node < length assemblers = omega (arith, within, now.assembled) in
    let here : slice_get assemblers c.args.node ≡ Some a = slice_get_read assemblers _ _ a refl short c.index_mut.ensures.value in
    let sizes = now.sized c.args.node a here in
    expires now.router.tables _ c.args.node _ _ a c.expire-was_open.new.self c.expire-was_open.result within short here
    (λ h is.
    let Tells : ℕ → ℕ → Type 0 = λ s l. (c.expire-was_open.result ≡ true) ↔ IsOpen s l h (key_value c.args.key) in
    subst (λ s. Tells s 4096) sizes.0 (subst (λ l. Tells (assembler_slots a) l) sizes.1 (c.expire-was_open.ensures.was_open h is))) (c.expire-was_open.ensures.stands) refl refl refl refl

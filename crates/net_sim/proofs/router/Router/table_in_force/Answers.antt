use Rattle.std.{proofs.Common.{◌<◌, length, refl, sym, ◌∙◌, subst, arith}, proofs.lemmas.Option.{slice_get_read}}
use Rattle.net_sim.{specs.Routers.{RouterValue, RoutesAs, has_switched}, proofs.Tabled.{routes_before, routes_after, marked_within}}
use Rattle.net_sim.proofs.router.Router.table_in_force.Goals as goal

pub returns-then-has_switched : goal.returns-then-has_switched
returns-then-has_switched c =
    let now = c.args.self.now in
    let node = c.args.node in
    let old = c.self.inside.tables.items in
    let new = c.self.inside.new_tables.items in
    let sound = subst (λ (k : RouterValue). RoutesAs k.tables k.certificate old new k.switched) c.self.view_is c.self.invariant in
    let switched = sym c.has_switched.ensures ∙ c.if-has_switched.true in
    let within : node < length new = omega (arith, sound.marked, marked_within now.switched node switched) in
    routes_after now.tables.plan now.tables.after (has_switched now.switched node) switched new node _ sound.after
    (slice_get_read new _ _ c.index.result.now refl within c.index.ensures)

pub returns-else-has_switched : goal.returns-else-has_switched
returns-else-has_switched c =
    let now = c.args.self.now in
    let node = c.args.node in
    let old = c.self.inside.tables.items in
    let new = c.self.inside.new_tables.items in
    let sound = subst (λ (k : RouterValue). RoutesAs k.tables k.certificate old new k.switched) c.self.view_is c.self.invariant in
    let unswitched = sym c.has_switched.ensures ∙ c.if-has_switched.false in
    let within : node < length old = omega (arith, sound.before.as_many, c.requires) in
    routes_before now.tables.plan now.tables.after (has_switched now.switched node) unswitched old _ node _ sound.before
    (slice_get_read old _ _ c.index-else-has_switched.result.now refl within c.index-else-has_switched.ensures)

use Rattle.std.{proofs.Common.{◌≡◌, ℕ, suc, ◌+◌, ◌-◌, ◌<◌, List, Bool, Some, length, arith, subst, sym, ◌∙◌, ap}, specs.Prelude.{slice_get}, proofs.lemmas.Option.{slice_get-get_or}}
use Rattle.net_rules.{specs.Moves.{Leads}, specs.Circles.{MovesBy}, specs.LongestWays.{MovesByEither}, specs.MixedLoops.{AreMarked}, proofs.LoopLaws.{IsOnTheWay, left_over, one_hop_more, closes}, proofs.certifying.mixed_loops.loop_along.Goals.{After-deref}}
use Rattle.net_rules.proofs.certifying.mixed_loops.loop_along.Goals as goal

-- the marks of the moves that are left after the next one
left_marks : (c : After-deref) → AreMarked (λ n. Leads (MovesByEither c.args.old.now c.args.new.now) n (c.loop-left.left - 1) c.args.start) c.deref.result.now
left_marks c =
    let layers = c.args.layers.now in
    let left = c.loop-left.left - 1 in
    let marks = c.index-layers-left.result in
    let within : left < length layers = omega (arith, c.loop-left.invariant.all, c.requires.returns.some, c.loop-left-test.true) in
    let at : slice_get layers left ≡ Some marks = slice_get-get_or layers left marks within ∙ ap Some (sym c.index-layers-left.is) in
    let P : List Bool → Type 0 = AreMarked (λ n. Leads (MovesByEither c.args.old.now c.args.new.now) n left c.args.start) in
    subst P (sym c.deref.ensures.value) (c.requires.returns.ways left marks at)

pub hop-next-requires-clause-some : goal.hop-next-requires-clause-some
hop-next-requires-clause-some c =
    let Move = MovesByEither c.args.old.now c.args.new.now in
    let left = c.loop-left.left - 1 in
    let way = left_over (MovesBy c.args.old.now) (MovesBy c.args.new.now) c.args.start (length c.args.layers.now - 1) c.loop-left.at c.loop-left.left c.loop-left.nodes.items c.loop-left.sides.items c.loop-left.invariant in
    let same : c.loop-left.left ≡ suc left = omega (arith, c.loop-left-test.true) in
    let on : Leads Move c.loop-left.at (suc left) c.args.start = subst (λ l. Leads Move c.loop-left.at l c.args.start) same way in
    (on.0, on.1, (left_marks ((goal.at.hop-next-requires-clause-some c).After-deref) on.0).1 on.2)

pub loop-left-preserved : goal.loop-left-preserved
loop-left-preserved c =
    let ByOld = MovesBy c.args.old.now in
    let ByNew = MovesBy c.args.new.now in
    let total = length c.args.layers.now - 1 in
    let left = c.loop-left.left - 1 in
    let nodes = c.loop-left.nodes.items in
    let sides = c.loop-left.sides.items in
    let next = c.hop-next.result.0 in
    let marks = left_marks ((goal.at.loop-left-preserved c).After-deref) in
    let same : c.loop-left.left ≡ left + 1 = omega (arith, c.loop-left-test.true) in
    let P : ℕ → Type 0 = λ l. IsOnTheWay ByOld ByNew c.args.start total c.loop-left.at l nodes sides in
    rw c.in_ok-push-2.ensures.items (rw c.in_ok-push-3.ensures.items (
    one_hop_more ByOld ByNew c.args.start total c.loop-left.at left next c.hop-next.result.1 nodes sides (subst P same c.loop-left.invariant)
    c.hop-next.ensures.by ((marks next).0 c.hop-next.ensures.marked) (λ new m move way. c.hop-next.ensures.old_first new m move ((marks m).1 way))))

pub returns : goal.returns
returns c =
    let none : c.loop-left.left ≡ 0 = omega (arith, c.loop-left-test.false) in
    let ByOld = MovesBy c.args.old.now in
    let ByNew = MovesBy c.args.new.now in
    let total = length c.args.layers.now - 1 in
    let P : ℕ → Type 0 = λ left. IsOnTheWay ByOld ByNew c.args.start total c.loop-left.at left c.loop-left.nodes.items c.loop-left.sides.items in
    closes ByOld ByNew c.args.start total c.loop-left.at c.loop-left.nodes.items c.loop-left.sides.items (subst P none c.loop-left.invariant)
    (omega (arith, c.requires.returns.some)) (λ k some less. c.requires.returns.none k some (omega (arith, less))) c.requires.least

use Rattle.std.{proofs.Common.{arith, inl, inr}, proofs.lemmas.Bool.{cases_lt}}
use borrow.Author.Count.{below_more}
use Rattle.net_rules.{specs.Circles.{IsOnCircle}, specs.LongestWays.{MovesByEither}, specs.MixedLoops.{IsFirstReturn}, proofs.WayLaws.{either_within}, proofs.LoopLaws.{on_circle}}
use Rattle.net_rules.proofs.certifying.mixed_loops.first_loop.Goals as goal

pub loop_along-requires-clause-least : goal.loop_along-requires-clause-least
loop_along-requires-clause-least c =
    let Move = MovesByEither c.args.old.now c.args.new.now in
    let returns : IsFirstReturn Move c.loop-start.start c.in-Some.layers.items = rw c.in-Some.is at c.in_ok-layers.ensures in (
      on_circle Move c.loop-start.start c.in-Some.layers.items returns,
      λ n circle. elim (cases_lt n c.loop-start.start) [ inl before ↦ absurd (c.loop-start.invariant n before circle) | inr le ↦ le ],
    )

pub loop_along-requires-clause-returns : goal.loop_along-requires-clause-returns
loop_along-requires-clause-returns c =
    let Move = MovesByEither c.args.old.now c.args.new.now in
    let returns : IsFirstReturn Move c.loop-start.start c.in-Some.layers.items = rw c.in-Some.is at c.in_ok-layers.ensures in
    rw c.deref.ensures.value returns

pub loop-start-preserved : goal.loop-start-preserved
loop-start-preserved c =
    let none : ¬ IsOnCircle (MovesByEither c.args.old.now c.args.new.now) c.loop-start.start = rw c.in_default.is at c.in_ok-layers.ensures in
    below_more (λ n. ¬ IsOnCircle (MovesByEither c.args.old.now c.args.new.now) n) c.loop-start.start c.loop-start.invariant none

pub returns : goal.returns
returns c = λ n circle. c.loop-start.invariant n (omega (arith, c.loop-start-test.false, either_within c.args.old.now c.args.new.now c.requires n circle.1.0 circle.1.1)) circle

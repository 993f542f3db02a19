use Rattle.std.proofs.Common.{ℕ, refl, subst, arith, add-one, length}
use Rattle.net_rules.{specs.Moves.{Leads}, proofs.Circling.{one_more}}
use Rattle.net_questions.{specs.Lint.{IsForwardedTo}, proofs.FirstRows.{goes_only, goes_within}, proofs.Walks.{short_walk, not_within_more, ends_elsewhere}}
use Rattle.net_questions.proofs.lints.ways.comes_to.Goals as goal

pub returns-then-at-to : goal.returns-then-at-to
returns-then-at-to c =
    let On = IsForwardedTo c.args.plan.now c.args.eid.value in
    (λ _. (c.loop-moves._moves, subst (λ (m : ℕ). Leads On c.args.from c.loop-moves._moves m) c.if-at-to.true c.loop-moves.invariant.way), λ _. refl)

pub returns-in-None : goal.returns-in-None
returns-in-None c =
    let plan = c.args.plan.now in
    let e = c.args.eid.value in (
      λ h. absurd (cc h),
      λ (k, way). absurd (ends_elsewhere (IsForwardedTo plan e) (goes_only plan e) c.args.from c.loop-moves._moves c.loop-moves.at c.args.to c.loop-moves.invariant.way c.in-None.ensures.first
          c.if-at-to.false c.loop-moves.invariant.none k way),
    )

pub loop-moves-preserved : goal.loop-moves-preserved
loop-moves-preserved c =
    let plan = c.args.plan.now in
    let On = IsForwardedTo plan c.args.eid.value in
    record {
      way = rw add-one (one_more On c.args.from c.loop-moves._moves c.loop-moves.at c.in-Some.next c.loop-moves.invariant.way c.in-Some.ensures.first);
      none = not_within_more On (goes_only plan c.args.eid.value) c.args.from c.loop-moves._moves c.loop-moves.at c.args.to c.loop-moves.invariant.way c.if-at-to.false
          c.loop-moves.invariant.none;
    }

pub returns : goal.returns
returns c =
    let plan = c.args.plan.now in
    let e = c.args.eid.value in (
      λ h. absurd (cc h),
      λ (k, way). (
          let short = short_walk (IsForwardedTo plan e) (length plan.nodes.items) (goes_within plan e) c.args.from k c.args.to way c.requires in
          absurd (c.loop-moves.invariant.none short.0 (omega (arith, short.1)) short.2)),
    )

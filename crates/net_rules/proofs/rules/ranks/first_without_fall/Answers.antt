use Rattle.std.{proofs.Common.{◌≡◌, ℕ, refl, subst, arith}, proofs.lemmas.Grind.{common_steps}}
use Rattle.net_tables.{specs.Routing.{Covers, Holds}, specs.Ranks.{rank}}
use Rattle.net_rules.{specs.Stretches.{IsAlong}, proofs.FallLaws.{falls_on, falls_held, no_fall}}
use Rattle.net_rules.proofs.rules.ranks.first_without_fall.Goals as goal

pub loop-start-preserved-then-next-own : goal.loop-start-preserved-then-next-own
loop-start-preserved-then-next-own c =
    let cert = c.args.ranks.now in
    let row = c.args.row.now in
    let own = c.stretch-own.result in
    let next = c.stretch-next.result in
    let at = c.loop-start.start in
    let same : c.new-eid.result.value ≡ at = omega (arith, c.new-eid.ensures) in
    let A : ℕ → Type 0 = λ k. IsAlong (rank cert c.args.node) k own.end own.rank in
    let B : ℕ → Type 0 = λ k. IsAlong (rank cert row.next) k next.end next.rank in
    let along = subst A same c.stretch-own.ensures in
    let along' = subst B same c.stretch-next.ensures in
    let one = along.0 in
    let other = along'.0 in
    let reached = c.loop-start.invariant.reached in
    record {
      reached = grind (arith, common_steps, one, other, reached);
      falls = falls_on c.args.plan.now cert c.args.node row at c.loop-start.invariant.falls own.end next.end own.rank next.rank c.min-start.result along along' c.if-next-own.true
          (grind (arith, common_steps)) (grind (arith, common_steps));
    }

pub loop-start-preserved : goal.loop-start-preserved
loop-start-preserved c =
    let at = c.loop-start.start in
    let same : c.new-eid.result.value ≡ at = omega (arith, c.new-eid.ensures) in
    let reached = c.loop-start.invariant.reached in
    let H : ℕ → Type 0 = λ k. Holds c.args.plan.now c.args.node k in
    record {
      reached = omega arith;
      falls = falls_held c.args.plan.now c.args.ranks.now c.args.node c.args.row.now at c.loop-start.invariant.falls _ refl (subst H same (c.holds.ensures.0 c.if-holds.true));
    }

pub returns-else-holds : goal.returns-else-holds
returns-else-holds c =
    let e = c.new-eid.result.value in
    let row = c.args.row.now in
    let own = c.stretch-own.result in
    let next = c.stretch-next.result in
    let same : e ≡ c.loop-start.start = omega (arith, c.new-eid.ensures) in
    let reached = c.loop-start.invariant.reached in
    let high = c.loop-start-test.true in
    let covers : Covers row e = (omega arith, grind (arith, common_steps, high), omega arith) in (
      λ met. no_fall c.args.plan.now c.args.ranks.now c.args.node row e own.end next.end own.rank next.rank c.stretch-own.ensures c.stretch-next.ensures c.if-next-own.false
          (λ holds. (let t = c.holds.ensures.1 holds in cc)) (met covers),
      λ d less. c.loop-start.invariant.falls d (omega (arith, less)),
    )

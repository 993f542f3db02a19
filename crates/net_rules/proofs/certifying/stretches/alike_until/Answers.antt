use Rattle.std.{proofs.Common.{◌≡◌, ◌⊎◌, ℕ, arith}, proofs.Math.Nat.{min-le_left, min-le_right, le-min}}
use Rattle.net_rules.{specs.MovingAlike.{IsCutAt}, proofs.AlikeLaws.{alike, of_lesser, cut_by_held, cut_by_row}}
use Rattle.net_rules.proofs.certifying.stretches.alike_until.Goals as goal

pub returns-clause-alike : goal.returns-clause-alike
returns-clause-alike c =
    let held = c.held_until.result.value in
    let routed = c.routed_until.result.value in
    let below_held = min-le_left held routed in
    let below_routed = min-le_right held routed in
    let least = c.lesser.ensures in
    alike c.args.plan.now c.args.node c.args.first.value c.lesser.result.value c.args.table.now c.requires.apart (rw least (le-min c.held_until.ensures.ordered c.routed_until.ensures.ordered)) c.requires.table
    (λ e low high. c.held_until.ensures.held e low (omega (arith, high, least, below_held)))
    (c.routed_until.ensures.routed.0, λ e low high. c.routed_until.ensures.routed.1 e low (omega (arith, high, least, below_routed)))

pub returns-clause-ends : goal.returns-clause-ends
returns-clause-ends c =
    let plan = c.args.plan.now in
    let n = c.args.node in
    let rows = c.args.table.now in
    let held = c.held_until.result.value in
    let routed = c.routed_until.result.value in
    let P : ℕ → Type 0 = λ e. (e ≡ 254) ⊎ IsCutAt plan n rows e in
    of_lesser P held routed c.lesser.result.value c.lesser.ensures (cut_by_held plan n held rows c.held_until.ensures.ends) (cut_by_row plan n routed rows c.routed_until.ensures.ends)

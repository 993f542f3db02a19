use Rattle.std.{proofs.Common.{◌≡◌, ◌⊎◌, ℕ, ◌<◌, length, Some, sym, ◌∙◌, ap, subst, arith, inl, inr}, proofs.Math.Nat.{min-le_left, min-le_right, le-min}, proofs.lemmas.Bool.{cases_lt}, proofs.lemmas.Option.{slice_get-get_or}}
use Rattle.net_rules.{specs.MovingAlike.{MovesAlike, IsCut}, proofs.AlikeLaws.{all_alike, of_lesser, cut_by_node}}
use Rattle.net_rules.proofs.certifying.stretches.stretch_from.Goals as goal

pub loop-node-preserved : goal.loop-node-preserved
loop-node-preserved c =
    let until = c.alike_until.result.value in
    let before = c.loop-node.last.value in
    let under_before = min-le_left before until in
    let under_until = min-le_right before until in
    let least = c.lesser-last.ensures in
    let tables = c.args.tables.now in
    let within : c.loop-node.node < length tables = omega (arith, c.requires.tables.0, c.loop-node-test.true, c.len-node-end.ensures, c.args.plan.now.nodes.ok.0) in
    let at = slice_get-get_or tables c.loop-node.node c.index-tables-node.result within ∙ ap Some (sym c.index-tables-node.is) in
    let Ends : ℕ → Type 0 = λ e. (e ≡ 254) ⊎ IsCut c.args.plan.now tables e in
    record {
      ordered = rw least (le-min c.loop-node.invariant.ordered c.alike_until.ensures.ordered);
      within = omega (arith, least, under_before, c.loop-node.invariant.within);
      alike = λ n lt e low high. elim (cases_lt n c.loop-node.node) [
        | inl earlier ↦ c.loop-node.invariant.alike n earlier e low (omega (arith, high, least, under_before))
        | inr from ↦ (
            let here : c.loop-node.node ≡ n = omega (arith, lt, from) in
            subst (MovesAlike c.args.plan.now c.args.first.value until) here c.alike_until.ensures.alike e low (omega (arith, high, least, under_until)))
      ];
      ends = of_lesser Ends before until c.lesser-last.result.value least c.loop-node.invariant.ends (cut_by_node c.args.plan.now tables c.loop-node.node until c.index-tables-node.result at c.alike_until.ensures.ends);
    }

pub returns-clause-alike : goal.returns-clause-alike
returns-clause-alike c = all_alike c.args.plan.now c.args.first.value c.loop-node.last.value (λ n lt. c.loop-node.invariant.alike n (omega (arith, lt, c.loop-node-test.false, c.len-node-end.ensures, c.args.plan.now.nodes.ok.0)))

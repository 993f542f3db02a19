use Rattle.std.{proofs.Common.{◌≡◌, ◌↔◌, List, ℕ, Some, arith, subst, inl, inr}, proofs.lemmas.Bool.{cases_lt}}
use Rattle.plan_values.specs.declared.nodes.Row.{Row}
use Rattle.net_tables.specs.Routing.{NamesFor, rows_of}
use Rattle.net_rollout.proofs.changed_plan.is_part_told.Goals as goal

pub loop-eid-preserved : goal.loop-eid-preserved
loop-eid-preserved c e m from lt =
    let new = c.args.new.now in
    let part = c.args.part.now in
    let P : ℕ → Type 0 = λ x. NamesFor (rows_of new part.node) x m ↔ (part.next ≡ Some m) in
    elim (cases_lt e c.loop-eid.eid) [
      | inl less ↦ c.loop-eid.invariant e m from less
      | inr ge ↦ (
          let rows : c.rows_at-rows.result.now ≡ rows_of new part.node = c.rows_at-rows.ensures in
          let Q : List Row → Type 0 = λ rs. NamesFor rs c.new.result.value m ↔ (part.next ≡ Some m) in
          let here : Q c.rows_at-rows.result.now = c.is_sent_to.ensures c.if-not-is_sent_to.false m in
          let at : c.new.result.value ≡ e = omega (arith, lt, ge, c.new.ensures) in
          subst P at (subst Q rows here))
    ]

pub returns : goal.returns
returns c all e m from le = c.loop-eid.invariant e m from (omega (arith, le))

use Rattle.std.{proofs.Common.{◌+◌, sym, arith, inl, inr}, proofs.lemmas.Bool.{cases_lt}, proofs.lemmas.Option.{none-some}}
use Rattle.mctp_control.{specs.Pools.{pool_value}, proofs.PoolLaws.{out_ends, free_goes_on, run_found}, proofs.eid_pool.EidPool.lowest_run.Goals.{then-self-eid, else-self-eid+else-eid-first}}
use Rattle.mctp_control.proofs.eid_pool.EidPool.lowest_run.Goals as goal

pub returns-then-eid-first-clause-none : goal.returns-then-eid-first-clause-none
returns-then-eid-first-clause-none c =
    let found = run_found (pool_value c.args.self.now) c.args.count c.loop-eid.first c.loop-eid.eid c.loop-eid.invariant c.if-self-eid.false
    (omega (arith, c.if-eid-first.true, c.loop-eid.invariant.high)) (omega (arith, c.loop-eid-test.true, c.end-eid-end.ensures.end)) in
    (λ e eid f. absurd (none-some _ (sym e)), λ none. absurd (none c.loop-eid.first found.run))

pub loop-eid-preserved : goal.loop-eid-preserved
loop-eid-preserved c =
    let p = pool_value c.args.self.now in
    elim c.if-self-eid.branch [
      | then-self-eid w ↦ rw w.first-is (out_ends p c.args.count c.loop-eid.first c.loop-eid.eid c.requires c.loop-eid.invariant w.if-self-eid.true)
      | else-self-eid+else-eid-first w ↦
          rw w.first-is (free_goes_on p c.args.count c.loop-eid.first c.loop-eid.eid c.loop-eid.invariant w.if-self-eid.false (elim (cases_lt (c.loop-eid.eid + 1) (c.loop-eid.first + c.args.count)) [
            | inl lt ↦ lt
            | inr ge ↦ absurd (w.if-eid-first.false (omega (arith, c.loop-eid.invariant.high, c.loop-eid.invariant.short)))
          ]))
    ]

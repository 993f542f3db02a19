use Rattle.std.proofs.Common.{rules, ◌≡◌, ◌+◌, ◌∙◌, Err, map, length, string_bytes, ap, arith}
use Rattle.net_sim.specs.Outcomes.{outcome_value}
use Rattle.command_answers.{specs.Answers.{stream}, proofs.Waiting.{given_at_end}}
use Rattle.play_commands.proofs.Simulated.{shows_more, breaks_in_line, breaks_in_waiting, ends_written}
use Rattle.play_commands.proofs.sim.print_outcomes.Goals as goal

pub loop-index-preserved : goal.loop-index-preserved
loop-index-preserved g c = (
  shows_more c.args.plan.now c.args.outcomes.now c.loop-index.index c.index-outcomes-index.result c.loop-index-test.true c.index-outcomes-index.is
      c.deref.result.now (string_bytes c.loop-index.gathered.lines) (string_bytes c.add.new.self.lines) _ _ _ (c.deref.ensures ∙ c.in-Ok.ensures)
      c.loop-index.invariant.0 c.in_ok-add-in-Ok.ensures.added,
  c.in_ok-add-in-Ok.ensures.kept ∙ c.loop-index.invariant.1,
)

pub returns-in_err-add-in-Ok : goal.returns-in_err-add-in-Ok
returns-in_err-add-in-Ok g c =
    let failed = c.in_err-add-in-Ok in
    let middle = stream g.O.Sink.account c.loop-index.output c.add.new.output in
    let output = stream g.O.Sink.account c.args.output.now c.add.new.output in
    let ended : c.from_residual.result ≡ Err failed.field-0.0 = search rules in
    rw (ended ∙ ap Err failed.ensures.unwritten) (breaks_in_line c.args.plan.now c.args.outcomes.now c.loop-index.index c.index-outcomes-index.result
    c.loop-index-test.true c.index-outcomes-index.is c.deref.result.now (string_bytes c.loop-index.gathered.lines) output middle (c.deref.ensures ∙ c.in-Ok.ensures)
    c.loop-index.invariant.0 failed.ensures.beginning (failed.ensures.fails ∙ ap (λ n. n + 1) c.loop-index.invariant.1))

pub returns-in_err-write-in-Err : goal.returns-in_err-write-in-Err
returns-in_err-write-in-Err g c =
    let failed = c.in_err-write-in-Err in
    let middle = stream g.O.Sink.account c.loop-index.output c.write.new.output in
    let output = stream g.O.Sink.account c.args.output.now c.write.new.output in
    let ended : c.from_residual-in_err-write-in-Err.result ≡ Err failed.field-0.0 = search rules in
    rw (ended ∙ ap Err failed.ensures.unwritten) (breaks_in_waiting c.args.plan.now (map outcome_value c.args.outcomes.now) c.loop-index.index
    (string_bytes c.loop-index.gathered.lines) output middle c.loop-index.invariant.0 failed.ensures.beginning
    (failed.ensures.fails ∙ ap (λ n. n + 1) c.loop-index.invariant.1))

pub returns : goal.returns
returns g c =
    let written = c.write-2.ensures in
    let middle = stream g.O.Sink.account c.loop-index.output c.write-2.new.output in
    let output = stream g.O.Sink.account c.args.output.now c.write-2.new.output in
    ends_written _ c.args.plan.now (map outcome_value c.args.outcomes.now) c.loop-index.index (length c.args.outcomes.now) (string_bytes c.loop-index.gathered.lines)
    output middle c.write-2.result (omega (arith, c.loop-index-test.false, c.loop-index.auto.index-end)) c.loop-index.invariant.0 written.written written.unwritten
    written.beginning written.fails c.loop-index.invariant.1

pub returns-in-Err : goal.returns-in-Err
returns-in-Err g c = rw c.from.ensures (c.loop-index.index, given_at_end _ _ _ _ _ c.loop-index.invariant.0 c.in_ok-write-in-Err.ensures.written)

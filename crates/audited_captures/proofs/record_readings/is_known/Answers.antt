use Rattle.std.proofs.Common.{subst}
use Rattle.audited_captures.{specs.AsPlanned.{IsAmong}, specs.declared.record_readings.Lead.{Lead}, proofs.RecordLaws.{among_here}}
use Rattle.audited_captures.proofs.record_readings.is_known.Goals as goal

pub returns-then-is_same : goal.returns-then-is_same
returns-then-is_same c = λ is.
    subst (λ (l : Lead). IsAmong l c.args.leads.now) (c.if-is_same.ensures is) (among_here c.args.leads.now c.loop-known.known-index _ c.loop-known-test.true)

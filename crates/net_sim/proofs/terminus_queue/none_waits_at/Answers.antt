use Rattle.std.proofs.Common.{refl}
use Rattle.net_sim.{specs.TerminusQueues.{waiting_value}, proofs.Settled.{tells_waits}}
use Rattle.net_sim.proofs.terminus_queue.none_waits_at.Goals as goal

pub returns-in-Some : goal.returns-in-Some
returns-in-Some g c = tells_waits _ waiting_value _ _ c.args.queue.now c.in-Some.queue c.in-Some.queue.waiting.messages.items c.in-Some.is refl c.none_waits.ensures

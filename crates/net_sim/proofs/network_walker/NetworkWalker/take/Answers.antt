use Rattle.pldm_message.specs.InstanceIdValues.{id_value, ids_of}
use Rattle.pdr_repository.specs.WalkerStates.{state_of}
use Rattle.net_sim.{specs.NetworkWalkers.{walker_value}, proofs.Handing.{took_answer, none_after_answer}}
use Rattle.net_sim.proofs.network_walker.NetworkWalker.take.Goals as goal

pub returns-in-Ok : goal.returns-in-Ok
returns-in-Ok c =
    let now = c.args.self.now in
    took_answer (walker_value now) c.args.message.now c.in-Ok.step (state_of c.take.new.self) (ids_of c.give_back.new.ids) (id_value now.outstanding) now.waits
    c.in-Ok.ensures.takes c.give_back.ensures

pub invariant_of-self-clause-alone : goal.invariant_of-self-clause-alone
invariant_of-self-clause-alone c = λ id out.
    let now = c.args.self.now in
    absurd (none_after_answer (walker_value now) c.args.message.now c.in-Ok.step (state_of c.take.new.self) (ids_of c.give_back.new.ids) (id_value now.outstanding) now.waits
    now.alone c.in-Ok.ensures.takes c.give_back.ensures id out)

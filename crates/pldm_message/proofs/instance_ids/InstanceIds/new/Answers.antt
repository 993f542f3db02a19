use Rattle.pldm_message.proofs.Turns.{all_false}
use Rattle.pldm_message.proofs.instance_ids.InstanceIds.new.Goals as goal

pub returns-clause-out : goal.returns-clause-out
returns-clause-out c = λ id. all_false 32 id

-- What a set of instance IDs of the code stands for.
use Rattle.std.specs.Prelude.{ℕ, false, Option, Some, None, slice_index_or}
use Rattle.pldm_message.{specs.declared.instance.InstanceId.{InstanceId}, specs.declared.instance_ids.InstanceIds.{InstanceIds}, specs.InstanceIds.{IdSet}}

abbrev pub id_value : Option InstanceId → Option ℕ
id_value None = None
id_value (Some id) = Some id.value

abbrev pub ids_of : InstanceIds → IdSet
ids_of ids = record { out = λ i. slice_index_or ids.out i false; last = id_value ids.last }

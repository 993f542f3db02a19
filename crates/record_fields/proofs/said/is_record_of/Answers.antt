use Rattle.std.proofs.Common.{subst}
use Rattle.pdr_record.specs.RecordValues.{record_value}
use Rattle.record_fields.specs.Said.{IsTypeWord}
use Rattle.record_fields.proofs.said.is_record_of.Goals as goal

pub returns-in_ok-says_all-in-Ok : goal.returns-in_ok-says_all-in-Ok
returns-in_ok-says_all-in-Ok c = λ yes. record {
  whole = record_value c.in-Ok.record;
  spelled = c.in-Ok.ensures.ok;
  type_is = subst (IsTypeWord c.args.kind.now) c.record_type.ensures (c.is_type.ensures c.if-is_type.true);
  said = c.in_ok-says_all-in-Ok.ensures yes;
}

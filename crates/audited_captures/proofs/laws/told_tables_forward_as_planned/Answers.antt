use Rattle.audited_captures.proofs.ForwardLaws.{tables_forward, audits_forward}
use Rattle.audited_captures.proofs.laws.told_tables_forward_as_planned.Goals as goal

pub returns : goal.returns
returns c = record { tables = tables_forward; audits = audits_forward }

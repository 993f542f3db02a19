use Rattle.audited_captures.proofs.WholeAudits.{audit_matches, matches_audit}
use Rattle.audited_captures.proofs.laws.audits_match_where_as_planned.Goals as goal

pub returns : goal.returns
returns c = record { matches = audit_matches; matched = matches_audit }

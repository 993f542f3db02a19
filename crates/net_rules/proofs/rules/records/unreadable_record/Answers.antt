use Rattle.pdr_repository.specs.Records.{IsRecordOf}
use Rattle.net_tables.specs.Repositories.{records_of}
use Rattle.net_rules.proofs.RecordSpots.{record_spot}
use Rattle.net_rules.proofs.rules.records.unreadable_record.Goals as goal

pub returns : goal.returns
returns c =
    record_spot (records_of c.args.plan.now c.args.node) c.records_at.result.now (λ _ _ r. IsRecordOf r.handle r.bytes.items) c.first_unreadable.result c.at_found.result c.records_at.ensures
    c.first_unreadable.ensures c.at_found.ensures

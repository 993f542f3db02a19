use Rattle.std.proofs.Common.{map, codes, refl, rules}
use Rattle.net_plan.{specs.JsonWords.{IsNumberWithin, IsShortListOf}, specs.PlanText.{IsRecordOf}, specs.TerminusParts.{terminus_slots}, proofs.Gathered.{list_there, next_taken, there_taken}}
use Rattle.plan_values.specs.NodeValues.{record_value}
use Rattle.net_plan.proofs.terminus_parts.TerminusPartsGather.take.Goals as goal

pub returns-in_ok-next_number_within-in-tid-clause-more : goal.returns-in_ok-next_number_within-in-tid-clause-more
returns-in_ok-next_number_within-in-tid-clause-more c =
    next_taken (IsNumberWithin 0 254) (codes "tid") (terminus_slots c.args.self.now) c.args.self.now.tid c.set_once.new.slot c.in_ok-next_number_within-in-tid.field-0 c.set_once.result c.args.key.now c.args.depth c.args.reader.now c.next_number_within.new.reader c.in-tid.is (λ o h. h) refl c.in_ok-next_number_within-in-tid.ensures.read c.set_once.ensures

pub returns-in_ok-next_list-in-records-clause-more : goal.returns-in_ok-next_list-in-records-clause-more
returns-in_ok-next_list-in-records-clause-more c =
    there_taken (λ d v. IsShortListOf 4096 IsRecordOf d (map record_value v.items)) (codes "records") (terminus_slots c.args.self.now) c.args.self.now.records c.set_once-in-records.new.slot c.in_ok-next_list-in-records.field-0 c.set_once-in-records.result c.args.key.now c.args.depth c.args.reader.now c.next_list.new.reader c.in-records.is (λ o h. h) refl (list_there IsRecordOf record_value 4096 c.args.depth c.args.reader.now c.next_list.new.reader c.in_ok-next_list-in-records.field-0.items c.in_ok-next_list-in-records.ensures.read (search rules)) c.set_once-in-records.ensures

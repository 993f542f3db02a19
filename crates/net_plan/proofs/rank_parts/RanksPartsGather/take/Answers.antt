use Rattle.std.proofs.Common.{map, codes, refl}
use Rattle.net_plan.{specs.CertificateText.{IsRangeOf}, specs.JsonWords.{IsName, IsListOf}, specs.RankParts.{ranks_slots}, proofs.Gathered.{next_taken, there_taken}}
use Rattle.plan_values.specs.CertificateValues.{range_value}
use Rattle.net_plan.proofs.rank_parts.RanksPartsGather.take.Goals as goal

pub returns-in_ok-next_name-in-node-clause-more : goal.returns-in_ok-next_name-in-node-clause-more
returns-in_ok-next_name-in-node-clause-more c =
    next_taken (λ d name. IsName d name.now) (codes "node") (ranks_slots c.args.self.now) c.args.self.now.node c.set_once.new.slot c.in_ok-next_name-in-node.field-0 c.set_once.result c.args.key.now c.args.depth c.args.reader.now c.next_name.new.reader c.in-node.is (λ o h. h) refl c.in_ok-next_name-in-node.ensures c.set_once.ensures

pub returns-in_ok-next_ranges-in-ranges-clause-more : goal.returns-in_ok-next_ranges-in-ranges-clause-more
returns-in_ok-next_ranges-in-ranges-clause-more c =
    there_taken (λ d v. IsListOf IsRangeOf d (map range_value v.items)) (codes "ranges") (ranks_slots c.args.self.now) c.args.self.now.ranges c.set_once-in-ranges.new.slot c.in_ok-next_ranges-in-ranges.field-0 c.set_once-in-ranges.result c.args.key.now c.args.depth c.args.reader.now c.next_ranges.new.reader c.in-ranges.is (λ o h. h) refl c.in_ok-next_ranges-in-ranges.ensures c.set_once-in-ranges.ensures

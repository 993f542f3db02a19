use Rattle.net_plan.{specs.CertificateText.{IsRangeOf}, proofs.Gathered.{any_list_there}}
use Rattle.plan_values.specs.CertificateValues.{range_value}
use Rattle.net_plan.proofs.rank_parts.next_ranges.Goals as goal

pub returns : goal.returns
returns c =
    any_list_there IsRangeOf range_value c.args.depth c.args.reader.now c.next_list.new.reader c.in_ok-ranges.ranges.items c.in_ok-ranges.ensures.read

use Rattle.std.proofs.Common.{codes, refl}
use Rattle.net_plan.{specs.JsonWords.{IsNumberWithin}, specs.PlanText.{IsByte}, specs.RankParts.{range_slots}, proofs.Gathered.{next_taken}}
use Rattle.net_plan.proofs.rank_parts.RangePartsGather.take.Goals as goal

pub returns-in_ok-next_byte-in-first-clause-more : goal.returns-in_ok-next_byte-in-first-clause-more
returns-in_ok-next_byte-in-first-clause-more c =
    next_taken IsByte (codes "first") (range_slots c.args.self.now) c.args.self.now.first c.set_once.new.slot c.in_ok-next_byte-in-first.field-0 c.set_once.result c.args.key.now c.args._depth c.args.reader.now c.next_byte.new.reader c.in-first.is (λ o h. h) refl c.in_ok-next_byte-in-first.ensures c.set_once.ensures

pub returns-in_ok-next_number_within-in-rank-clause-more : goal.returns-in_ok-next_number_within-in-rank-clause-more
returns-in_ok-next_number_within-in-rank-clause-more c =
    next_taken (IsNumberWithin 1 255) (codes "rank") (range_slots c.args.self.now) c.args.self.now.rank c.set_once-in-rank.new.slot c.in_ok-next_number_within-in-rank.field-0 c.set_once-in-rank.result c.args.key.now c.args._depth c.args.reader.now c.next_number_within.new.reader c.in-rank.is (λ o h. h) refl c.in_ok-next_number_within-in-rank.ensures.read c.set_once-in-rank.ensures

pub returns-in_ok-next_number_within-in-size-clause-more : goal.returns-in_ok-next_number_within-in-size-clause-more
returns-in_ok-next_number_within-in-size-clause-more c =
    next_taken (IsNumberWithin 1 255) (codes "size") (range_slots c.args.self.now) c.args.self.now.size c.set_once-in-size.new.slot c.in_ok-next_number_within-in-size.field-0 c.set_once-in-size.result c.args.key.now c.args._depth c.args.reader.now c.next_number_within-in-size.new.reader c.in-size.is (λ o h. h) refl c.in_ok-next_number_within-in-size.ensures.read c.set_once-in-size.ensures

use Rattle.std.proofs.Common.{codes, refl}
use Rattle.net_plan.{specs.JsonWords.{IsName, IsNumberWithin}, specs.LevelParts.{level_slots}, proofs.Gathered.{next_taken}}
use Rattle.net_plan.proofs.level_parts.LevelPartsGather.take.Goals as goal

pub returns-in_ok-next_number_within-in-level-clause-more : goal.returns-in_ok-next_number_within-in-level-clause-more
returns-in_ok-next_number_within-in-level-clause-more c =
    next_taken (IsNumberWithin 1 63) (codes "level") (level_slots c.args.self.now) c.args.self.now.level c.set_once.new.slot c.in_ok-next_number_within-in-level.field-0 c.set_once.result c.args.key.now c.args._depth c.args.reader.now c.next_number_within.new.reader c.in-level.is (λ o h. h) refl c.in_ok-next_number_within-in-level.ensures.read c.set_once.ensures

pub returns-in_ok-next_name-in-node-clause-more : goal.returns-in_ok-next_name-in-node-clause-more
returns-in_ok-next_name-in-node-clause-more c =
    next_taken (λ d name. IsName d name.now) (codes "node") (level_slots c.args.self.now) c.args.self.now.node c.set_once-in-node.new.slot c.in_ok-next_name-in-node.field-0 c.set_once-in-node.result c.args.key.now c.args._depth c.args.reader.now c.next_name.new.reader c.in-node.is (λ o h. h) refl c.in_ok-next_name-in-node.ensures c.set_once-in-node.ensures

use Rattle.std.proofs.Common.{rules, map}
use Rattle.record_fields.specs.Meanings.{named_of}
use Rattle.board_kept.proofs.Members.{next_member}
use Rattle.board_kept.proofs.fields.are_members_given.Goals as goal

pub loop-name-preserved : goal.loop-name-preserved
loop-name-preserved c = λ rest. c.loop-name.invariant
    (next_member c.args.plan.now (map named_of c.args.fields.now) c.in-Some.name.now c.in-Some.value.now c.as_str.result.now
    c.loop-name.name-iterator c.next.new.self c.in-Some.ensures.steps c.as_str.ensures.value
    (c.in_ok-is_member_given.ensures (search rules)) rest)

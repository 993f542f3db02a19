use Rattle.std.proofs.Common.{rules}
use Rattle.board_kept.{specs.Keys.{IsKeyOf}, proofs.Members.{next_key}}
use Rattle.board_kept.proofs.keys.are_keys.Goals as goal

pub loop-name-preserved : goal.loop-name-preserved
loop-name-preserved c = λ rest. c.loop-name.invariant
    (next_key (IsKeyOf c.args.level) c.in-Some.name.now c.in-Some.field-0-1.now c.as_str.result.now
    c.loop-name.name-iterator c.next.new.self c.in-Some.ensures.steps c.as_str.ensures.value
    (c.is_key_of.ensures (search rules)) rest)

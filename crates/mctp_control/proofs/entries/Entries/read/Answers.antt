use Rattle.std.proofs.Common.{arith}
use Rattle.mctp_control.proofs.EntryReading.{must_follow, has_room, one_more}
use Rattle.mctp_control.proofs.entries.Entries.read.Goals as goal

pub returns-in_err-entry-clause-all : goal.returns-in_err-entry-clause-all
returns-in_err-entry-clause-all c = λ es s n.
    absurd (must_follow _ _ _ _ _ c.loop-entry.invariant c.loop-entry-test.true (λ m more a b. c.in_err-entry.ensures.all m more a b) es s n)

pub push-requires : goal.push-requires
push-requires c =
    let room = has_room _ _ _ _ _ c.in_ok-entry.entry c.in_ok-entry.after.now c.loop-entry.invariant c.in_ok-entry.ensures.some.1 c.requires in
    (omega arith, room)

pub loop-entry-preserved : goal.loop-entry-preserved
loop-entry-preserved c =
    one_more _ _ _ _ _ c.in_ok-entry.entry c.in_ok-entry.after.now _ c.loop-entry.invariant c.loop-entry-test.true
    c.in_ok-entry.ensures.some.0 c.in_ok-entry.ensures.some.1 c.in_ok-entry.ensures.all c.push.ensures.items

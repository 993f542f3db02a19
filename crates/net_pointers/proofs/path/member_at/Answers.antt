use Rattle.net_pointers.proofs.Paths.{member_there, no_member}
use Rattle.net_pointers.proofs.path.member_at.Goals as goal

pub returns-in-Some : goal.returns-in-Some
returns-in-Some c =
    member_there c.args.members.now c.args.index c.in-Some.member.now c.in-Some.ensures.lookup.3.0 c.in-Some.ensures.lookup.1

pub returns-in-None : goal.returns-in-None
returns-in-None c = no_member c.args.members.now c.args.index c.in-None.ensures.lookup.3

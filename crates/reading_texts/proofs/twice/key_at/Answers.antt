use Rattle.reading_texts.proofs.DoubledTold.{key_there, no_key}
use Rattle.reading_texts.proofs.twice.key_at.Goals as goal

pub returns-in-Some : goal.returns-in-Some
returns-in-Some c =
    key_there c.args.members.now c.args.index c.in-Some.member.now c.in-Some.ensures.lookup.3.0 c.in-Some.ensures.lookup.1

pub returns-in-None : goal.returns-in-None
returns-in-None c = no_key c.args.members.now c.args.index c.in-None.ensures.lookup.3

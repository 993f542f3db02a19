use Rattle.net_rules.proofs.SpanLaws.{added_new, added_joined}
use Rattle.net_rules.proofs.spans.add.Goals as goal

pub returns-in_ok-keep : goal.returns-in_ok-keep
returns-in_ok-keep c = added_new c.args.spans.now.items c.args.last c.args.next c.keep.new.spans.items c.in_ok-keep.ensures c.if-last-next.true

pub returns-else-last-next : goal.returns-else-last-next
returns-else-last-next c =
    added_joined c.args.spans.now.items c.args.last c.args.next c.joined.result c.requires.follow c.requires.below c.joined.ensures.first c.joined.ensures.both

use Rattle.std.proofs.Common.{map}
use Rattle.heard_captures.specs.Messages.{message_value}
use Rattle.audited_captures.{specs.Audits.{heard_of}, specs.Exchanges.{exchange_value}, specs.Words.{word_value}, proofs.AuditLaws.{others_so}}
use Rattle.audited_captures.proofs.audits.other_lines.Goals as goal

pub returns : goal.returns
returns c = λ complete untold wanted.
    others_so c.args.plan.now complete (map message_value c.args.messages.now) (heard_of (map word_value c.args.words.now) (map exchange_value c.args.exchanges.now)) untold
    c.in_ok-lines.lines.items c.args.wanted.items c.in_ok-owners.owners.items c.in_ok-talk.talk.items c.append-2.new.self.items c.append.new.self.items c.append-3.new.self.items
    c.in_ok-lines.ensures wanted c.in_ok-owners.ensures c.in_ok-talk.ensures c.in_ok-append.ensures.items c.in_ok-append-2.ensures.items c.in_ok-append-3.ensures.items

use Rattle.std.proofs.Common.{rules, map}
use Rattle.bus_captures.specs.Values.{entry_value}
use Rattle.heard_captures.specs.Messages.{message_value}
use Rattle.audited_captures.{specs.Audits.{heard_of}, specs.Exchanges.{exchange_value}, specs.Repositories.{repository_values}, specs.Words.{word_value}, proofs.AuditLaws.{beside_so}}
use Rattle.audited_captures.proofs.audits.lines_of_capture.Goals as goal

pub returns : goal.returns
returns c =
    let h = heard_of (map word_value c.in_ok-words.words.items) (map exchange_value c.in_ok-exchanges.exchanges.items) in
    let told = c.in_ok-told.told in
    beside_so c.args.plan.now c.args.is_complete (repository_values c.args.repositories.now) (map entry_value c.args.capture.now.entries.items) (map message_value c.in_ok-messages.messages.items) h
    told.lines.items told.untold.items c.in_ok-others.others.items c.append.new.self.items told.count (search rules) (search rules) (search rules) (search rules)
    (search rules) c.in_ok-append.ensures.items

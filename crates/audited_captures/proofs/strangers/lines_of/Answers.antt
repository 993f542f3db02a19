use Rattle.std.proofs.Common.{rules, map}
use Rattle.audited_captures.{specs.Exchanges.{exchange_value}, specs.Lines.{line_value}, proofs.StrangerLaws.{some_line}}
use Rattle.audited_captures.proofs.strangers.lines_of.Goals as goal

pub returns-in-Some : goal.returns-in-Some
returns-in-Some c =
    some_line c.args.plan.now (λ ls. map line_value ls.items) (exchange_value c.args.exchange.now) c.in-Some.eid.value c.line_of.result (search rules) c.line_of.ensures

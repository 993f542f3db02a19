use Rattle.std.proofs.Common.{rules, string_bytes}
use Rattle.command_answers.proofs.Waiting.{written_after, broken_after}
use Rattle.command_answers.proofs.gathered.Gathered.add.Goals as goal

pub returns-then-is_err-clause-added : goal.returns-then-is_err-clause-added
returns-then-is_err-clause-added g c =
    let waiting = string_bytes c.args.self.now.lines in
    written_after c.print.result waiting c.args.line.now _ _ _ _ c.in_ok-write.ensures.none_waits (search rules) c.print.ensures.written

pub returns-then-is_err-clause-beginning : goal.returns-then-is_err-clause-beginning
returns-then-is_err-clause-beginning g c =
    let waiting = string_bytes c.args.self.now.lines in
    broken_after c.print.result waiting c.args.line.now _ _ _ (search rules) c.print.ensures.beginning

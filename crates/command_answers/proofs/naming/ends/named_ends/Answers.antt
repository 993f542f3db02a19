use Rattle.std.proofs.Common.{rules, ◌≡◌, None}
use Rattle.command_answers.proofs.Ends.{no_destination}
use Rattle.command_answers.proofs.naming.ends.named_ends.Goals as goal

pub returns-in_err-destination : goal.returns-in_err-destination
returns-in_err-destination c =
    let ended : c.from_residual-in_err-destination.result ≡ None = search rules in
    rw ended (no_destination c.args.plan.now c.args.from.now c.args.to.now c.in_err-destination.ensures)

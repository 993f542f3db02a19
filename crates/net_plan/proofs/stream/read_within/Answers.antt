use Rattle.std.{proofs.Common.{rules, ◌++◌, take}, proofs.lemmas.List.{places}, proofs.KnownBytes.{Consumes-trans}}
use Rattle.net_plan.specs.Taken.{TakesAtMost}
use Rattle.net_plan.proofs.stream.read_within.Goals as goal

pub returns-then-limit-len-clause-too_long : goal.returns-then-limit-len-clause-too_long
returns-then-limit-len-clause-too_long g c = λ _.
    let account = g.S.Source.account in
    let text = c.pieces.text.items in
    let piece = take c.in_ok-count.count c.pull.new.buf in (
      text ++ piece,
      Consumes-trans (account c.args.source.now).bytes (account c.pieces.source).bytes (account c.pull.new.self).bytes text piece c.pieces.invariant.0 c.in_ok-count.ensures.bytes.0,
      search (rules, places),
    )

pub returns-in_err-extend_from_slice-clause-stands : goal.returns-in_err-extend_from_slice-clause-stands
returns-in_err-extend_from_slice-clause-stands g c =
    let account = g.S.Source.account in
    let text = c.pieces.text.items in
    let piece = take c.in_ok-count.count c.pull.new.buf in
    let taken : TakesAtMost c.args.limit (account c.args.source.now).bytes (account c.pull.new.self).bytes = (
      text ++ piece,
      Consumes-trans (account c.args.source.now).bytes (account c.pieces.source).bytes (account c.pull.new.self).bytes text piece c.pieces.invariant.0 c.in_ok-count.ensures.bytes.0,
      search (rules, places),
    ) in search (rules, taken)

use Rattle.std.proofs.Common.{ap, ◌∙◌, arith}
use Rattle.json.{specs.Json.{object, value, parse_map}, proofs.Grammar.{value-begin_object}}
use Rattle.net_plan.proofs.Gathered.{if_some}
use Rattle.net_plan.proofs.gather.read_object.Goals as goal

pub returns-clause-read : goal.returns-clause-read
returns-clause-read g c =
    let opened = ap (value c.args.depth) c.in_ok-begin_object.ensures ∙ value-begin_object c.args.depth c.begin_object.new.self (omega arith) in
    if_some c.read_members.result (λ u read. (read.0, opened ∙ ap (parse_map object) read.1, read.2)) c.read_members.ensures.read

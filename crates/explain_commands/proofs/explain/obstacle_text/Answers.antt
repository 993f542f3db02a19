use Rattle.std.proofs.Common.{ℕ, string_bytes}
use Rattle.command_answers.{specs.Certifying.{IsRuledOutBy}, proofs.Obstacles.{not_memory}}
use Rattle.explain_commands.proofs.Explained.{obstacle_written}
use Rattle.explain_commands.proofs.explain.obstacle_text.Goals as goal

pub returns : goal.returns
returns c =
    let plan = c.args.given.now.plan in
    let obstacle = c.args.obstacle.now in
    let line = string_bytes c.in_ok-line.line in
    let out : IsRuledOutBy plan obstacle line = record {
      first = c.requires.names;
      none = c.requires.none (not_memory plan obstacle line c.in_ok-line.ensures);
      written = c.in_ok-line.ensures;
    } in
    obstacle_written string_bytes c.args.name.now c.args.given.now.text.items plan obstacle line (string_bytes c.in_ok-rest.rest)
    c.format.result out c.in_ok-rest.ensures c.format.ensures.ok

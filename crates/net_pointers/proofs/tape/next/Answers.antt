use Rattle.std.proofs.Common.{drop, sym, ap, ◌∙◌}
use Rattle.json.specs.declared.tape.Node.TheVariants.{Object}
use Rattle.net_pointers.proofs.Links.{here}
use Rattle.net_pointers.proofs.tape.next.Goals as goal

pub returns-then-at-nodes : goal.returns-then-at-nodes
returns-then-at-nodes c t ts e = ap (drop 1) (sym e ∙ here c.args.nodes.now c.args.at (Object 0) c.if-at-nodes.true)

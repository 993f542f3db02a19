use Rattle.std.proofs.Common.{rules, map}
use Rattle.json.specs.Value.{value_view}
use Rattle.net_plan.specs.Finding.{step_value}
use Rattle.net_pointers.{proofs.Indexed.{spot_leads}, proofs.Paths.{leads_nowhere}}
use Rattle.net_pointers.proofs.index.TextIndex.spot_of_pointer.Goals as goal

pub returns-in-Some : goal.returns-in-Some
returns-in-Some c =
    search (rules, spot_leads c.args.self.now (map step_value c.args.pointer.now) (value_view c.args.tree.now) c.in-Some.path.items c.spot_of_part.result c.requires.1 (search rules))

pub returns-in-None : goal.returns-in-None
returns-in-None c =
    search (rules, leads_nowhere (map step_value c.args.pointer.now) (value_view c.args.tree.now) (search rules))

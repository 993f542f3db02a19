use Rattle.std.proofs.lemmas.Map.Text.{btree_map_updates_str}
use Rattle.net_plan.proofs.name_index.NameIndex.put_back.Goals as goal

pub returns-in-Ok-clause-noted : goal.returns-in-Ok-clause-noted
returns-in-Ok-clause-noted c = λ q. btree_map_updates_str c.args.name.now c.args.self.now.by_name c.insert.new.self _ c.in-Ok.ensures.updates q

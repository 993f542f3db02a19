use Rattle.std.{proofs.Common.{rules, true, Some, refl}, proofs.lemmas.Map.Text.{btree_map_updates_str}}
use Rattle.net_plan.{specs.NameIndexes.{noted}, proofs.Names.{was_new, noted_now, noted_again}}
use Rattle.net_plan.proofs.name_index.NameIndex.note.Goals as goal

pub returns-in-Ok-None-clause-noted : goal.returns-in-Ok-None-clause-noted
returns-in-Ok-None-clause-noted c =
    λ q. noted_now (noted c.args.self.now) (noted (record { by_name = c.insert.new.self; count = c.args.self.now.count })) c.args.name.now c.args.index q (was_new true _ (search rules) refl)
    (btree_map_updates_str c.args.name.now c.args.self.now.by_name c.insert.new.self _ c.in-Ok-None.ensures.updates q)

pub returns-in_ok-put_back-in-Ok-Some-clause-noted : goal.returns-in_ok-put_back-in-Ok-Some-clause-noted
returns-in_ok-put_back-in-Ok-Some-clause-noted c =
    λ q. noted_again (noted c.args.self.now) (noted (record { by_name = c.insert.new.self; count = c.args.self.now.count })) (noted c.put_back.new.self) c.args.name.now c.args.index c.in-Ok-Some.had q (search rules)
    (btree_map_updates_str c.args.name.now c.args.self.now.by_name c.insert.new.self _ c.in-Ok-Some.ensures.updates q) (c.in_ok-put_back-in-Ok-Some.ensures.noted q)

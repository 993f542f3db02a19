use Rattle.std.proofs.Common.{rules, refl}
use Rattle.net_plan.{specs.declared.shape.Shape.{the_lemmas}, proofs.FieldKeys.{object_shows, list_shows, one_more_shows, none_show}}
use Rattle.net_plan.proofs.tables.plan_one.Goals as goal

pub returns : goal.returns
returns c = (object_shows _ _ _ (one_more_shows _ _ _ _ _ refl (record { is = search (rules, the_lemmas) }) (one_more_shows _ _ _ _ _ refl (record { is = search (rules, the_lemmas) }) (one_more_shows _ _ _ _ _ refl (list_shows _ _ _ (object_shows _ _ _ (one_more_shows _ _ _ _ _ refl (record { is = search (rules, the_lemmas) }) (one_more_shows _ _ _ _ _ refl (record { is = search (rules, the_lemmas) }) (one_more_shows _ _ _ _ _ refl (record { is = search (rules, the_lemmas) }) (one_more_shows _ _ _ _ _ refl (record { is = search (rules, the_lemmas) }) (one_more_shows _ _ _ _ _ refl (record { is = search (rules, the_lemmas) }) (one_more_shows _ _ _ _ _ refl (record { is = search (rules, the_lemmas) }) (one_more_shows _ _ _ _ _ refl (record { is = search (rules, the_lemmas) }) (one_more_shows _ _ _ _ _ refl (record { is = search (rules, the_lemmas) }) none_show)))))))))) none_show)))).is

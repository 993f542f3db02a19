use Rattle.std.proofs.Common.{◌≡◌, ◌++◌, map, subst, sym, rules}
use Rattle.plan_differences.{specs.declared.difference.Side.TheVariants.{Old, New}, specs.Differences.{AreDifferences, told_of}, specs.Facts.{fact_value}, proofs.Telling.{all_told}}
use Rattle.plan_differences.proofs.difference.differences.Goals as goal

pub returns : goal.returns
returns c =
    let gone = c.in_ok-gone.gone.items in
    let come = c.in_ok-come.come.items in
    let grown : c.extend_from_slice.new.self.items ≡ told_of Old gone come ++ told_of New come gone = search rules in
    subst (AreDifferences (map fact_value c.args.olds.now) (map fact_value c.args.news.now)) (sym grown)
    (all_told (map fact_value c.args.olds.now) (map fact_value c.args.news.now) gone come c.in_ok-gone.ensures c.in_ok-come.ensures)

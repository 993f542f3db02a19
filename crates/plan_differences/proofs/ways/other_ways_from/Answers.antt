use Rattle.std.proofs.Common.{◌≡◌, [], ◌++◌, ◌+◌, subst, sym, rules}
use Rattle.plan_differences.{specs.WayDifferences.{AreWaysFrom, found_way}, proofs.OtherWays.{none_yet, ways_on}}
use Rattle.plan_differences.proofs.ways.other_ways_from.Goals as goal

pub loop-to-init : goal.loop-to-init
loop-to-init c =
    let none : c.new-ways.result.items ≡ [] = search rules in
    subst (AreWaysFrom c.args.before.now.0 c.args.after.now.0 c.args.from 0) (sym none) (none_yet c.args.before.now.0 c.args.after.now.0 c.args.from)

pub loop-to-preserved : goal.loop-to-preserved
loop-to-preserved c =
    let before = c.args.before.now.0 in
    let after = c.args.after.now.0 in
    let ways = c.loop-to.ways.items in
    let found = c.in_ok-found.found in
    let grown : c.add_way.new.ways.items ≡ ways ++ found_way found = search rules in
    subst (AreWaysFrom before after c.args.from (c.loop-to.to + 1)) (sym grown)
    (ways_on before after c.args.from c.loop-to.to ways found c.loop-to.invariant c.in_ok-found.ensures)

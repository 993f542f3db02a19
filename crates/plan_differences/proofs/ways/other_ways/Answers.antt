use Rattle.std.proofs.Common.{◌≡◌, ◌≤◌, [], ◌++◌, ◌+◌, length, subst, sym, rules}
use Rattle.plan_differences.{specs.WayDifferences.{AreWaysBefore}, proofs.OtherWays.{all_ways, from_more, none_before}}
use Rattle.plan_differences.proofs.ways.other_ways.Goals as goal

pub loop-from-init : goal.loop-from-init
loop-from-init c =
    let none : c.new-ways.result.items ≡ [] = search rules in
    subst (AreWaysBefore c.args.before.now.0 c.args.after.now.0 0) (sym none) (none_before c.args.before.now.0 c.args.after.now.0)

pub loop-from-preserved : goal.loop-from-preserved
loop-from-preserved c =
    let before = c.args.before.now.0 in
    let after = c.args.after.now.0 in
    let ways = c.loop-from.ways.items in
    let more = c.in_ok-other_ways_from.field-0.items in
    let grown : c.extend_from_slice.new.self.items ≡ ways ++ more = search rules in
    subst (AreWaysBefore before after (c.loop-from.from + 1)) (sym grown)
    (from_more before after c.loop-from.from ways more c.loop-from.invariant c.in_ok-other_ways_from.ensures)

pub returns : goal.returns
returns c =
    let before = c.args.before.now.0 in
    let all : length before.nodes.items ≤ c.loop-from.from = search rules in
    all_ways before c.args.after.now.0 c.loop-from.from c.loop-from.ways.items all c.loop-from.invariant

use Rattle.std.{proofs.Common.{sym}, specs.BTreeMap.{get_by}, specs.Cmp.Lexicographic.{slice_cmp}, specs.Ordering.{nat_cmp}, proofs.lemmas.Map.Text.{btree_map_updates_str}}
use Rattle.net_pointers.proofs.Doubling.{noted_twice, noted_once}
use Rattle.net_pointers.proofs.doubled.first_doubled.Goals as goal

pub returns-in-Some : goal.returns-in-Some
returns-in-Some c =
    noted_twice c.args.names.now c.in-Some.first c.loop-second.second _ (λ q. get_by (λ other. slice_cmp nat_cmp q other.now) c.loop-second.passed) c.loop-second-test.true c.loop-second.invariant.1 c.in-Some.ensures c.loop-second.invariant.0

pub loop-second-preserved : goal.loop-second-preserved
loop-second-preserved c =
    noted_once c.args.names.now c.loop-second.second _ (λ q. get_by (λ other. slice_cmp nat_cmp q other.now) c.loop-second.passed) (λ q. get_by (λ other. slice_cmp nat_cmp q other.now) c.insert.new.self) c.loop-second-test.true c.loop-second.invariant.1 (sym c.in_default.ensures)
    (λ q. btree_map_updates_str _ c.loop-second.passed c.insert.new.self _ c.in-Ok.ensures.updates q) c.loop-second.invariant.0

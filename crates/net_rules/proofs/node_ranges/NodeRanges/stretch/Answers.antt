use Rattle.std.{proofs.Common.{◌≡◌, ℕ, List, length, Some, None, refl, subst}, specs.Prelude.{slice_get}, proofs.lemmas.Option.{slice_get_read}}
use Rattle.plan_values.specs.declared.certificate.RankRange.{RankRange}
use Rattle.net_tables.specs.Ranks.{rank_in}
use Rattle.net_rules.{specs.Stretches.{IsAlong}, specs.RanksByEid.{RangesFollow}, proofs.RanksByEid.{along_within}}
use Rattle.mctp_transport.{specs.declared.eid_run.EidRun.{EidRun}, specs.EidRuns.{IsInRun}}
use Rattle.net_rules.proofs.node_ranges.NodeRanges.stretch.Goals as goal

pub returns-in-Some : goal.returns-in-Some
returns-in-Some c =
    let ranges = c.self.inside.ranges.now in
    let e = c.args.eid.value in
    let follow : RangesFollow ranges = c.self.invariant (cc) in
    let range = c.in-Some.range.now in
    let here : slice_get ranges c.args.guess ≡ Some range = let look = c.in-Some.ensures.lookup in slice_get_read ranges (length ranges) c.args.guess range refl look.3.0 look.1 in
    let R : EidRun → Type 0 = λ run. IsInRun run e in
    let has = subst R c.eids.ensures (c.contains.ensures.0 (cc)) in
    let P : List RankRange → Type 0 = λ rs. IsAlong (rank_in rs) e c.within_range.result.end c.within_range.result.rank in
    subst P c.self.view_is (along_within ranges follow c.args.guess e c.within_range.result.end c.within_range.result.rank range here (has.0, has.1) c.within_range.ensures.end c.within_range.ensures.rank)

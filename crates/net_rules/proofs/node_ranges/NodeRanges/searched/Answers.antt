use Rattle.std.{proofs.Common.{◌≡◌, ℕ, List, length, Some, None, refl, sym, subst, arith}, specs.Prelude.{slice_get}, proofs.lemmas.Option.{slice_get_read, slice_get_past}}
use Rattle.plan_values.specs.declared.certificate.RankRange.{RankRange}
use Rattle.net_tables.specs.Ranks.{rank_in}
use Rattle.net_rules.{specs.Stretches.{IsAlong}, specs.RanksByEid.{RangesFollow}, proofs.RanksByEid.{along_within, along_before, along_after}}
use Rattle.net_rules.proofs.node_ranges.NodeRanges.searched.Goals as goal

pub returns-in-Some : goal.returns-in-Some
returns-in-Some c =
    let ranges = c.self.inside.ranges.now in
    let e = c.args.eid.value in
    let follow : RangesFollow ranges = c.self.invariant (cc) in
    let range = c.in-Some.range.now in
    let here : slice_get ranges c.place_of-place.result ≡ Some range = let look = c.in-Some.ensures.lookup in slice_get_read ranges (length ranges) c.place_of-place.result range refl look.3.0 look.1 in
    let high = c.place_of-place.ensures.left c.place_of-place.result (omega arith) range here in
    let P : List RankRange → Type 0 = λ rs. IsAlong (rank_in rs) e c.within_range.result.end c.within_range.result.rank in
    subst P c.self.view_is (along_within ranges follow c.place_of-place.result e c.within_range.result.end c.within_range.result.rank range here (c.if-range-eid.true, high) c.within_range.ensures.end
    c.within_range.ensures.rank)

pub returns-in-Some-2 : goal.returns-in-Some-2
returns-in-Some-2 c =
    let ranges = c.self.inside.ranges.now in
    let e = c.args.eid.value in
    let follow : RangesFollow ranges = c.self.invariant (cc) in
    let range = c.in-Some.range.now in
    let here : slice_get ranges c.place_of-place.result ≡ Some range = let look = c.in-Some.ensures.lookup in slice_get_read ranges (length ranges) c.place_of-place.result range refl look.3.0 look.1 in
    let P : List RankRange → Type 0 = λ rs. IsAlong (rank_in rs) e c.from-in-Some-2.result 0 in
    let Q : ℕ → Type 0 = λ end. IsAlong (rank_in ranges) e end 0 in
    subst P c.self.view_is (subst Q (sym c.from-in-Some-2.ensures) (along_before ranges follow e c.place_of-place.result c.place_of-place.ensures range here c.if-range-eid.false))

pub returns-in-None : goal.returns-in-None
returns-in-None c =
    let ranges = c.self.inside.ranges.now in
    let e = c.args.eid.value in
    let follow : RangesFollow ranges = c.self.invariant (cc) in
    let none : slice_get ranges c.place_of-place.result ≡ None = slice_get_past ranges c.place_of-place.result c.in-None.ensures.lookup.3 in
    let P : List RankRange → Type 0 = λ rs. IsAlong (rank_in rs) e 256 0 in
    subst P c.self.view_is (along_after ranges follow e c.place_of-place.result c.place_of-place.ensures none (omega arith))

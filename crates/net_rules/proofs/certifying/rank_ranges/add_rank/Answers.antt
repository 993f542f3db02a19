use Rattle.std.{proofs.Common.{◌≡◌, ℕ, List, ◌+◌, ◌-◌, ◌<◌, ◌≤◌, length, sym, ◌∙◌, ap, arith, subst}, specs.Prelude.{slice_set}, proofs.lemmas.Bool.{false≢true}}
use Rattle.plan_values.specs.declared.certificate.RankRange.{RankRange}
use Rattle.net_rules.{specs.RankRuns.{AreLongestRuns, Continues, below}, proofs.RankRunLaws.{skipped, pushed, extended, read_last, precedes_ends}, proofs.certifying.rank_ranges.add_rank.Goals.{After-index}}
use Rattle.net_rules.proofs.certifying.rank_ranges.add_rank.Goals as goal

-- the rank of each EID of the stretch, up to the one before its end
level_to : (first last rank : ℕ) (ranks : ℕ → ℕ) → ((d : ℕ) → first ≤ d → d ≤ last → ranks d ≡ rank) → (d : ℕ) → first ≤ d → d < last + 1 → ranks d ≡ rank
level_to first last rank ranks level d low lt = level d low (omega (arith, lt))

pub returns-then-rank-eq0 : goal.returns-then-rank-eq0
returns-then-rank-eq0 c = λ ranks level h.
    let first = c.args.stretch.first.value in
    let last = c.args.stretch.last.value in
    skipped ranks first (last + 1) c.args.rank c.args.ranges.now.items (omega (arith, c.args.stretch.ordered)) (level_to first last c.args.rank ranks level) h c.if-rank-eq0.true

continued : (c : After-index) → Continues c.args.ranges.now.items c.args.stretch.first.value c.args.rank
continued c =
    let P : List RankRange → Type 0 = λ ranges. Continues ranges c.args.stretch.first.value c.args.rank in
    subst P c.deref.ensures.value (c.continues.ensures.0 c.if-continues.true)

place_is : (c : After-index) → c.len-last.result - 1 ≡ length c.args.ranges.now.items - 1
place_is c = omega (arith, c.len-last.ensures, c.args.ranges.now.ok.0)

-- what is read is the last range
read_is : (c : After-index) → c.index.result.now ≡ (continued c).0
read_is c = read_last c.args.ranges.now.items (c.len-last.result - 1) c.index.result.now (continued c).0 c.index.ensures (place_is c) (continued c).1

-- and ends where the stretch begins
read_ends : (c : After-index) → c.index.result.now.first.value + c.index.result.now.size ≡ c.args.stretch.first.value
read_ends c = ap (λ (r : RankRange). r.first.value + r.size) (read_is c) ∙ precedes_ends (continued c).0 c.args.stretch.first.value c.args.rank (continued c).2

pub longer-requires : goal.longer-requires
longer-requires c =
    let d : After-index = (goal.at.longer-requires c).After-index in
    omega (arith, read_ends d, c.size.ensures, c.args.stretch.within)

pub returns-then-continues : goal.returns-then-continues
returns-then-continues c = λ ranks level h.
    let d : After-index = (goal.at.returns-then-continues c).After-index in
    let goes = continued d in
    let first = c.args.stretch.first.value in
    let last = c.args.stretch.last.value in
    let items = c.args.ranges.now.items in
    let starts = c.longer.ensures.first ∙ ap (λ (r : RankRange). r.first.value) (read_is d) in
    let rank = c.longer.ensures.rank ∙ ap (λ (r : RankRange). r.rank) (read_is d) in
    let end : c.longer.result.first.value + c.longer.result.size ≡ last + 1 = omega (arith, c.longer.ensures.first, c.longer.ensures.size, read_ends d, c.size.ensures) in
    let more =
    extended ranks first (last + 1) c.args.rank items (omega (arith, c.args.stretch.ordered)) (level_to first last c.args.rank ranks level) h goes.0 c.longer.result goes.1 goes.2 starts rank end in
    let P : ℕ → Type 0 = λ place. AreLongestRuns (below (last + 1) ranks) (slice_set items place c.longer.result) in
    subst P (sym (place_is d)) more

pub returns : goal.returns
returns c = λ ranks level h.
    let first = c.args.stretch.first.value in
    let last = c.args.stretch.last.value in
    let items = c.args.ranges.now.items in
    let P : List RankRange → Type 0 = λ ranges. Continues ranges first c.args.rank in
    let not_so : ¬ Continues items first c.args.rank = λ goes. false≢true (sym c.if-continues.false ∙ c.continues.ensures.1 (subst P (sym c.deref.ensures.value) goes)) in
    let new = c.range_of in
    rw c.in_ok-push.ensures.items
    (pushed ranks first (last + 1) c.args.rank items (omega (arith, c.args.stretch.ordered)) (level_to first last c.args.rank ranks level) h new.result new.ensures.first new.ensures.rank new.ensures.end not_so)

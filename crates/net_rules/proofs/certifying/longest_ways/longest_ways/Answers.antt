use Rattle.std.{proofs.Common.{◌≡◌, ℕ, ◌+◌, List, length, arith, subst, refl, ap, ◌∙◌, sym}, specs.Prelude.{slice_get}, proofs.lemmas.Bool.{false≢true}, proofs.lemmas.List.{length-replicate}}
use Rattle.net_rules.{specs.LongestWays.{MovesByEither, AreLongestWithin, HasWayOf}, proofs.WayLaws.{none_within, all_none, none_longer, way_of_count, circle_of_way}, proofs.certifying.longest_ways.longest_ways.Goals.{In_ok-more}}
use Rattle.net_rules.proofs.certifying.longest_ways.longest_ways.Goals as goal

pub loop-most-init : goal.loop-most-init
loop-most-init c =
    let counts = c.in_ok-counts.counts.items in
    record {
      long = ap length c.in_ok-counts.ensures ∙ length-replicate {A = ℕ} _ 0;
      within = none_within (MovesByEither c.args.old.now c.args.new.now) counts (all_none _ counts c.in_ok-counts.ensures);
      way = (0, 0, refl);
    }

-- the ways of one move more
more_within : (c : In_ok-more) → AreLongestWithin (MovesByEither c.args.old.now c.args.new.now) (c.loop-most.most + 1) c.in_ok-more.more.items
more_within c =
    let P : List ℕ → Type 0 = AreLongestWithin (MovesByEither c.args.old.now c.args.new.now) c.loop-most.most in
    c.in_ok-more.ensures.more c.loop-most.most (subst P (sym c.deref.ensures.value) c.loop-most.invariant.within)

pub returns-then-not-has_count : goal.returns-then-not-has_count
returns-then-not-has_count c =
    let more = c.in_ok-more.more.items in
    let most = c.loop-most.most in
    none_longer (MovesByEither c.args.old.now c.args.new.now) most (length c.args.old.now) more c.in_ok-more.ensures.long (more_within ((goal.at.returns-then-not-has_count c).In_ok-more))
    (λ found. false≢true (sym c.if-not-has_count.true ∙ c.has_count.ensures.1 (found.0, ap (λ xs. slice_get xs found.0) c.deref-in-loop-most.ensures.value ∙ found.1)))

pub loop-most-preserved : goal.loop-most-preserved
loop-most-preserved c =
    let more = c.in_ok-more.more.items in
    let within = more_within ((goal.at.loop-most-preserved c).In_ok-more) in
    let found = c.has_count.ensures.0 c.if-not-has_count.false in
    record {
      long = c.in_ok-more.ensures.long;
      within = within;
      way = way_of_count (MovesByEither c.args.old.now c.args.new.now) (c.loop-most.most + 1) (c.loop-most.most + 1) more within (found.0, ap (λ xs. slice_get xs found.0) (sym c.deref-in-loop-most.ensures.value) ∙ found.1);
    }

pub returns : goal.returns
returns c =
    let old = c.args.old.now in
    let new = c.args.new.now in
    let at : c.loop-most.most ≡ length old + 1 = omega (arith, c.loop-most-test.false) in
    let P : ℕ → Type 0 = HasWayOf (MovesByEither old new) in
    circle_of_way old new c.requires (subst P at c.loop-most.invariant.way)

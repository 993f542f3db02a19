use Rattle.std.proofs.Common.{◌≡◌, ℕ, ◌+◌, ◌≤◌, length, arith, List, sym, ◌∙◌, subst}
use Rattle.net_rules.{specs.declared.certifying.longest_ways.Longest.{Longest}, specs.declared.certifying.longest_ways.Longest.TheVariants.{Ended}, specs.LongestWays.{IsLongestOrLoop}, specs.RankRuns.{AreNone, AreGrown}, proofs.KnownEnds.{written_whole}, proofs.MoveRankLaws.{AreMixedBelow, mixed_start, mixed_step, mixed_all, longest_small}, proofs.certifying.exact_move_ranks.exact_move_ranks.Goals.{After-stretch_of_both-stretch, In-Ended}}
use Rattle.plan_values.specs.declared.certificate.NodeRanks.{NodeRanks}
use Rattle.net_tables.specs.Routing.{MovesTo}
use Rattle.net_rules.proofs.certifying.exact_move_ranks.exact_move_ranks.Goals as goal

-- all EIDs below the stretch are done
mixed_before : (c : After-stretch_of_both-stretch) → AreMixedBelow c.args.before.now c.args.after.now c.stretch_of_both-stretch.result.first.value c.loop-first.given.items
mixed_before c =
    let P : ℕ → Type 0 = λ e. AreMixedBelow c.args.before.now c.args.after.now e c.loop-first.given.items in
    subst P (sym (c.stretch_of_both-stretch.ensures.starts ∙ c.new.ensures)) c.loop-first.invariant.mixed

ended : (c : In-Ended) → IsLongestOrLoop (MovesTo c.args.before.now c.stretch_of_both-stretch.result.first.value) (MovesTo c.args.after.now c.stretch_of_both-stretch.result.first.value) (length c.args.before.now.nodes.items) (Ended c.in-Ended.moves)
ended c =
    let e = c.stretch_of_both-stretch.result.first.value in
    let P : Longest → Type 0 = IsLongestOrLoop (MovesTo c.args.before.now e) (MovesTo c.args.after.now e) (length c.args.before.now.nodes.items) in
    subst P c.in-Ended.is c.in_ok-moves.ensures

pub loop-first-init : goal.loop-first-init
loop-first-init c =
    let none : AreNone (length c.args.before.now.nodes.items) c.in_ok-given.given.items = (c.in_ok-given.ensures.0 ∙ (c.len.ensures ∙ c.args.before.now.nodes.ok.0), c.in_ok-given.ensures.1) in
    record { within = omega arith; mixed = mixed_start c.args.before.now c.args.after.now c.requires.many c.requires.holders c.requires.in_range c.requires.in_range_after c.in_ok-given.given.items none }

pub add_ranks-requires-clause-small : goal.add_ranks-requires-clause-small
add_ranks-requires-clause-small c =
    let plan = c.args.before.now in
    let longest = ended ((goal.at.add_ranks-requires-clause-small c).In-Ended) in
    let few : length plan.nodes.items ≤ 64 = omega (arith, plan.few_nodes, plan.nodes.ok.0) in
    rw c.deref-in-Ended.ensures.value (longest_small plan c.args.after.now c.requires.many c.requires.holders c.stretch_of_both-stretch.result.first.value c.in-Ended.moves.items few longest.0 longest.1)

pub returns-in-Circled-clause-obstacle : goal.returns-in-Circled-clause-obstacle
returns-in-Circled-clause-obstacle c =
    let e = c.stretch_of_both-stretch.result.first.value in
    let P : Longest → Type 0 = IsLongestOrLoop (MovesTo c.args.before.now e) (MovesTo c.args.after.now e) (length c.args.before.now.nodes.items) in
    record {
      least = (mixed_before ((goal.at.returns-in-Circled-clause-obstacle c).After-stretch_of_both-stretch)).circles;
      picked = subst P c.in-Circled.is c.in_ok-moves.ensures;
    }

pub loop-first-preserved : goal.loop-first-preserved
loop-first-preserved c =
    let before = c.args.before.now in
    let after = c.args.after.now in
    let stretch = c.stretch_of_both-stretch.result in
    let first = stretch.first.value in
    let last = stretch.last.value in
    let moves = c.in-Ended.moves.items in
    let given = c.loop-first.given.items in
    let new = c.add_ranks.new.given in
    let longest = ended ((goal.at.loop-first-preserved c).In-Ended) in
    let P : List ℕ → Type 0 = λ moves. AreGrown first last moves c.deref_mut.result.now new in
    let Q : List NodeRanks → Type 0 = λ old. AreGrown first last moves old new in
    let grown : AreGrown first last moves given new = subst Q c.deref_mut.ensures.value (subst P c.deref-in-Ended.ensures.value c.in_ok-add_ranks-in-Ended.ensures) in
    let below = mixed_before ((goal.at.loop-first-preserved c).After-stretch_of_both-stretch) in
    let more = mixed_step before after c.requires.many c.requires.holders c.requires.in_range c.requires.in_range_after first last given new moves stretch.ordered
    c.stretch_of_both-stretch.ensures.alike c.stretch_of_both-stretch.ensures.alike_after below longest.0 longest.1 grown in
    let R : List NodeRanks → Type 0 = AreMixedBelow before after (last + 1) in
    record {
      within = omega (arith, stretch.within);
      mixed = subst R (sym (written_whole c.loop-first.given.len new given grown.0 c.loop-first.given.ok.0)) more;
    }

pub returns-clause-exact : goal.returns-clause-exact
returns-clause-exact c =
    let at : c.loop-first.first ≡ 255 = omega (arith, c.loop-first.invariant.within, c.loop-first-test.false) in
    let R : ℕ → Type 0 = λ e. AreMixedBelow c.args.before.now c.args.after.now e c.loop-first.given.items in
    mixed_all c.args.before.now c.args.after.now c.requires.many c.requires.holders c.requires.in_range c.requires.in_range_after c.loop-first.given.items _ (subst R at c.loop-first.invariant.mixed) c.keep_ranked.ensures

use Rattle.std.proofs.Common.{◌≡◌, ℕ, ◌+◌, ◌≤◌, length, arith, List, sym, ◌∙◌, subst}
use Rattle.net_rules.{specs.declared.certifying.walks.Walked.{Walked}, specs.declared.certifying.walks.Walked.TheVariants.{Ended}, specs.Circles.{IsWalked}, specs.RankRuns.{AreNone, AreGrown}, specs.Certificates.{AreRoutedBelow}, proofs.KnownEnds.{written_whole}, proofs.RankLaws.{routed_start, routed_step, routed_all, counts_small}, proofs.certifying.exact_ranks.exact_ranks.Goals.{After-stretch_from-stretch, In-Ended}}
use Rattle.plan_values.specs.declared.certificate.NodeRanks.{NodeRanks}
use Rattle.net_tables.specs.Routing.{MovesTo}
use Rattle.net_rules.proofs.certifying.exact_ranks.exact_ranks.Goals as goal

-- all EIDs below the stretch are done
routed_before : (c : After-stretch_from-stretch) → AreRoutedBelow c.args.plan.now c.stretch_from-stretch.result.first.value c.loop-first.given.items
routed_before c =
    let P : ℕ → Type 0 = λ e. AreRoutedBelow c.args.plan.now e c.loop-first.given.items in
    subst P (sym (c.stretch_from-stretch.ensures.starts ∙ c.new.ensures)) c.loop-first.invariant.routed

ended : (c : In-Ended) → IsWalked (MovesTo c.args.plan.now c.stretch_from-stretch.result.first.value) (length c.args.plan.now.nodes.items) (Ended c.in-Ended.moves)
ended c =
    let P : Walked → Type 0 = IsWalked (MovesTo c.args.plan.now c.stretch_from-stretch.result.first.value) (length c.args.plan.now.nodes.items) in
    subst P c.in-Ended.is c.in_ok-moves.ensures

pub loop-first-init : goal.loop-first-init
loop-first-init c =
    let none : AreNone (length c.args.plan.now.nodes.items) c.in_ok-given.given.items = (c.in_ok-given.ensures.0 ∙ (c.len.ensures ∙ c.args.plan.now.nodes.ok.0), c.in_ok-given.ensures.1) in
    record { within = omega arith; routed = routed_start c.args.plan.now c.requires.apart c.requires.in_range c.in_ok-given.given.items none }

pub add_ranks-requires-clause-small : goal.add_ranks-requires-clause-small
add_ranks-requires-clause-small c =
    let plan = c.args.plan.now in
    let walked = ended ((goal.at.add_ranks-requires-clause-small c).In-Ended) in
    let few : length plan.nodes.items ≤ 64 = omega (arith, plan.few_nodes, plan.nodes.ok.0) in
    rw c.deref-in-Ended.ensures.value (counts_small plan c.stretch_from-stretch.result.first.value c.in-Ended.moves.items few walked.0 walked.1)

pub returns-in-Circled-clause-obstacle : goal.returns-in-Circled-clause-obstacle
returns-in-Circled-clause-obstacle c =
    let plan = c.args.plan.now in
    let P : Walked → Type 0 = IsWalked (MovesTo plan c.stretch_from-stretch.result.first.value) (length plan.nodes.items) in
    record {
      least = (routed_before ((goal.at.returns-in-Circled-clause-obstacle c).After-stretch_from-stretch)).circles;
      picked = subst P c.in-Circled.is c.in_ok-moves.ensures;
    }

pub loop-first-preserved : goal.loop-first-preserved
loop-first-preserved c =
    let plan = c.args.plan.now in
    let stretch = c.stretch_from-stretch.result in
    let first = stretch.first.value in
    let last = stretch.last.value in
    let moves = c.in-Ended.moves.items in
    let given = c.loop-first.given.items in
    let new = c.add_ranks.new.given in
    let walked = ended ((goal.at.loop-first-preserved c).In-Ended) in
    let P : List ℕ → Type 0 = λ moves. AreGrown first last moves c.deref_mut.result.now new in
    let Q : List NodeRanks → Type 0 = λ old. AreGrown first last moves old new in
    let grown : AreGrown first last moves given new = subst Q c.deref_mut.ensures.value (subst P c.deref-in-Ended.ensures.value c.in_ok-add_ranks-in-Ended.ensures) in
    let before = routed_before ((goal.at.loop-first-preserved c).After-stretch_from-stretch) in
    let more = routed_step plan c.requires.apart c.requires.in_range first last given new moves stretch.ordered c.stretch_from-stretch.ensures.alike before walked.0 walked.1 grown in
    let R : List NodeRanks → Type 0 = AreRoutedBelow plan (last + 1) in
    record {
      within = omega (arith, stretch.within);
      routed = subst R (sym (written_whole c.loop-first.given.len new given grown.0 c.loop-first.given.ok.0)) more;
    }

pub returns-clause-exact : goal.returns-clause-exact
returns-clause-exact c =
    let at : c.loop-first.first ≡ 255 = omega (arith, c.loop-first.invariant.within, c.loop-first-test.false) in
    let R : ℕ → Type 0 = λ e. AreRoutedBelow c.args.plan.now e c.loop-first.given.items in
    routed_all c.args.plan.now c.loop-first.given.items _ c.requires.apart c.requires.in_range (subst R at c.loop-first.invariant.routed) c.keep_ranked.ensures

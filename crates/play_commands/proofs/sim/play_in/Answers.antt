use Rattle.std.{proofs.Common.{rules, ◌≡◌, length, map, Err, refl, ap, arith}, proofs.lemmas.List.{length-map}}
use Rattle.net_sim.{specs.Networks.{checked_of}, specs.Outcomes.{event_value, outcome_value}}
use Rattle.command_answers.specs.Answers.{stream}
use Rattle.play_commands.proofs.Simulated.{shows_nothing, shows_no_walks, shows_beginning, shows_run, run_text, shows_begun_walks, shows_walks, walks_text, walks_in, cut_short, lines_in, first_lines_in}
use Rattle.command_answers.specs.declared.refused.Refused.TheVariants as refused
use Rattle.play_commands.proofs.sim.play_in.Goals as goal

-- ---- from any state

pub returns-in_err-played-clause-plays : goal.returns-in_err-played-clause-plays
returns-in_err-played-clause-plays g c =
    let ended : c.from_residual.result ≡ Err refused.NoMemory = search rules in
    rw ended (λ w stands. shows_nothing (checked_of c.args.network).0 w _ _ refl)

pub returns-in_err-print_outcomes-clause-plays : goal.returns-in_err-print_outcomes-clause-plays
returns-in_err-print_outcomes-clause-plays g c =
    let tables = (checked_of c.args.network).0 in
    let events = map event_value c.args.events.now in
    let outcomes = c.in_ok-played.played.outcomes.items in
    let why = c.in_err-print_outcomes.field-0.0 in
    let ended : c.from_residual-in_err-print_outcomes.result ≡ Err why = search rules in
    let output = stream g.O.Sink.account c.args.output.now c.print_outcomes.new.output in
    let same = c.plan-plan.ensures in
    rw ended (λ w stands.
    let run = c.in_ok-played.ensures.plays w stands in
    cut_short why _ _ _ _ _ _ output c.in_err-print_outcomes.ensures
    (λ h. shows_beginning tables w events output _ (length outcomes) (map outcome_value outcomes) h.0 run
    (lines_in tables.plan c.plan-plan.result.now outcomes c.deref.result.now h.0 output same c.deref.ensures.value h.1))
    (λ text h. run_text tables w events output _ (length outcomes) (map outcome_value outcomes) text run
    (first_lines_in tables.plan c.plan-plan.result.now outcomes c.deref.result.now text same c.deref.ensures.value h)))

pub returns-then-played-clause-plays : goal.returns-then-played-clause-plays
returns-then-played-clause-plays g c = λ w stands.
    let tables = (checked_of c.args.network).0 in
    let events = map event_value c.args.events.now in
    let outcomes = c.in_ok-played.played.outcomes.items in
    let output = stream g.O.Sink.account c.args.output.now c.print_outcomes.new.output in
    let run = c.in_ok-played.ensures.plays w stands in
    shows_beginning tables w events output _ (length outcomes) (map outcome_value outcomes) (length c.deref.result.now) run
    (lines_in tables.plan c.plan-plan.result.now outcomes c.deref.result.now (length c.deref.result.now) output c.plan-plan.ensures c.deref.ensures.value c.in_ok-print_outcomes.ensures)

pub returns-clause-plays : goal.returns-clause-plays
returns-clause-plays g c = λ w stands.
    let tables = (checked_of c.args.network).0 in
    let events = map event_value c.args.events.now in
    let outcomes = c.in_ok-played.played.outcomes.items in
    let output = stream g.O.Sink.account c.args.output.now c.print_outcomes.new.output in
    let run = c.in_ok-played.ensures.plays w stands in
    let all = c.in_ok-played.ensures.whole c.if-played.false in
    let listed = ap (λ os. length os) c.deref.ensures.value in
    shows_run tables w events output _ (length outcomes) (map outcome_value outcomes) (length c.deref.result.now)
    (omega (arith, all, length-map c.args.events.now event_value)) (omega (arith, listed, length-map outcomes outcome_value)) run
    (lines_in tables.plan c.plan-plan.result.now outcomes c.deref.result.now (length c.deref.result.now) output c.plan-plan.ensures c.deref.ensures.value c.in_ok-print_outcomes.ensures)

-- ---- from the start

pub returns-in_err-played-clause-walks : goal.returns-in_err-played-clause-walks
returns-in_err-played-clause-walks g c =
    let checked = checked_of c.args.network in
    let tables = checked.0 in
    let cert = checked.1 in
    let ended : c.from_residual.result ≡ Err refused.NoMemory = search rules in
    rw ended (λ stands. shows_no_walks tables cert _ _ refl)

pub returns-in_err-print_outcomes-clause-walks : goal.returns-in_err-print_outcomes-clause-walks
returns-in_err-print_outcomes-clause-walks g c =
    let checked = checked_of c.args.network in
    let tables = checked.0 in
    let cert = checked.1 in
    let events = map event_value c.args.events.now in
    let outcomes = c.in_ok-played.played.outcomes.items in
    let why = c.in_err-print_outcomes.field-0.0 in
    let ended : c.from_residual-in_err-print_outcomes.result ≡ Err why = search rules in
    let output = stream g.O.Sink.account c.args.output.now c.print_outcomes.new.output in
    let same = c.plan-plan.ensures in
    rw ended (λ stands.
    let went = walks_in checked checked _ _ _ _ refl stands c.in_ok-played.ensures.walks in
    cut_short why _ _ _ _ _ _ output c.in_err-print_outcomes.ensures
    (λ h. shows_begun_walks tables cert events output _ (length outcomes) (map outcome_value outcomes) h.0 went.0 went.1
    (lines_in tables.plan c.plan-plan.result.now outcomes c.deref.result.now h.0 output same c.deref.ensures.value h.1))
    (λ text h. walks_text tables cert events output _ (length outcomes) (map outcome_value outcomes) text went.0 went.1
    (first_lines_in tables.plan c.plan-plan.result.now outcomes c.deref.result.now text same c.deref.ensures.value h)))

pub returns-then-played-clause-walks : goal.returns-then-played-clause-walks
returns-then-played-clause-walks g c = λ stands.
    let checked = checked_of c.args.network in
    let tables = checked.0 in
    let cert = checked.1 in
    let events = map event_value c.args.events.now in
    let outcomes = c.in_ok-played.played.outcomes.items in
    let output = stream g.O.Sink.account c.args.output.now c.print_outcomes.new.output in
    let went = walks_in checked checked _ _ _ _ refl stands c.in_ok-played.ensures.walks in
    shows_begun_walks tables cert events output _ (length outcomes) (map outcome_value outcomes) (length c.deref.result.now) went.0 went.1
    (lines_in tables.plan c.plan-plan.result.now outcomes c.deref.result.now (length c.deref.result.now) output c.plan-plan.ensures c.deref.ensures.value c.in_ok-print_outcomes.ensures)

pub returns-clause-walks : goal.returns-clause-walks
returns-clause-walks g c = λ stands.
    let checked = checked_of c.args.network in
    let tables = checked.0 in
    let cert = checked.1 in
    let events = map event_value c.args.events.now in
    let outcomes = c.in_ok-played.played.outcomes.items in
    let output = stream g.O.Sink.account c.args.output.now c.print_outcomes.new.output in
    let went = walks_in checked checked _ _ _ _ refl stands c.in_ok-played.ensures.walks in
    let all = c.in_ok-played.ensures.whole c.if-played.false in
    let listed = ap (λ os. length os) c.deref.ensures.value in
    shows_walks tables cert events output _ (length outcomes) (map outcome_value outcomes) (length c.deref.result.now)
    (omega (arith, all, length-map c.args.events.now event_value)) (omega (arith, listed, length-map outcomes outcome_value)) went.0 went.1
    (lines_in tables.plan c.plan-plan.result.now outcomes c.deref.result.now (length c.deref.result.now) output c.plan-plan.ensures c.deref.ensures.value c.in_ok-print_outcomes.ensures)

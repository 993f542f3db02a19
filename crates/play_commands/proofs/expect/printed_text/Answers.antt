use Rattle.std.proofs.Common.{◌≡◌, Result, Ok, Err, IfOk, ℕ, List, map, inl, subst, string_bytes}
use Rattle.plan_values.{specs.declared.certificate.Certificate.{Certificate}, specs.declared.plan.Plan.{Plan}}
use Rattle.net_rules.specs.Rules.{Accepts}
use Rattle.net_runs.specs.Walkers.{WalkedEvent}
use Rattle.net_sim.{specs.Outcomes.{event_value}, proofs.PlayedWalks.{promised}}
use Rattle.net_tables.specs.TwoPlans.{one_plan}
use Rattle.play_commands.{specs.Expecting.{given_only, IsPrinted}, specs.Simulating.{ShowsWalks}}
use Rattle.play_commands.proofs.expect.printed_text.Goals as goal

printed : {T E : Type 0} (plan : Plan) (cert : Certificate) (checked : Plan × Certificate) (events : List WalkedEvent) (text : T → List ℕ) (result : Result T E) → checked ≡ (plan, cert)
    → Accepts plan cert → IfOk result (λ t. ShowsWalks (one_plan checked.0) checked.1 events (given_only (text t))) → IfOk result (λ t. IsPrinted plan cert events (text t))
printed plan cert checked events text (Ok t) same accepted shown =
    let P : Plan × Certificate → Type 0 = λ p. ShowsWalks (one_plan p.0) p.1 events (given_only (text t)) in
    inl (accepted, promised (one_plan plan) cert accepted, subst P same shown)
printed plan cert checked events text (Err e) same accepted shown = tt

pub returns-in-Ok-clause-text : goal.returns-in-Ok-clause-text
returns-in-Ok-clause-text c =
    printed c.args.plan.now c.args.certificate.now c.in-Ok.checked (map event_value c.args.events.now) (λ t. string_bytes t) c.played_text.result
    c.in-Ok.ensures.checked c.in-Ok.ensures.accepted c.played_text.ensures.text

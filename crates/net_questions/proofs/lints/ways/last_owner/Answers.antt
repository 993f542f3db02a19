use Rattle.std.{proofs.Common.{ℕ, sym, subst, ap, ◌∙◌, Some, arith, add-one, length}, proofs.lemmas.Option.{same_Some, none-some}}
use Rattle.net_rules.{specs.Moves.{IsEnd}, proofs.Circling.{one_more}, proofs.LevelLaws.{one_owner, owner_within}, proofs.Lines.{end_is_near}}
use Rattle.net_tables.specs.Ownership.{IsOwnedBy}
use Rattle.net_questions.{specs.Lint.{OwnersEndAt}, proofs.Walks.{leads_on, one_end}}
use Rattle.net_questions.proofs.lints.ways.last_owner.Goals as goal

pub returns-in-None : goal.returns-in-None
returns-in-None c =
    let plan = c.args.plan.now in
    let last = c.loop-owners.last in
    let ends : IsEnd (IsOwnedBy plan) last = λ p owned. none-some p (c.in-None.ensures ∙ owned) in
    λ top. (
      λ is. subst (λ (m : ℕ). OwnersEndAt plan c.args.node m) (same_Some last top is) (c.loop-owners._owners, c.loop-owners.invariant, ends),
      λ (k, way, stops). ap Some (one_end (IsOwnedBy plan) (one_owner plan) c.args.node c.loop-owners._owners last k top c.loop-owners.invariant ends way stops),
    )

pub loop-owners-preserved : goal.loop-owners-preserved
loop-owners-preserved c =
    rw add-one (one_more (IsOwnedBy c.args.plan.now) c.args.node c.loop-owners._owners c.loop-owners.last c.in-Some.owner c.loop-owners.invariant (sym c.in-Some.ensures))

pub returns : goal.returns
returns c =
    let plan = c.args.plan.now in
    let count = length plan.nodes.items in
    λ top. (
      λ is. absurd (none-some top is),
      λ (k, way, stops). (
          let near = end_is_near (IsOwnedBy plan) count (owner_within plan) (one_owner plan) c.args.node k c.requires (top, way, stops) in
          let on = leads_on (IsOwnedBy plan) (one_owner plan) c.args.node k top c.loop-owners._owners c.loop-owners.last way c.loop-owners.invariant (omega (arith, near)) in
          absurd (stops on.0 on.1)),
    )

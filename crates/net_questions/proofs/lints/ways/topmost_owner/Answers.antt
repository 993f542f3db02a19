use Rattle.std.{proofs.Common.{◌≡◌, ℕ, sym, subst, ◌∙◌}, proofs.lemmas.Option.{none-some}}
use Rattle.net_rules.{specs.Moves.{Leads}, proofs.LevelLaws.{one_owner, owner_within}}
use Rattle.net_tables.specs.Ownership.{IsOwnedBy}
use Rattle.net_questions.proofs.lints.ways.topmost_owner.Goals as goal

pub last_owner-requires : goal.last_owner-requires
last_owner-requires c = owner_within c.args.plan.now c.args.node c.in-Some.owner (sym c.in-Some.ensures)

pub returns-in-Some : goal.returns-in-Some
returns-in-Some c =
    let plan = c.args.plan.now in
    let owner = c.in-Some.owner in
    λ top. (
      λ is. (let (k, way, ends) = (c.last_owner.ensures top).0 is in (k, (owner, sym c.in-Some.ensures, way), ends)),
      λ (k, way, ends). (
          let same : way.0 ≡ owner = one_owner plan c.args.node way.0 owner way.1 (sym c.in-Some.ensures) in
          (c.last_owner.ensures top).1 (k, subst (λ (m : ℕ). Leads (IsOwnedBy plan) m k top) same way.2, ends)),
    )

pub returns-in-None : goal.returns-in-None
returns-in-None c = λ top. (λ is. absurd (none-some top is), λ (k, way, ends). absurd (none-some way.0 (c.in-None.ensures ∙ way.1)))

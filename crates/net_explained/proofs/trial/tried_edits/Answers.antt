use Rattle.std.{proofs.Common.{◌≡◌, ◌≢◌, ◌⊎◌, ◌≤◌, ◌++◌, ◌∷◌, [], List, inl, inr, Bool, true, false, not, Option, Some, None, is_some, refl, length, subst, sym, rules}, proofs.lemmas.List.Elements.{All-push}, specs.List.{All}}
use Rattle.plan_values.specs.PlanValues.{plan_value}
use Rattle.net_rules.specs.declared.certify_error.CertifyError.{CertifyError}
use Rattle.net_explained.{specs.Obstacles.{IsTried}, specs.declared.trial.Tried.{Tried}}
use Rattle.net_explained.proofs.trial.tried_edits.Goals as goal

none_left : (o : Option CertifyError) (b : Bool) → is_some o ≡ not b → b ≡ true → o ≡ None
none_left None b is so = refl
none_left (Some e) b is so = absurd (cc (is, so))

some_left : (o : Option CertifyError) (b : Bool) → is_some o ≡ not b → b ≡ false → o ≢ None
some_left None b is so none = absurd (cc (is, so))
some_left (Some e) b is so none = absurd (cc none)

either : (Q : List Tried → Type 0) (told whole partial : List Tried) → (told ≡ whole) ⊎ ((length whole ≡ 0) × (told ≡ partial)) → Q whole → Q partial → Q told
either Q told whole partial (inl is) one other = subst Q (sym is) one
either Q told whole partial (inr (none, is)) one other = subst Q (sym is) other

pub returns-clause-all : goal.returns-clause-all
returns-clause-all c =
    let P : Tried → Type 0 = IsTried (plan_value c.args.plan.now) c.args.obstacle.now in
    either (All P) _ _ _ c.best_of.ensures c.loop-edit.invariant.0 c.loop-edit.invariant.1

pub loop-edit-preserved-in-Continue-branch-4 : goal.loop-edit-preserved-in-Continue-branch-4
loop-edit-preserved-in-Continue-branch-4 c =
    let P : Tried → Type 0 = IsTried (plan_value c.args.plan.now) c.args.obstacle.now in
    let inv = c.loop-edit.invariant in
    let Leaves : Tried → Type 0 = λ t. t.left ≡ None in
    let so : P c.in-Some-2.tried = rw c.in-Some-2.is at c.in_ok-tried.ensures in
    let items : c.push.new.self.items ≡ c.loop-edit.whole.items ++ c.in-Some-2.tried ∷ [] = c.in_ok-push.ensures.items in
    let short : length c.push.new.self.items ≤ 3 = search rules in (
      subst (All P) (sym items) (All-push P c.loop-edit.whole.items c.in-Some-2.tried inv.0 so),
      inv.1,
      short,
      inv.3,
      subst (All Leaves) (sym items) (All-push Leaves c.loop-edit.whole.items c.in-Some-2.tried inv.4 (none_left _ _ c.is_none.ensures c.if-is_none.true)),
      inv.5,
    )

pub loop-edit-preserved-in-Continue-branch-5 : goal.loop-edit-preserved-in-Continue-branch-5
loop-edit-preserved-in-Continue-branch-5 c =
    let P : Tried → Type 0 = IsTried (plan_value c.args.plan.now) c.args.obstacle.now in
    let inv = c.loop-edit.invariant in
    let Leaves : Tried → Type 0 = λ t. t.left ≢ None in
    let so : P c.in-Some-2.tried = rw c.in-Some-2.is at c.in_ok-tried.ensures in
    let items : c.push-then-len-lt-MOST_EDITS.new.self.items ≡ c.loop-edit.partial.items ++ c.in-Some-2.tried ∷ [] = c.in_ok-push-2.ensures.items in
    let short : length c.push-then-len-lt-MOST_EDITS.new.self.items ≤ 3 = search rules in (
      inv.0,
      subst (All P) (sym items) (All-push P c.loop-edit.partial.items c.in-Some-2.tried inv.1 so),
      inv.2,
      short,
      inv.4,
      subst (All Leaves) (sym items) (All-push Leaves c.loop-edit.partial.items c.in-Some-2.tried inv.5 (some_left _ _ c.is_none.ensures c.if-is_none.false)),
    )

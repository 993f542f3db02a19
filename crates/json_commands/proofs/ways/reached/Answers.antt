use Rattle.std.proofs.Common.{◌≡◌, List, refl, subst}
use Rattle.serde_json.specs.View.{view}
use Rattle.plan_values.specs.declared.plan.Plan.{Plan}
use Rattle.net_questions.specs.declared.pair.Pair.{Pair}
use Rattle.json_commands.{specs.Values.{IsListTold}, specs.Ways.{pair_data}}
use Rattle.json_commands.proofs.ways.reached.Goals as goal

pub returns : goal.returns
returns c =
    let pairs = c.in_ok-pairs.pairs.items in
    let told = view c.in_ok-told.told in
    let Are : Plan → List Pair → Type 0 = λ p xs. IsListTold (λ pair d. d ≡ pair_data p pair) xs told in
    let each = subst (λ (p : Plan). Are p pairs) c.plan.ensures.plan (subst (Are c.plan.result.now) c.deref.ensures.value c.in_ok-told.ensures) in
    (refl, (pairs, told, c.in_ok-pairs.ensures, each, c.in_ok-value.ensures))

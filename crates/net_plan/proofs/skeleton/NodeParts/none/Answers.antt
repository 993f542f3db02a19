use Rattle.std.proofs.Common.{◌≡◌, [], codes, None, sym, subst, rules}
use Rattle.json.{specs.Json.{no_members}, specs.Value.{members_view}}
use Rattle.net_plan.specs.Skeleton.{AreStandIns, IsCutRows}
use Rattle.net_plan.proofs.skeleton.NodeParts.none.Goals as goal

pub returns : goal.returns
returns c =
    let none : c.new-found.result.items ≡ [] = search rules in
    (no_members, tt, subst (λ found. AreStandIns (codes "rows") (IsCutRows None) no_members (members_view found)) (sym none) tt)

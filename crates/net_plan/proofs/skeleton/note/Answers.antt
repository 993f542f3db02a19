use Rattle.std.proofs.Common.{◌≡◌, ◌++◌, [], ◌∷◌, ap, ◌∙◌, rules}
use Rattle.json.specs.Value.{members_view}
use Rattle.net_plan.proofs.StandIns.{view_last}
use Rattle.net_plan.proofs.skeleton.note.Goals as goal

pub returns : goal.returns
returns c =
    let old = c.args.found.now.items in
    let pushed : c.push.new.self.items ≡ old ++ (c.args.key, c.args.value) ∷ [] = search rules in
    ap members_view pushed ∙ view_last old c.args.key c.args.value

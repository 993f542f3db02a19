use Rattle.std.proofs.Common.{List, ℕ, string_bytes, subst}
use Rattle.fault_texts.specs.Places.{IsPlaceTold, obstacle_pointer}
use Rattle.explain_commands.proofs.Explained.{there_written}
use Rattle.explain_commands.proofs.explain.told_there.Goals as goal

pub returns : goal.returns
returns c =
    let plan = c.args.given.now.plan in
    let obstacle = c.args.obstacle.now in
    let name = c.args.name.now in
    let place = string_bytes c.in_ok-place.place in
    let placed = subst (λ (t : List ℕ). IsPlaceTold name t (obstacle_pointer plan obstacle) place) c.as_slice.ensures.value c.in_ok-place.ensures in
    there_written string_bytes name c.args.given.now.text.items plan obstacle place c.args.told.now (string_bytes c.in_ok-more.more)
    c.format.result placed c.requires c.in_ok-more.ensures c.format.ensures.ok

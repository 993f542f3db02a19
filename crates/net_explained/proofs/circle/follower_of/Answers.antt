use Rattle.std.{proofs.Common.{◌∙◌, ap, sym}, specs.Prelude.{option_and_then}}
use Rattle.net_explained.{specs.Followers.{record_of_handle}, proofs.FollowersOf.{follower_at}}
use Rattle.net_explained.proofs.circle.follower_of.Goals as goal

pub returns-in-Some : goal.returns-in-Some
returns-in-Some c =
    let records = c.args.records.now in
    c.record_of_handle.ensures ∙ (ap (λ o. option_and_then (record_of_handle records) o) c.in-Some.ensures ∙ sym (follower_at records c.args.index))

pub returns-in-None : goal.returns-in-None
returns-in-None c =
    let records = c.args.records.now in
    ap (λ o. option_and_then (record_of_handle records) o) c.in-None.ensures ∙ sym (follower_at records c.args.index)

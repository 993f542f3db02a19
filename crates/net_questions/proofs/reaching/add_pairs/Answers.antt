use Rattle.std.proofs.Common.{◌++◌, ◌∙◌, ap}
use Rattle.net_questions.{specs.Reaching.{hops_in, pair_between}, proofs.Listing.{flat_map_range_more}}
use Rattle.net_questions.proofs.reaching.add_pairs.Goals as goal

pub loop-to-preserved : goal.loop-to-preserved
loop-to-preserved c =
    let f = pair_between (hops_in c.args.hops.now) c.args.from in
    c.in_ok-add_pair.ensures ∙ (ap (λ ps. ps ++ f c.loop-to.to) c.loop-to.invariant ∙ flat_map_range_more f c.args.pairs.now.items c.loop-to.to)

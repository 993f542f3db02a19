use Rattle.std.{proofs.Common.{◌≡◌, ◌+◌, get_or, sym, ap, ◌∙◌}, proofs.lemmas.Grind.{get_or_default_zero}}
use Rattle.mctp_transport.specs.Packets.{key_value}
use Rattle.net_sim.proofs.Counting.{counted, not_counted}
use Rattle.net_sim.proofs.key_counts.KeyCounts.enter.Goals as goal

pub returns-in-Some : goal.returns-in-Some
returns-in-Some c =
    let now = c.args.self.now in
    let read : c.index_mut.result.now ≡ get_or now.counts.items c.in-Some.place 0 = c.index_mut.ensures.value ∙ get_or_default_zero now.counts.items c.in-Some.place _ c.in-Some.ensures.0 in
    counted now.sources now.destinations now.counts.items (key_value c.args.key) c.args.destination.value (λ n. n + 1) c.in-Some.place (c.index_mut.result.now + 1) c.args.key.tag.in_range c.in-Some.ensures.1 c.in-Some.ensures.0
    (ap (λ n. n + 1) (sym read))

pub returns-in_default : goal.returns-in_default
returns-in_default c =
    let now = c.args.self.now in
    not_counted now.sources now.destinations now.counts.items (key_value c.args.key) c.args.destination.value (λ n. n + 1) c.in_default.ensures

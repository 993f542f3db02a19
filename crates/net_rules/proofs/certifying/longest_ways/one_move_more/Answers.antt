use Rattle.std.proofs.Common.{◌≡◌, ℕ, length, arith, subst}
use Rattle.net_rules.proofs.WayLaws.{AreOneMore, one_more_within}
use Rattle.net_rules.proofs.certifying.longest_ways.one_move_more.Goals as goal

pub returns-clause-more : goal.returns-clause-more
returns-clause-more c = λ most are.
    let old = c.args.old.now in
    let new = c.args.new.now in
    let counts = c.args.counts.now in
    let more = c.loop-index.more.items in
    let at : c.loop-index.index ≡ length old = omega (arith, c.loop-index-test.false) in
    let P : ℕ → Type 0 = λ places. AreOneMore old new counts places more in
    one_more_within old new c.requires.tables most counts c.requires.counts are more (subst P at c.loop-index.invariant)

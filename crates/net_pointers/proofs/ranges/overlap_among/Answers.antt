use Rattle.std.{proofs.Common.{◌≡◌, codes, true, arith, refl, rules}, proofs.lemmas.Grind.{common_steps}}
use Rattle.serde_json.specs.Find.{get}
use Rattle.net_plan.specs.Trees.{view}
use Rattle.net_pointers.{specs.Ascending.{list_ascends}, proofs.Overlaps.{among_more, first_among}}
use Rattle.net_pointers.proofs.ranges.overlap_among.Goals as goal

pub loop-entry-preserved : goal.loop-entry-preserved
loop-entry-preserved c =
    let x = c.index-entries-entry.result in
    let up : list_ascends (get (codes "ranges") (view x)) ≡ true = search rules in
    (grind (arith, common_steps), among_more c.args.entries.now c.loop-entry.entry x c.loop-entry-test.true c.index-entries-entry.is up c.loop-entry.invariant.1)

pub returns-in-Some-clause-found : goal.returns-in-Some-clause-found
returns-in-Some-clause-found c = first_among c.args.entries.now c.loop-entry.entry c.in-Some.range c.index-entries-entry.result _ refl refl c.loop-entry-test.true c.index-entries-entry.is c.loop-entry.invariant.1 c.in-Some.ensures.found

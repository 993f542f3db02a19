use Rattle.std.{proofs.Common.{◌<◌, length, Some, sym, ◌∙◌, rules}, proofs.lemmas.List.{length-set}}
use Rattle.net_rules.{specs.Circles.{MovesBy}, proofs.KnownEnds.{knows_more, ends_nearer}}
use Rattle.net_rules.proofs.certifying.walks.note_moves.Goals as goal

pub loop-known-preserved : goal.loop-known-preserved
loop-known-preserved c =
    let within : c.loop-known.at < length c.loop-known.known = search rules in
    record {
      long = length-set c.loop-known.known c.loop-known.at (Some c.loop-known.left) ∙ c.loop-known.invariant.long;
      known = knows_more (MovesBy c.args.table.now) c.loop-known.known c.loop-known.at c.loop-known.left within c.loop-known.invariant.known c.loop-known.invariant.ends;
      ends = (ends_nearer c.args.table.now c.loop-known.at c.in-Some.next c.loop-known.left c.loop-known.invariant.ends (sym c.in-Some.ensures)).1;
    }

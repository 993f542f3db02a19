use Rattle.bus_captures.specs.Values.{entry_value}
use Rattle.heard_captures.{specs.Sights.{seen_of}, proofs.HearingLaws.{heard_so}}
use Rattle.heard_captures.proofs.messages.hear.Goals as goal

pub returns : goal.returns
returns c = heard_so c.args.unit _ _ _ _ _ _ (entry_value c.args.entry.now) (seen_of c.in_ok-sight.sight) c.add_ended.result c.in_ok-sight.ensures c.add_ended.ensures

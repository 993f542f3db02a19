use Rattle.std.proofs.Common.{ap, drop, option_map}
use Rattle.json.specs.Value.{value_view}
use Rattle.reading_texts.proofs.DoubledTold.{path_done}
use Rattle.reading_texts.proofs.twice.path_text.Goals as goal

pub returns-in_default : goal.returns-in_default
returns-in_default c =
    path_done _ _ (drop c.loop-index.index-index c.args.path.now) _ (ap (option_map (λ v. value_view v.now)) c.in_default.is) c.loop-index.invariant

use Rattle.std.proofs.Common.{rules, map, string_bytes, take, sym, subst}
use Rattle.verify_commands.{specs.Runs.{AreNames}, proofs.Named.{one_more, once_more}}
use Rattle.verify_commands.proofs.names.each_once.Goals as goal

pub loop-index-preserved : goal.loop-index-preserved
loop-index-preserved c =
    subst (λ names. AreNames names (map string_bytes c.add_once.new.names.items)) (sym (one_more c.args.names.now c.loop-index.index c.index-names-index.result c.loop-index-test.true c.index-names-index.is))
    (once_more (take c.loop-index.index (map string_bytes c.args.names.now)) _ _ (string_bytes c.index-names-index.result) c.loop-index.invariant (search rules))

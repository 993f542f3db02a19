use Rattle.std.proofs.Common.{rules, map, string_bytes, take, sym, subst}
use Rattle.verify_commands.{specs.Runs.{AreStems}, proofs.Named.{one_more, stem_more}}
use Rattle.verify_commands.proofs.names.stems_of.Goals as goal

pub loop-index-preserved : goal.loop-index-preserved
loop-index-preserved c =
    subst (λ files. AreStems files (map string_bytes c.add_stem.new.stems.items)) (sym (one_more c.args.files.now c.loop-index.index c.index-files-index.result c.loop-index-test.true c.index-files-index.is))
    (stem_more (take c.loop-index.index (map string_bytes c.args.files.now)) _ _ (string_bytes c.index-files-index.result) c.loop-index.invariant (search rules))

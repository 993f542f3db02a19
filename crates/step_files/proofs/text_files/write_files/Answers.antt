use Rattle.std.proofs.Common.{◌<◌, length, arith}
use Rattle.step_files.proofs.Adding.{wrote_more}
use Rattle.step_files.proofs.text_files.write_files.Goals as goal

pub loop-index-preserved : goal.loop-index-preserved
loop-index-preserved g c =
    let texts = c.args.texts.now in
    let k = c.loop-index.index in
    let within : k < length texts = omega arith in
    wrote_more _ _ _ texts k c.index-texts-index.result within c.index-texts-index.is c.loop-index.invariant c.in_ok-write_one.ensures.written

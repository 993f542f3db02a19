use Rattle.std.{proofs.Common.{map, arith}, proofs.lemmas.List.{length-map}}
use Rattle.record_fields.specs.Meanings.{named_of}
use Rattle.board_kept.proofs.Named.{named_more, named_all}
use Rattle.board_kept.proofs.fields.fields_of.Goals as goal

pub loop-index-preserved : goal.loop-index-preserved
loop-index-preserved c = named_more c.args.name.now (map named_of c.args.fields.now) (map named_of c.loop-index.own.items)
    (map named_of c.add_at.new.own.items) c.loop-index.index (omega (arith, length-map c.args.fields.now named_of, c.loop-index-test.true))
    c.loop-index.invariant c.in_ok-add_at.ensures

pub returns : goal.returns
returns c = named_all c.args.name.now (map named_of c.args.fields.now) (map named_of c.loop-index.own.items) c.loop-index.index
    (omega (arith, length-map c.args.fields.now named_of, c.loop-index-test.false)) c.loop-index.invariant

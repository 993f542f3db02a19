use Rattle.std.{proofs.Common.{rules, ◌≡◌, None, map, subst, sym, arith}, proofs.lemmas.List.{length-map}}
use Rattle.toml.specs.View.{view}
use Rattle.record_fields.specs.Meanings.{named_of}
use Rattle.board_kept.{specs.Fields.{IsSaidAt, value_at}, proofs.More.{one_more}, proofs.Named.{said_whole}}
use Rattle.board_kept.proofs.fields.are_said.Goals as goal

pub loop-index-preserved : goal.loop-index-preserved
loop-index-preserved c = one_more (λ i. IsSaidAt c.args.plan.now c.args.name.now (map named_of c.args.own.now) (view c.args.value.now) i)
    c.loop-index.index c.loop-index.invariant (c.in_ok-is_said_at.ensures (search rules))

pub returns : goal.returns
returns c = λ yes. said_whole c.args.plan.now c.args.name.now (map named_of c.args.own.now) (view c.args.value.now) c.loop-index.index
    (omega (arith, length-map c.args.own.now named_of, c.loop-index-test.false)) c.loop-index.invariant
    (subst (λ n. value_at n (view c.args.value.now) ≡ None) (sym (length-map c.args.own.now named_of)) (c.has_no_value.ensures yes))

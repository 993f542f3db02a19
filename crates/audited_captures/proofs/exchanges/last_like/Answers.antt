use Rattle.std.proofs.Common.{sym, ◌∙◌, arith}
use Rattle.audited_captures.{specs.Words.{word_value}, specs.Exchanges.{is_like}, proofs.ExchangeLaws.{last_passes, last_fails}}
use Rattle.audited_captures.proofs.exchanges.last_like.Goals as goal

pub returns-then-is_like : goal.returns-then-is_like
returns-then-is_like c =
    let test = is_like c.args.likeness (word_value c.args.word.now) in
    last_passes word_value test c.args.before.now c.loop-at.at c.index-before-at.result (omega (arith, c.loop-at-test.true)) c.loop-at.invariant.0 c.index-before-at.is
    (sym c.is_like.ensures ∙ c.if-is_like.true)
    ∙ sym c.loop-at.invariant.1

pub loop-at-preserved : goal.loop-at-preserved
loop-at-preserved c =
    let test = is_like c.args.likeness (word_value c.args.word.now) in (
      omega (arith, c.loop-at.invariant.0),
      c.loop-at.invariant.1 ∙ last_fails word_value test c.args.before.now c.loop-at.at c.index-before-at.result (omega (arith, c.loop-at-test.true)) c.loop-at.invariant.0 c.index-before-at.is
          (sym c.is_like.ensures ∙ c.if-is_like.false),
    )

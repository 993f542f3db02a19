use Rattle.std.{proofs.Common.{sym, ◌∙◌, arith, inl, inr}, proofs.lemmas.Bool.{false≢true, cases_lt}}
use borrow.Author.Count.{below_more}
use Rattle.net_rules.{specs.Circles.{MovesBy, IsOnCircle}, proofs.Circling.{table_within}}
use Rattle.net_rules.proofs.certifying.walks.first_on_circle.Goals as goal

pub returns-then-is_on_circle : goal.returns-then-is_on_circle
returns-then-is_on_circle c = (
  c.is_on_circle.ensures.0 c.if-is_on_circle.true,
  λ n circle. elim (cases_lt n c.loop-index.index) [ inl before ↦ absurd (c.loop-index.invariant n before circle) | inr le ↦ le ],
)

pub loop-index-preserved : goal.loop-index-preserved
loop-index-preserved c =
    below_more (λ n. ¬ IsOnCircle (MovesBy c.args.table.now) n) c.loop-index.index c.loop-index.invariant
    (λ circle. false≢true (sym c.if-is_on_circle.false ∙ c.is_on_circle.ensures.1 circle))

pub returns : goal.returns
returns c = λ n circle. c.loop-index.invariant n (omega (arith, table_within c.args.table.now n circle.1.0 circle.1.1)) circle

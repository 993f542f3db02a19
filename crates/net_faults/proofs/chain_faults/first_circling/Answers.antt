use Rattle.std.proofs.Common.{List, Option, ℕ, MatchOption, subst}
use Rattle.net_rules.specs.Circles.{MovesBy, HasNoCircle, IsLeastOnCircle}
use Rattle.net_faults.proofs.RecordLaws.{none_circles, circles_there}
use Rattle.net_faults.proofs.chain_faults.first_circling.Goals as goal

pub returns-then-heights_fall : goal.returns-then-heights_fall
returns-then-heights_fall c =
    let before = c.in_ok-before.before.items in
    let none : HasNoCircle (MovesBy before) = subst (λ (t : List (Option ℕ)). HasNoCircle (MovesBy t)) c.deref-2.ensures.value (c.heights_fall.ensures c.if-heights_fall.true) in
    none_circles c.args.records.now c.args.nexts.now c.requires.nexts c.requires.apart before c.in_ok-before.ensures none

pub returns : goal.returns
returns c =
    let before = c.in_ok-before.before.items in
    let found = c.in_ok-first_on_circle.field-0 in
    let there : MatchOption found (HasNoCircle (MovesBy before)) (IsLeastOnCircle (MovesBy before)) =
    subst (λ (t : List (Option ℕ)). MatchOption found (HasNoCircle (MovesBy t)) (IsLeastOnCircle (MovesBy t))) c.deref-4.ensures.value c.in_ok-first_on_circle.ensures in
    circles_there c.args.records.now c.args.nexts.now c.requires.nexts c.requires.apart before c.in_ok-before.ensures found there

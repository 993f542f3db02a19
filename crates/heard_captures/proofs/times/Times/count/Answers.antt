use Rattle.std.{proofs.Common.{◌≡◌, ◌+◌, ◌∙◌, ap, subst, sym, refl, arith}, specs.Prelude.{Some, unwrap_or}, specs.BTreeMap.{Updates, get}}
use Rattle.heard_captures.{specs.Places.{pair_of, pair_cmp}, proofs.TimesLaws.{is_first, is_repeated}}
use Rattle.heard_captures.proofs.times.Times.count.Goals as goal

pub returns-then-more-self : goal.returns-then-more-self
returns-then-more-self c =
    let old = c.args.self.now in
    let before = c.times_on-before.result in
    let more = c.in-Some.more in
    let one_more : more ≡ before + 1 = grind (arith, c.in-Some.ensures) in
    let was : unwrap_or (get pair_cmp old.on (pair_of c.args.interface)) 0 ≡ before =
    ap (λ k. unwrap_or (get pair_cmp old.on k) 0) (sym c.pair_of-pair.ensures) ∙ sym c.times_on-before.ensures in
    is_repeated old _ c.args.interface before was more one_more
    (subst (λ k. Updates pair_cmp old.on c.insert.new.self k (Some more)) c.pair_of-pair.ensures c.in_ok-insert.ensures.updates) c.if-more-self.true refl

pub returns : goal.returns
returns c =
    let old = c.args.self.now in
    let before = c.times_on-before.result in
    let more = c.in-Some.more in
    let one_more : more ≡ before + 1 = grind (arith, c.in-Some.ensures) in
    let was : unwrap_or (get pair_cmp old.on (pair_of c.args.interface)) 0 ≡ before =
    ap (λ k. unwrap_or (get pair_cmp old.on k) 0) (sym c.pair_of-pair.ensures) ∙ sym c.times_on-before.ensures in
    is_first old _ c.args.interface before was more one_more
    (subst (λ k. Updates pair_cmp old.on c.insert.new.self k (Some more)) c.pair_of-pair.ensures c.in_ok-insert.ensures.updates) (omega (arith, c.if-more-self.false)) refl

use Rattle.std.proofs.Common.{◌≡◌, ℕ, Bool, ◌||◌, length, arith, subst, ◌∙◌, refl}
use Rattle.net_rules.{specs.Circles.{next_in}, specs.MixedLoops.{leads_to_mark}, proofs.LoopLaws.{AreTested, tested_pushed, back_is_marked}}
use Rattle.net_rules.proofs.certifying.mixed_loops.one_move_back.Goals as goal

pub returns-clause-marked : goal.returns-clause-marked
returns-clause-marked c =
    let old = c.args.old.now in
    let new = c.args.new.now in
    let marks = c.args.marks.now in
    let back = c.loop-index.back.items in
    let at : c.loop-index.index ≡ length old = omega (arith, c.loop-index-test.false) in
    let P : ℕ → Type 0 = λ places. AreTested (λ n. leads_to_mark marks (next_in old n) || leads_to_mark marks (next_in new n)) places back in
    back_is_marked old new marks back c.requires (subst P at c.loop-index.invariant)

pub loop-index-preserved : goal.loop-index-preserved
loop-index-preserved c =
    let old = c.args.old.now in
    let new = c.args.new.now in
    let marks = c.args.marks.now in
    let test : ℕ → Bool = λ n. leads_to_mark marks (next_in old n) || leads_to_mark marks (next_in new n) in
    let is : c.one_leads_to_mark.result ≡ test c.loop-index.index = c.one_leads_to_mark.ensures ∙ rw c.next_of.ensures (rw c.next_of-in-loop-index.ensures refl) in
    rw c.in_ok-push.ensures.items (tested_pushed test c.loop-index.index c.one_leads_to_mark.result c.loop-index.back.items c.loop-index.invariant is)

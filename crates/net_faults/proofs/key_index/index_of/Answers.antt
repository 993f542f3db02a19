use Rattle.std.{proofs.Common.{ℕ, Option, arith, sym, subst, ◌∙◌, get_or}, proofs.lemmas.Option.{slice_get-get_or}}
use Rattle.net_faults.{proofs.IndexLaws.{SaysBelow, index_new, index_kept, index_done, is_none_tells}, proofs.key_index.index_of.Goals.{then-is_none+in_ok-insert, else-is_none}}
use Rattle.net_faults.proofs.key_index.index_of.Goals as goal

pub loop-at-init : goal.loop-at-init
loop-at-init c = λ key. (
    let P : Option ℕ → Type 0 = λ o. SaysBelow c.args.keys.now 0 key o in
    subst P (sym (c.new-index.ensures key)) (λ i less. absurd (omega arith)))

pub loop-at-preserved : goal.loop-at-preserved
loop-at-preserved c =
    let keys = c.args.keys.now in
    let here = slice_get-get_or keys c.loop-at.at 0 c.loop-at-test.true in
    elim c.if-is_none.branch [
      | then-is_none+in_ok-insert w ↦ rw w.index-is (
          index_new keys c.loop-at.at (get_or keys c.loop-at.at 0) c.loop-at.index c.loop-at.invariant here w.insert.new.self
          (sym c.get.ensures ∙ is_none_tells c.get.result c.is_none.result c.is_none.ensures w.if-is_none.true)
          w.in_ok-insert.ensures.this w.in_ok-insert.ensures.others)
      | else-is_none w ↦ rw w.index-is (
          index_kept keys c.loop-at.at (get_or keys c.loop-at.at 0) c.loop-at.index c.loop-at.invariant here (λ none. grind (arith, none, c.get.ensures, c.is_none.ensures, w.if-is_none.false)))
    ]

pub returns : goal.returns
returns c = index_done c.args.keys.now c.loop-at.at c.loop-at.index (omega (arith, c.loop-at-test.false)) c.loop-at.invariant

-- The texts of a move, from their parts.
use Rattle.std.{proofs.Common.{◌≡◌, ◌++◌, ◌∙◌, List, ℕ, Option, Result, Ok, Err, length, ap, append_assoc}, specs.Prelude.{IfOk}}
use Rattle.net_rules.specs.declared.mixed_loop.MixedLoop.{MixedLoop}
use Rattle.fault_texts.specs.Places.{IsPlaceTold, way_pointer}
use Rattle.explain_commands.specs.MoveRows.{AreHopsTold, IsMixedLoopTold, IsRowTold, PlanFile}

module _ {A E : Type 0} (bytes : A → List ℕ) where
  module _ (file : PlanFile) (n : ℕ) (index : Option ℕ) where
    pub row_told : (place words : List ℕ) (r : Result A E) → IsPlaceTold file.name file.text (way_pointer n index) place
        → IfOk r (λ t. bytes t ≡ place ++ words) → IfOk r (λ t. IsRowTold file n index (bytes t))
    row_told place words (Ok t) placed written = (place, words, placed, written)
    row_told place words (Err e) placed written = tt

    -- with more words behind
    pub row_then : (row rest : List ℕ) (r : Result A E) → IsRowTold file n index row
        → IfOk r (λ t. bytes t ≡ row ++ rest) → IfOk r (λ t. IsRowTold file n index (bytes t))
    row_then row rest (Ok t) (place, words, placed, is) written =
        (place, words ++ rest, placed, written ∙ (ap (λ z. z ++ rest) is ∙ append_assoc place words rest))
    row_then row rest (Err e) told written = tt

  pub loop_told : (before after : PlanFile) (loop : MixedLoop) (hops words : List ℕ) (r : Result A E)
      → AreHopsTold before after loop.eid.value loop.nodes.items loop.sides.items (length loop.sides.items) hops
      → IfOk r (λ t. bytes t ≡ hops ++ words) → IfOk r (λ t. IsMixedLoopTold before after loop (bytes t))
  loop_told before after loop hops words (Ok t) each written = (hops, words, each, written)
  loop_told before after loop hops words (Err e) each written = tt

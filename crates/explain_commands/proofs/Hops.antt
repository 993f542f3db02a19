-- Lines of hops, one after the other.
use Rattle.std.{proofs.Common.{◌≡◌, ℕ, ◌+◌, ◌≤◌, List, ◌++◌, length, Some, sym, subst, arith}, specs.Prelude.{slice_get}}
use Rattle.net_rules.specs.declared.mixed_loop.Side.{Side}
use Rattle.explain_commands.specs.MoveRows.{AreHopsTold, IsHopTold, PlanFile}

module _ (before after : PlanFile) (e : ℕ) (nodes : List ℕ) (sides : List Side) where
  -- one more line, of the next hop
  pub one_more : (hop n : ℕ) (side : Side) (lines line longer : List ℕ) → AreHopsTold before after e nodes sides hop lines
      → slice_get nodes hop ≡ Some n → slice_get sides hop ≡ Some side → IsHopTold before after e n side line → longer ≡ lines ++ line
      → AreHopsTold before after e nodes sides (hop + 1) longer
  one_more hop n side lines line longer told at there same written =
      subst (AreHopsTold before after e nodes sides (hop + 1)) (sym written) (AreHopsTold.more n side line told at there same)

  -- all of them
  pub all_hops : (hop : ℕ) (lines : List ℕ) → AreHopsTold before after e nodes sides hop lines → hop ≤ length sides → length sides ≤ hop
      → AreHopsTold before after e nodes sides (length sides) lines
  all_hops hop lines told upto past =
      let same : hop ≡ length sides = omega (arith, upto, past) in subst (λ (h : ℕ). AreHopsTold before after e nodes sides h lines) same told

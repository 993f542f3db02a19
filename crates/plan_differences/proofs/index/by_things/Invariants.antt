use Rattle.std.proofs.Common.{◌≡◌, ℕ, List, take}
use Rattle.plan_differences.{specs.DifferenceLines.{thing_text}, specs.Indexes.{listed, of_words}}
use Rattle.plan_differences.proofs.index.by_things.Given as goal

abbrev pub invariant-loop-fact : goal.invariant-loop-fact
invariant-loop-fact l = (words : List ℕ) → listed l.index words ≡ of_words thing_text (take l.fact-index l.facts) words

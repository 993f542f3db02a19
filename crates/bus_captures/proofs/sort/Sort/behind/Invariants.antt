use Rattle.std.proofs.Common.{◌≡◌, ℕ, ◌<◌, ◌≤◌, get_or, length, false}
use Rattle.bus_captures.specs.Sorts.{is_of}
use Rattle.bus_captures.proofs.sort.Sort.behind.Given as goal

abbrev pub invariant-loop-at : goal.invariant-loop-at
invariant-loop-at l =
    (l.at ≤ length l.text) × ((k : ℕ) → l.at ≤ k → k < length l.text → is_of l.self (get_or l.text k 0) ≡ false)

abbrev pub decreases-loop-at : goal.decreases-loop-at
decreases-loop-at l = l.at

-- Two plans of one frame, of whose nodes none is unlike.
use Rattle.std.proofs.Common.{◌≡◌, ℕ, Option, Some, None, is_some, Bool, IsTrue, not}
use Rattle.plan_values.{specs.NodeValues.{but_rows}, specs.declared.plan.Plan.{Plan}, proofs.SameItems.{same_items}}
use Rattle.net_rules.{specs.MoveRules.{HaveSameFrame, IsSameNode}, specs.MoveSearch.{IsFirstUnlike}}
use Rattle.board_kept.specs.Rowed.{IsSameButRows}

pub same_but_rows : (before after : Plan) (first : Option ℕ) (none : Bool) → HaveSameFrame before after → IsFirstUnlike before after first
    → is_some first ≡ not none → IsTrue none → IsSameButRows before after
unfolding HaveSameFrame IsSameNode
same_but_rows before after None none (unit, buses, many) all is so =
    record { unit = unit; buses = buses; nodes = same_items but_rows before.nodes.items after.nodes.items many (λ k less. all k) }
same_but_rows before after (Some n) none frame unlike is so = absurd (cc (is, so))

-- What `diff` prints of two plans.
use Rattle.std.specs.Prelude.{◌≡◌, ◌≢◌, ℕ, List, []}
use Rattle.plan_values.specs.declared.plan.Plan.{Plan}
use Rattle.command_answers.specs.declared.status.Status.{Status}
use Rattle.plan_differences.{specs.Facts.{plan_facts}, specs.Changes.{AreChangesTold}}
use Rattle.command_answers.specs.declared.status.Status.TheVariants as status

-- The text answers for the plans, in a run that ends so: it is empty where they say the same in the same order, and it
-- tells what differs where they don't.
abbrev pub Diffs : Plan → Plan → Status → List ℕ → Type 0
Diffs before after status.Yes text = (plan_facts before ≡ plan_facts after) × (text ≡ [])
Diffs before after status.Fault text = (plan_facts before ≢ plan_facts after) × AreChangesTold before after text
Diffs before after status.Unreadable text = ⊥
Diffs before after status.NoMemory text = ⊥

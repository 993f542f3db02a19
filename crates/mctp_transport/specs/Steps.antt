-- What an assembler's private calls do, by the table.
use Rattle.std.specs.Prelude.{◌≡◌, ◌≤◌, length, slice_range}
use Rattle.mctp_transport.{specs.PacketValues.{PacketValue}, specs.Hearing.{Answer, Whole, Held, Dropped}, specs.TableChanges.{moved}, specs.Assembly.{table_of, assembler_slots, assembler_limit, assembler_memory}, specs.declared.assembler.Assembler.{Assembler}, specs.declared.assembler.Step.{Step}}
use Rattle.mctp_transport.specs.declared.assembler.Step.TheVariants as step

-- what a step says, as an answer
abbrev pub step_answer : Assembler → PacketValue → Step → Answer
step_answer new p step.Alone = Whole p.payload
step_answer new p (step.At start end) = Whole (slice_range new.block.items start end)
step_answer new p step.Held = Held
step_answer new p (step.Dropped w) = Dropped w

-- a whole message lies inside the block
abbrev pub IsWithinBlock : Assembler → Step → Type 0
IsWithinBlock new (step.At start end) = (start ≤ end) × (end ≤ length new.block.items)
IsWithinBlock new step.Alone = Unit {0}
IsWithinBlock new step.Held = Unit {0}
IsWithinBlock new (step.Dropped w) = Unit {0}

-- the step is what the table does
pub record Takes (old : Assembler) (p : PacketValue) (answer : Answer) (new : Assembler) : Type 0 where
  pub slots : assembler_slots new ≡ assembler_slots old
  pub limit : assembler_limit new ≡ assembler_limit old
  pub memory : assembler_memory new ≡ assembler_memory old
  pub table : table_of new ≡ (moved (assembler_limit old) (table_of old) p).0
  pub answer_is : answer ≡ (moved (assembler_limit old) (table_of old) p).1

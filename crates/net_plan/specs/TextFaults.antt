-- What a failed device counts.
use Rattle.std.specs.Prelude.{ℕ, Result, Ok, Err}
use Rattle.net_plan.{specs.declared.error.PlanError.{PlanError}, specs.declared.stream.TextFault.{TextFault}, specs.declared.stream.TextFault.TheVariants.{TooLong, Device, OutOfMemory}}
use Rattle.net_plan.specs.declared.error.PlanError.TheVariants as errors

abbrev pub fault_count : TextFault → ℕ
fault_count Device = 1
fault_count TooLong = 0
fault_count OutOfMemory = 0

-- one where the source failed
abbrev pub device_count : {T : Type 0} → Result T TextFault → ℕ
device_count (Ok x) = 0
device_count (Err e) = fault_count e

abbrev pub error_count : PlanError → ℕ
error_count errors.Device = 1
error_count _ = 0

-- one where the answer is that the source failed
abbrev pub failed_count : {T : Type 0} → Result T PlanError → ℕ
failed_count (Ok x) = 0
failed_count (Err e) = error_count e

-- what the user is told
abbrev pub text_error : TextFault → PlanError
text_error TooLong = errors.OverLimit
text_error Device = errors.Device
text_error OutOfMemory = errors.OutOfMemory

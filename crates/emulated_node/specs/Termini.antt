-- Termini as plain values.
use Rattle.std.specs.Prelude.{ℕ, List}
use Rattle.pdr_repository.specs.Records.{Entry}
use Rattle.emulated_node.specs.Nodes.{TerminusValue}

abbrev pub terminus_value : {T : Type 0} → (T → ℕ) → (T → List Entry) → T → TerminusValue
terminus_value tid records t = record { tid = tid t; records = records t }

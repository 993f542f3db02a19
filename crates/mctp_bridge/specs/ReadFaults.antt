-- The codes of the causes for which an answer is not taken.
use Rattle.std.specs.Prelude.{ℕ, List, codes}
use Rattle.mctp_bridge.specs.declared.read_fault.ReadFault.{ReadFault}
use Rattle.mctp_bridge.specs.declared.read_fault.ReadFault.TheVariants as fault

-- the code that users see
abbrev pub read_code : ReadFault → List ℕ
read_code fault.NoSuccess = codes "E01"
read_code fault.NotAsked = codes "E02"
read_code fault.NoEntry = codes "E03"
read_code fault.TooMany = codes "E04"
read_code fault.FailedBefore = codes "E05"

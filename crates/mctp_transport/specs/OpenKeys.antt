-- When a key is open, said of the history as it is.
use Rattle.std.specs.Prelude.{ℕ}
use Rattle.mctp_transport.{specs.PacketValues.{KeyValue}, specs.Histories.{History, IsUnderWay, before_last_start, FewerThan, IsOtherOpen}}

-- The key is open: its message is under way, and other keys were open in fewer than all slots before it
-- began.
pub record IsOpenNow (slots limit : ℕ) (history : History) (key : KeyValue) : Type 0 where
  pub under_way : IsUnderWay limit history key
  pub room : FewerThan slots (IsOtherOpen slots limit (before_last_start key history) key)

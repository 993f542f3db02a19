-- How the code counts packets: a table with a place for each source and destination.
use Rattle.std.specs.Prelude.{◌≡◌, ℕ, ◌+◌, ◌*◌, ◌<◌, List, length, slice_index_or}
use Rattle.audited_captures.specs.Packets.{NumberedPacket, count_between}

abbrev pub place_of : (source destination : ℕ) → ℕ
place_of source destination = source * 256 + destination

-- the table has the number of these packets from each endpoint ID to each
pub record AreCounts (ps : List NumberedPacket) (counts : List ℕ) : Type 0 where
  pub many : length counts ≡ 65536
  pub each : (source destination x : ℕ) → source < 256 → destination < 256
      → slice_index_or counts (place_of source destination) x ≡ count_between source destination ps

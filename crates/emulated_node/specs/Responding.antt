-- What a node answers to a request.
use Rattle.std.specs.Prelude.{◌≡◌, ◌≢◌, ℕ, List, Option, None, Some, slice_index}
use Rattle.mctp_control.{specs.Devices.{DeviceValue}, specs.Replies.{Replies}, specs.RouteEntries.{EntryValue}}
use Rattle.pdr_repository.specs.Answers.{Answers}
use Rattle.emulated_node.specs.Nodes.{TerminusValue}

-- The device answers control messages (message type 0), and the terminus, where there is one, all others. Where nothing
-- answers, nothing has changed.
pub record Responds (device : DeviceValue) (terminus : Option TerminusValue) (bus : ℕ) (entries : List EntryValue)
    (request : List ℕ) (reply : Option (List ℕ)) (device_then : DeviceValue)
    (terminus_then : Option TerminusValue) : Type 0 where
  pub control : slice_index request 0 ≡ 0
      → Replies device bus entries request reply device_then × (terminus_then ≡ terminus)
  pub other : slice_index request 0 ≢ 0 → (t : TerminusValue) → terminus ≡ Some t
      → (tid : ℕ) × Answers t.tid t.records request reply tid
      × (terminus_then ≡ Some (record t { tid = tid })) × (device_then ≡ device)
  pub none : slice_index request 0 ≢ 0 → terminus ≡ None
      → (reply ≡ None) × (terminus_then ≡ None) × (device_then ≡ device)

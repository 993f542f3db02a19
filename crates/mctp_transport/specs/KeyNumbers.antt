-- The keys of open messages as numbers.
use Rattle.std.specs.Prelude.{◌≡◌, ℕ, ◌+◌, ◌*◌, Option, Some, None}
use Rattle.mctp_transport.{specs.declared.address.Key.{Key}, specs.declared.assembler.open_message.OpenMessage.{OpenMessage}, specs.PacketValues.{bit}}

-- a key as the bits that it has in a packet's header: the source, the owner bit, the tag
abbrev pub key_number : Key → ℕ
key_number k = 16 * k.source.value + 8 * bit k.owner + k.tag.value

-- the number of a slot: that of its message's key, or the first one that no key has
abbrev pub slot_number : Option OpenMessage → ℕ
slot_number None = 4096
slot_number (Some message) = key_number message.key

-- a message is open there, of which this one can be what it has become
abbrev pub IsGoneOnFrom : OpenMessage → Option OpenMessage → Type 0
IsGoneOnFrom message None = ⊥
IsGoneOnFrom message (Some before) = (before.key ≡ message.key) × (before.unit ≡ message.unit)

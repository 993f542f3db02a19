-- What looks wrong of a plan's buses, and of addresses on them, by the identifiers of DSP0239.
use Rattle.std.specs.Prelude.{◌≡◌, ◌≢◌, ◌⊎◌, ℕ, ◌<◌, ◌≤◌, ◌/◌, List, [], ◌∷◌, Some, slice_get}
use Rattle.plan_values.{specs.declared.plan.Plan.{Plan}, specs.declared.nodes.Bus.{Bus}, specs.declared.nodes.Port.{Port}}
use Rattle.net_questions.specs.Ports.{IsPort}

-- this is the plan's bus b
abbrev pub IsBus : Plan → ℕ → Bus → Type 0
IsBus plan b bus = slice_get plan.buses.items b ≡ Some bus

-- ---- bindings and media

-- Media identifiers of a physical transport binding: of SMBus and I2C (1), PCIe (2), USB (3), KCS (4) and serial lines
-- (5). Identifiers that are not listed are said of no binding.
abbrev pub IsMediaOf : ℕ → ℕ → Type 0
IsMediaOf binding media =
    ((binding ≡ 1) × (1 ≤ media) × (media ≤ 6)) ⊎ ((binding ≡ 2) × (8 ≤ media) × (media ≤ 13))
    ⊎ ((binding ≡ 3) × (16 ≤ media) × (media ≤ 18)) ⊎ ((binding ≡ 4) × (32 ≤ media) × (media ≤ 33))
    ⊎ ((binding ≡ 5) × (34 ≤ media) × (media ≤ 36))

-- the media are those of another binding, where both bindings are of the five
abbrev pub IsMediaOfAnother : ℕ → ℕ → Type 0
IsMediaOfAnother binding media =
    (1 ≤ binding) × (binding ≤ 5) × (other : ℕ) × IsMediaOf other media × (other ≢ binding)

-- the plan's bus b has media of another binding than its own
abbrev pub HasForeignMedia : Plan → ℕ → Type 0
HasForeignMedia plan b = (bus : Bus) × IsBus plan b bus × IsMediaOfAnother bus.binding bus.media

-- the plan's bus b has the binding 0, which is reserved
abbrev pub HasReservedBinding : Plan → ℕ → Type 0
HasReservedBinding plan b = (bus : Bus) × IsBus plan b bus × (bus.binding ≡ 0)

-- ---- ports on a bus

-- some port of n is on the bus
abbrev pub HasPortOn : Plan → ℕ → ℕ → Type 0
HasPortOn plan b n = (p : ℕ) × (port : Port) × IsPort plan n p port × (port.bus ≡ b)

-- no node has a port on the bus
abbrev pub HasNoPorts : Plan → ℕ → Type 0
HasNoPorts plan b = (n : ℕ) → ¬ HasPortOn plan b n

-- the plan has a bus b, which has no ports
abbrev pub IsEmptyBus : Plan → ℕ → Type 0
IsEmptyBus plan b = (bus : Bus) × IsBus plan b bus × HasNoPorts plan b

-- ---- reserved addresses

-- the seven bits are reserved on I2C: 0000xxx and 1111xxx
abbrev pub IsReservedOnI2c : ℕ → Type 0
IsReservedOnI2c bits = (bits < 8) ⊎ (120 ≤ bits)

-- the seven bits are restricted on I3C: 0 to 7, the broadcast address 126, and what differs from it in one bit
abbrev pub IsReservedOnI3c : ℕ → Type 0
IsReservedOnI3c bits = (bits < 8) ⊎ (bits ≡ 62) ⊎ (bits ≡ 94) ⊎ (bits ≡ 110) ⊎ (bits ≡ 118) ⊎ (bits ≡ 122)
    ⊎ (bits ≡ 124) ⊎ (bits ≡ 126) ⊎ (bits ≡ 127)

-- the byte, whose bits 7 to 1 are an address, has a reserved one: on I2C (binding 1) or on I3C (binding 6)
abbrev pub IsReservedOn : ℕ → ℕ → Type 0
IsReservedOn binding byte =
    ((binding ≡ 1) × IsReservedOnI2c (byte / 2)) ⊎ ((binding ≡ 6) × IsReservedOnI3c (byte / 2))

-- the address is one byte, which has a reserved one
abbrev pub IsReservedAddress : ℕ → List ℕ → Type 0
IsReservedAddress binding address = (byte : ℕ) × (address ≡ byte ∷ []) × IsReservedOn binding byte

-- the port's address is reserved on its bus
abbrev pub HasReservedAddress : Plan → Port → Type 0
HasReservedAddress plan port =
    (bus : Bus) × IsBus plan port.bus bus × IsReservedAddress bus.binding port.address.items

-- n's port p has such an address
abbrev pub IsReservedPort : Plan → ℕ → ℕ → Type 0
IsReservedPort plan n p = (port : Port) × IsPort plan n p port × HasReservedAddress plan port

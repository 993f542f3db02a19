-- What looks wrong of addresses, and of the plan's transmission unit, by what the binding of a bus carries: SMBus and
-- I2C (binding 1, DSP0237), PCIe VDM (2, DSP0238) and I3C (6, DSP0233).
use Rattle.std.specs.Prelude.{◌≡◌, ◌≢◌, ◌⊎◌, ℕ, ◌+◌, ◌<◌, ◌/◌, ◌%◌, List, [], ◌∷◌, length}
use Rattle.plan_values.{specs.declared.plan.Plan.{Plan}, specs.declared.nodes.Bus.{Bus}, specs.declared.nodes.Port.{Port}}
use Rattle.net_questions.{specs.Ports.{IsPort}, specs.Buses.{IsBus}, specs.Lint.{IsEarlier}}

-- an address of one byte is seven bits there, in bits 7 to 1: on SMBus and I2C, and on I3C
abbrev pub HasSevenBits : ℕ → Type 0
HasSevenBits binding = (binding ≡ 1) ⊎ (binding ≡ 6)

-- ---- odd addresses

-- the address is one byte, of which bit 0 is set and no part of it
abbrev pub IsOddAddress : ℕ → List ℕ → Type 0
IsOddAddress binding address = (byte : ℕ) × (address ≡ byte ∷ []) × (HasSevenBits binding × (byte % 2 ≡ 1))

-- the port's address is odd, and mustn't be on its bus
abbrev pub HasOddAddress : Plan → Port → Type 0
HasOddAddress plan port =
    (bus : Bus) × IsBus plan port.bus bus × IsOddAddress bus.binding port.address.items

-- n's port p has such an address
abbrev pub IsOddPort : Plan → ℕ → ℕ → Type 0
IsOddPort plan n p = (port : Port) × IsPort plan n p port × HasOddAddress plan port

-- ---- lengths

-- no address on such a bus has so many bytes: one on SMBus and I2C, two on PCIe, one or six on I3C
abbrev pub IsForeignLength : ℕ → ℕ → Type 0
IsForeignLength binding bytes = ((binding ≡ 1) × (bytes ≢ 1)) ⊎ ((binding ≡ 2) × (bytes ≢ 2))
    ⊎ ((binding ≡ 6) × (bytes ≢ 1) × (bytes ≢ 6))

-- the address isn't empty, and has such a length
abbrev pub IsForeignAddress : ℕ → List ℕ → Type 0
IsForeignAddress binding address = (address ≢ []) × IsForeignLength binding (length address)

-- the port's address is such a one on its bus
abbrev pub HasForeignAddress : Plan → Port → Type 0
HasForeignAddress plan port =
    (bus : Bus) × IsBus plan port.bus bus × IsForeignAddress bus.binding port.address.items

-- n's port p has such an address
abbrev pub IsForeignPort : Plan → ℕ → ℕ → Type 0
IsForeignPort plan n p = (port : Port) × IsPort plan n p port × HasForeignAddress plan port

-- ---- transmission units

-- Over SMBus and I2C a byte counts what comes behind it: the source's address, four bytes of MCTP header, and the
-- payload. It doesn't count a payload of the whole unit.
abbrev pub IsPastByteCount : ℕ → ℕ → Type 0
IsPastByteCount binding unit = (binding ≡ 1) × (255 < 1 + 4 + unit)

-- the plan's bus b can't carry a payload of the plan's unit
abbrev pub HasUncarriedUnit : Plan → ℕ → Type 0
HasUncarriedUnit plan b = (bus : Bus) × IsBus plan b bus × IsPastByteCount bus.binding plan.unit

-- ---- two addresses of the same seven bits

-- the address is one byte, which differs from this one in bit 0 alone
abbrev pub IsByItsBit : ℕ → List ℕ → Type 0
IsByItsBit x b = (y : ℕ) × (b ≡ y ∷ []) × ((x / 2 ≡ y / 2) × (x ≢ y))

-- both addresses are one byte, and they differ in bit 0 alone
abbrev pub DifferInBit0 : List ℕ → List ℕ → Type 0
DifferInBit0 a b = (x : ℕ) × (a ≡ x ∷ []) × IsByItsBit x b

-- both ports are on one bus, of such a binding, and their addresses differ in bit 0 alone
abbrev pub HaveSevenBits : ℕ → Port → Port → Type 0
HaveSevenBits binding a b = HasSevenBits binding × (a.bus ≡ b.bus) × DifferInBit0 a.address.items b.address.items

-- the same, by the bus of the first port
abbrev pub HaveOneSevenBits : Plan → Port → Port → Type 0
HaveOneSevenBits plan a b = (bus : Bus) × IsBus plan a.bus bus × HaveSevenBits bus.binding a b

-- m has a port q that is such a one beside the port
abbrev pub HasItsSevenBits : Plan → Port → ℕ → ℕ → Type 0
HasItsSevenBits plan a m q = (b : Port) × IsPort plan m q b × HaveOneSevenBits plan a b

-- n's port p and m's port q are two such ports
abbrev pub HaveSharedSevenBits : Plan → ℕ → ℕ → ℕ → ℕ → Type 0
HaveSharedSevenBits plan n p m q = (a : Port) × IsPort plan n p a × HasItsSevenBits plan a m q

-- n's port p and a later port, m's port q, are two such ports
abbrev pub ShareSevenBits : Plan → ℕ → ℕ → ℕ → ℕ → Type 0
ShareSevenBits plan n p m q = IsEarlier n p m q × HaveSharedSevenBits plan n p m q

-- What is named where a cause is told, in the order of its sentences.
use Rattle.std.specs.Prelude.{ℕ, ◌==◌, List, [], ◌∷◌, if◌then◌else◌, Option, Some, None}
use Rattle.net_rules.specs.declared.fault.Fault.{Fault}
use Rattle.net_tables.{specs.Routing.{eid_number}, specs.Ownership.{owner_of}}
use Rattle.net_explained.specs.declared.cause.Cause.{Cause}
use Rattle.plan_values.specs.declared.plan.Plan.{Plan}
use Rattle.pdr_record.{specs.declared.record_error.RecordError.{RecordError}, specs.declared.record_error.RecordError.TheVariants.{Short, Length}}
use Rattle.explanation_texts.{specs.Pieces.{entry_at}, specs.declared.pieces.Entry.{Entry}, specs.declared.pieces.Piece.{Piece}, specs.declared.pieces.Piece.TheVariants.{Number, Given, Code, Name, OwnerName, BusName, PortCount, Tid, PoolSpan, PoolFirst, PoolSize, At, RowSpan, RowFirst, RowSize, RowPort, RowNext, Handle, BytesBehind, DataLength}}
use Rattle.net_explained.specs.declared.cause.Cause.TheVariants as cause
use Rattle.explanation_texts.specs.declared.pieces.Piece.TheVariants as piece

-- the row or the record of a fault
abbrev pub entry_of : Fault → Entry
entry_of f = record { node = f.node; index = f.entry }

-- an earlier row and this one, an endpoint ID that both cover, and all that each does
abbrev pub overlap_subjects : Entry → ℕ → ℕ → List Piece
overlap_subjects at i e = Number i ∷ At at ∷ Number e
    ∷ Number i ∷ RowSpan (entry_at at.node i) ∷ Given at.index ∷ RowSpan at ∷ []

-- the owner of both, where they have one
abbrev pub shared_owner : ℕ → Option ℕ → List Piece
shared_owner n (Some owner) = OwnerName n ∷ []
shared_owner n None = []

-- the node, its endpoint ID, and its own pool, or the peer with its pool and the owner of both
abbrev pub peer_subjects : Plan → Fault → ℕ → List Piece
peer_subjects plan f peer = Name f.node ∷ Given (eid_number f.eid) ∷ (if peer == f.node then PoolSpan f.node ∷ []
    else Name peer ∷ PoolSpan peer ∷ shared_owner f.node (owner_of plan f.node))

-- a row, the endpoint ID and where it leads that, and who has it
abbrev pub led_subjects : Fault → ℕ → List Piece
led_subjects f holder = At (entry_of f) ∷ Given (eid_number f.eid) ∷ RowNext (entry_of f)
    ∷ RowNext (entry_of f) ∷ Name holder ∷ Given (eid_number f.eid) ∷ []

-- what of the bytes is not as it should be
abbrev pub why_subjects : Entry → RecordError → List Piece
why_subjects at Short = piece.Length at ∷ []
why_subjects at Length = DataLength at ∷ BytesBehind at ∷ []
why_subjects at _ = []

-- what is named where a cause is told
abbrev pub cause_subjects : Plan → Fault → Cause → List Piece
cause_subjects plan f (cause.SharedName m) = Number m ∷ Number f.node ∷ Name f.node ∷ []
cause_subjects plan f cause.UnassignableEid = Name f.node ∷ Given (eid_number f.eid) ∷ []
cause_subjects plan f (cause.SharedEid m) = Name m ∷ Name f.node ∷ Given (eid_number f.eid) ∷ []
cause_subjects plan f cause.RowOutOfRange = At (entry_of f) ∷ RowFirst (entry_of f) ∷ RowSize (entry_of f) ∷ []
cause_subjects plan f (cause.OverlappedRow i eid) = overlap_subjects (entry_of f) i eid.value
cause_subjects plan f cause.NextIsItself = At (entry_of f) ∷ Name f.node ∷ []
cause_subjects plan f cause.NoSuchPort =
    At (entry_of f) ∷ RowPort (entry_of f) ∷ Name f.node ∷ PortCount f.node ∷ []
cause_subjects plan f (cause.NextNotOnBus bus) =
    At (entry_of f) ∷ RowPort (entry_of f) ∷ RowNext (entry_of f) ∷ BusName bus ∷ RowNext (entry_of f) ∷ []
cause_subjects plan f cause.EndpointForSeveral =
    At (entry_of f) ∷ RowSpan (entry_of f) ∷ RowNext (entry_of f) ∷ []
cause_subjects plan f (cause.OwnerIsEndpoint owner) = Name f.node ∷ Name owner ∷ []
cause_subjects plan f (cause.OwnerSharesNoBus owner) = Name f.node ∷ Name owner ∷ []
cause_subjects plan f (cause.OutsideOwnersPool owner) =
    Name f.node ∷ Given (eid_number f.eid) ∷ Name owner ∷ PoolSpan owner ∷ []
cause_subjects plan f (cause.InPeersPool peer) = peer_subjects plan f peer
cause_subjects plan f cause.PoolOfEndpoint = Name f.node ∷ PoolSpan f.node ∷ []
cause_subjects plan f cause.PoolOutOfRange = Name f.node ∷ PoolFirst f.node ∷ PoolSize f.node ∷ []
cause_subjects plan f (cause.PoolBeyondOwners owner eid) =
    Name f.node ∷ PoolSpan f.node ∷ Number eid.value ∷ Name owner ∷ PoolSpan owner ∷ []
cause_subjects plan f (cause.PoolsMeet m eid) =
    Name m ∷ PoolSpan m ∷ Number eid.value ∷ Name f.node ∷ PoolSpan f.node ∷ []
cause_subjects plan f (cause.NextIsEndpoint holder) = led_subjects f holder
cause_subjects plan f (cause.NextHasNoRow holder) = led_subjects f holder
cause_subjects plan f cause.NoRecords = Name f.node ∷ []
cause_subjects plan f cause.HandleIsZero = At (entry_of f) ∷ []
cause_subjects plan f (cause.SharedHandle j) = Number j ∷ At (entry_of f) ∷ Handle (entry_of f) ∷ []
cause_subjects plan f (cause.UnreadableRecord why) = At (entry_of f) ∷ Code why ∷ why_subjects (entry_of f) why
cause_subjects plan f (cause.OtherHandle handle) = At (entry_of f) ∷ Handle (entry_of f) ∷ Number handle ∷ []
cause_subjects plan f (cause.LongLocator tid) = At (entry_of f) ∷ Number tid ∷ []
cause_subjects plan f (cause.NobodyHolds tid) = At (entry_of f) ∷ Number tid ∷ Given (eid_number f.eid) ∷ []
cause_subjects plan f (cause.OtherTerminus holder tid) =
    At (entry_of f) ∷ Number tid ∷ Given (eid_number f.eid) ∷ Name holder ∷ Tid holder ∷ []

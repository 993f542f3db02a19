mod Writing
mod Numeric
mod ListsRead
mod BodyFaults
mod RecordFaults
mod OtherRecords

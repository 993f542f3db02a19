mod FaultLines
pub mod RuledOutMoves
mod AtTold

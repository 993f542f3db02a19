pub mod Places
pub mod FaultListLines
pub mod RuledOutMoves

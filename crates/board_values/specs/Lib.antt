pub mod Said
pub mod Eids
pub mod Owners
pub mod Lacks

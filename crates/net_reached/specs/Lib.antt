pub mod Lines
pub mod Wishes
pub mod Reading
pub mod Matrices

pub mod Plain
pub mod Tokens

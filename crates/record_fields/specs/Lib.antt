pub mod Named
pub mod Meanings
pub mod Texts
pub mod Said

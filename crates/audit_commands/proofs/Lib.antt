mod Audited
mod Stored

-- The book: its first bytes, the walk from record to record, and what reading gives.
pub mod Walk
pub mod Fillers
pub mod Settings
pub mod Books
pub mod Invariants
pub mod Lines
pub mod SameBook

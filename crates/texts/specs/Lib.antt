-- Texts and notes: their rules, the lines of a note and where they lie.
pub mod Lines
pub mod Notes
pub mod Invariants

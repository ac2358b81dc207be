-- The Calendar file: as it is written, as it is read, and what an accepted one shows.
pub mod Lists
pub mod Reader
pub mod File
pub mod Shown
pub mod Invariants

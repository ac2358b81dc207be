-- The export: a book's days as a Calendar file, demand 3, and what its passes make of a book.
pub mod Export
pub mod Demand
pub mod Passes
pub mod Invariants
pub mod Requests

-- Day pages and the next occurrence: definitions, what the questions give, and their laws.
pub mod Next
pub mod Pages
pub mod Answers
pub mod Codes
pub mod Invariants
pub mod SetP

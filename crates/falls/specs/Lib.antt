-- When a record falls on a day: the rules, the times, and their laws.
pub mod Falls
pub mod Moved
pub mod Agrees
pub mod Times

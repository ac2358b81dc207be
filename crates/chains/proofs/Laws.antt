-- Laws of the definitions beside this folder, a file a topic.
pub mod Dates
pub mod Examples
pub mod Linked
pub mod Marks
pub mod Numbers
pub mod Order
pub mod Runs
pub mod Steps
pub mod Ranks
pub mod Stages
pub mod Theorem
pub mod Walks
pub mod Valid

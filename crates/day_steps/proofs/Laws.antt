-- Laws of the definitions beside this folder, a file a topic.
pub mod Codes
pub mod Months
pub mod Moves

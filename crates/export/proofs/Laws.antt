-- Laws of the definitions beside this folder, a file a topic.
pub mod Answers
pub mod Appointments
pub mod Examples
pub mod Records
pub mod Sizes
pub mod Theorem
pub mod Books
pub mod Collecting
pub mod Steps
pub mod Ready
pub mod Export

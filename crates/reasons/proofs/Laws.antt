-- Laws of the definitions beside this folder, a file a topic.
pub mod Kinds
pub mod Tests
pub mod Holds
pub mod Shown
pub mod Calls
pub mod Examples

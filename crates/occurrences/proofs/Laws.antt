-- Laws of the definitions beside this folder, a file a topic.
pub mod Rules
pub mod Gaps
pub mod Next
pub mod Waits
pub mod After
pub mod Find

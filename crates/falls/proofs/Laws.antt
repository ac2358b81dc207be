-- Laws of the definitions beside this folder, a file a topic.
pub mod Tests
pub mod Falls
pub mod Agrees
pub mod Moved
pub mod Examples

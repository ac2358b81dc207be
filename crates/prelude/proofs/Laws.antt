-- Laws of the definitions beside this folder, a file a topic.
pub mod Choice
pub mod Tests
pub mod Bytes
pub mod Splice
pub mod Grown
pub mod Members
pub mod Refusals
pub mod Results
pub mod Verdicts

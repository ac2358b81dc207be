-- The project's vocabulary, one file a topic.
pub mod Choice
pub mod Bytes
pub mod Refusals
pub mod Splice
pub mod Verdicts

-- Laws of the definitions beside this folder, a file a topic.
pub mod Pieces
pub mod SameBytes
pub mod Examples
pub mod Again
pub mod Calls
pub mod Heads
pub mod Items
pub mod Runs
pub mod ReadBack
pub mod Theorem

-- Writing a book: the calls, whole runs of them, and what a run promises.
pub mod Writing
pub mod Runs
pub mod Again
pub mod Heads

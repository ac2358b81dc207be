-- Laws of the definitions beside this folder, a file a topic.
pub mod Walk
pub mod Books
pub mod Fillers
pub mod Alike
pub mod Counts
pub mod Entries
pub mod Examples
pub mod Notes
pub mod SameBook

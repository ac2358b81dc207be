-- Laws of the definitions beside this folder, a file a topic.
pub mod Codes
pub mod Entries
pub mod Lists
pub mod Judging
pub mod SameBook

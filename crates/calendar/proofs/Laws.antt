-- Laws of the definitions beside this folder, a file a topic.
pub mod Lists
pub mod Reader
pub mod Appointments
pub mod Examples
pub mod File
pub mod Shown

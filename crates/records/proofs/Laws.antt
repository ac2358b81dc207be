-- Laws of the definitions beside this folder, a file a topic.
pub mod Ranges
pub mod Encoding
pub mod Bodies
pub mod Judged
pub mod Again
pub mod Kinds
pub mod Layouts

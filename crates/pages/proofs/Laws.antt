-- Laws of the definitions beside this folder, a file a topic.
pub mod Codes
pub mod Decoding
pub mod Moved
pub mod Next
pub mod Nth
pub mod PageFacts
pub mod Pages
pub mod Search
pub mod SetP

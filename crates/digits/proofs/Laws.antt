-- Laws of the definitions beside this folder, a file a topic.
pub mod Backed
pub mod Decimal
pub mod Examples
pub mod Numbers

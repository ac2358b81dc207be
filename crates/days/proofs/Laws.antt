-- Laws of the definitions beside this folder, a file a topic.
pub mod Dates
pub mod Days
pub mod Answers
pub mod Facts
pub mod HalvingExamples
pub mod Halving
pub mod Order
pub mod Table

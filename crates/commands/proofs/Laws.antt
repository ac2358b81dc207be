-- Laws of the definitions beside this folder, a file a topic.
pub mod Examples
pub mod Responses
pub mod SameDays
pub mod SameRecords
pub mod SameAnswers
pub mod Words
pub mod WithoutWord

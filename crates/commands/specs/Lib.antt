-- The command line and the answers of the program: definitions and laws.
pub mod Commands
pub mod Responses
pub mod SameAnswers
pub mod WithoutWord
pub mod Words

-- Laws of the definitions beside this folder, a file a topic.
pub mod ChainAnswers
pub mod Examples
pub mod HandedOn
pub mod ReasonAnswers
pub mod RoundTrips

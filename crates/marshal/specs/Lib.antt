-- What crosses to C and back, one file a topic: for each answer its number, its place and its values.
pub mod BookAnswers
pub mod CalendarAnswers
pub mod ChainAnswers
pub mod CountAnswers
pub mod DayAnswers
pub mod HandedOn
pub mod PageAnswers
pub mod ReasonAnswers
pub mod RecordAnswers
pub mod RecordArguments
pub mod WriterStates

-- Why a record is on a day, or is not: the reasons, what each says, the answers, and their laws.
pub mod Reasons
pub mod Kinds
pub mod Holds
pub mod Answers

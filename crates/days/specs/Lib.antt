-- Days: the definitions in document 01's order.
pub mod Dates
pub mod Days
pub mod Facts
pub mod Answers
pub mod Table
pub mod Halving

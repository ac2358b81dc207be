-- Cancelled days: the list that is lent beside a book, its rules, and their laws.
pub mod Cancelled
pub mod Judging

-- The printed page: how it looks, what the calls give, and its laws.
pub mod Printed
pub mod Answers
pub mod Coded

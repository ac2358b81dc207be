-- From a day's facts on, and dates and days as one number each.
pub mod Codes
pub mod Moves

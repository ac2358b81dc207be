-- A record's rule as numbers, and the next day of a span on which it shows.
pub mod Next
pub mod Rules

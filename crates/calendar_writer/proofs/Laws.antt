-- Laws of the definitions beside this folder, a file a topic.
pub mod From
pub mod ListRead
pub mod DayRead
pub mod TableRead
pub mod FileRead
pub mod Measure
pub mod Spans
pub mod Spots
pub mod Rows
pub mod Scatter
pub mod Filling
pub mod Pieces
pub mod Sums
pub mod Turns

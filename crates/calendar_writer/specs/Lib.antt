-- Writing a Calendar file: its days, what measuring, the table and the blocks make of the sums of its days, an appointment put on its days, and what is read back.
pub mod DayLists
pub mod Sums
pub mod Scatter
pub mod Pieces

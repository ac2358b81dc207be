-- HP 200LX day chains: what is accepted and refused, what is shown of the accepted, and the code's own way with its laws.
pub mod Chains
pub mod Dates
pub mod Marks
pub mod Ranks
pub mod Shown
pub mod Stages
pub mod Valid

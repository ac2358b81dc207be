pub mod TableRule
pub mod MarchRule
pub mod Laws

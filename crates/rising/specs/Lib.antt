-- Rising lists of numbers: whether one stands in a list, where it belongs, and their laws.
pub mod Rising

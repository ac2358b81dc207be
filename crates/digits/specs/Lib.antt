-- Numbers as text.
pub mod Digits

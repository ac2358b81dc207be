-- The records of a book: fields, ranges, the judgement of a body, the encoding.
pub mod Fields
pub mod Ranges
pub mod Bodies
pub mod Encoding
pub mod Invariants

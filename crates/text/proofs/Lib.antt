pub mod Numerals
pub mod ReadFields
pub mod Splits

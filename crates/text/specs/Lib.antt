pub mod Over
pub mod Begun
pub mod Decimal
pub mod Numerals

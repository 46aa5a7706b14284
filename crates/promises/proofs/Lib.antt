pub mod FirstHolds
pub mod Plans
pub mod SecondHolds
pub mod ThirdHolds

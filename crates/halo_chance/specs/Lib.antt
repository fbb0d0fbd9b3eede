pub mod Enclosed
pub mod Table
pub mod Cost
pub mod Loss
pub mod Ending
pub mod Present

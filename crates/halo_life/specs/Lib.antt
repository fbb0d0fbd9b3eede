pub mod Lists
pub mod Total
pub mod PlainGroup
pub mod YearOfSets
pub mod YearOfLives
pub mod Complement

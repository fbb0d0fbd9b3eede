mod AllLives
mod AllPays
mod AmountOne
mod FormsOfContract
mod OfContract
mod Premiums
mod ReadBack
mod SetSizes
mod ShortTerms
mod SomeForm
pub mod SomeForms
pub mod SomeParts
mod TwelveLives
mod Zips
mod Explained
mod CoefficientParts
mod EventParts

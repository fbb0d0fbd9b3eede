mod Multiples
mod Discounted
mod OneByOne
mod Sums
mod SummedColumns
pub mod SomeColumns

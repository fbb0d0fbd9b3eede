-- Lists of 1 to 16 items.
pub mod ShortList

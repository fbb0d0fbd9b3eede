-- The lists that statuses are made of.
pub mod short_list

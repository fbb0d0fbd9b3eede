mod Totals
mod Premiums

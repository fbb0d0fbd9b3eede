mod PrintedEnds
mod LineByLine
mod PrintedColumns
mod SetNames
mod Terms
mod PaysLines

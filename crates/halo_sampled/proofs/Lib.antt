-- What the laws of a sample's files are proved with: first of the tables, then of the contract.
mod ReadRecords
mod FineRows
mod PlainRecords
mod NamesOfTables
mod GroupedTables
mod PlacedRecords
mod NamedRecords
mod FieldsOfRecords
pub mod FineRecords
mod ShortTables
mod ShortContract
mod SampleLines
mod SampleNames
mod KnownNames
mod SampleSymbols
mod DrawnAges
mod SampleDrafts
mod LifeLines
mod PayLines
mod LastLines
pub mod ContractOfSample
pub mod ShortFiles

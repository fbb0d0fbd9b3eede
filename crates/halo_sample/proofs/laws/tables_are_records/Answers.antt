use Rattle.halo_sample.proofs.RecordsByPlace.{records-are-counted, records-are-rows}
use Rattle.halo_sample.proofs.SampleRecords.{tables-are-records}
use Rattle.halo_sample.proofs.laws.tables_are_records.Goals as goal

pub returns-clause-text : goal.returns-clause-text
returns-clause-text c = tables-are-records

pub returns-clause-count : goal.returns-clause-count
returns-clause-count c = records-are-counted

pub returns-clause-rows : goal.returns-clause-rows
returns-clause-rows c = records-are-rows

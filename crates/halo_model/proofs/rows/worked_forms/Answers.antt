use Rattle.halo_model.proofs.WorkedForms.{form_rows, long_rows, segment_rows}
use Rattle.halo_model.proofs.rows.worked_forms.Goals as goal

pub returns-clause-forms : goal.returns-clause-forms
returns-clause-forms c = form_rows

pub returns-clause-long : goal.returns-clause-long
returns-clause-long c = long_rows

pub returns-clause-segments : goal.returns-clause-segments
returns-clause-segments c = segment_rows

use Rattle.halo_model.proofs.Printing.{pay-has-line, premium-has-line, reserve-has-line, total-has-line}
use Rattle.halo_model.proofs.laws.enclosed_values_have_lines.Goals as goal

pub returns-clause-pay : goal.returns-clause-pay
returns-clause-pay c = pay-has-line

pub returns-clause-total : goal.returns-clause-total
returns-clause-total c = total-has-line

pub returns-clause-premium : goal.returns-clause-premium
returns-clause-premium c = premium-has-line

pub returns-clause-reserve : goal.returns-clause-reserve
returns-clause-reserve c = reserve-has-line

use Rattle.halo_model.proofs.SecondMoment.{deferrals-tell, second-moment-by-deferrals, second-moment-by-years}
use Rattle.halo_model.proofs.laws.payments_by_years.Goals as goal

pub returns-clause-deferrals : goal.returns-clause-deferrals
returns-clause-deferrals c = deferrals-tell

pub returns-clause-second_moment : goal.returns-clause-second_moment
returns-clause-second_moment c = second-moment-by-years

pub returns-clause-by_deferrals : goal.returns-clause-by_deferrals
returns-clause-by_deferrals c = second-moment-by-deferrals

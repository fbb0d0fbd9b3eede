use Rattle.std.proofs.Common.{List, rules, subst, sym}
use Rattle.halo_interest.specs.declared.rate.Rate.{Rate}
use Rattle.halo_interest.specs.Rates.{CanFollow}
use Rattle.halo_interest.proofs.Keeping.{kept_more}
use Rattle.halo_interest.proofs.interest.Interest.add_from.Goals as goal

pub invariant_of-self : goal.invariant_of-self
invariant_of-self c =
    let Follows : List Rate → Type 0 = λ rates. CanFollow rates c.args.year c.args.p c.args.q
    in let follows : Follows c.args.self.now = search rules
    in kept_more c.self.inside.rates c.self.inside.count _ c.self.invariant (subst Follows (sym c.self.view_is) follows)

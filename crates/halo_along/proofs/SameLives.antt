-- What is enclosed at the start of a group is enclosed then with the same lives of another.
use Rattle.std.proofs.Common.{◌≡◌, ℕ, List, subst}
use Rattle.halo_sums.specs.Masks.{has_bit}
use Rattle.halo_num.specs.Ends.{Ends}
use Rattle.halo_interest.specs.declared.rate.Rate.{Rate}
use Rattle.halo_status.specs.Pay.{PlainPay}
use Rattle.halo_contract.specs.declared.ties.Ties.{Ties}
use Rattle.halo_contract.specs.declared.ties.Ties.TheVariants.{Declared}
use Rattle.halo_model.specs.ContractBasis.{basis_of}
use Rattle.halo_model.specs.Enclosed.{EnclosesOne}
use Rattle.halo_life.specs.PlainGroup.{PlainGroup}

-- a group of the lives of another at time t, with those of a set alive
abbrev pub group_then : PlainGroup → ℕ → ℕ → PlainGroup
group_then group t alive =
    record { file = group.file; lives = group.lives; start = t; alive = alive; ties = Declared }

pub one-then : (interest : List Rate) (group then : PlainGroup) (t alive : ℕ) (ties : Ties) (pay : PlainPay) (i : Ends)
    → then ≡ group_then group t alive
    → EnclosesOne (basis_of then.file interest then.lives ties) pay then.start (has_bit then.alive) i
    → EnclosesOne (basis_of group.file interest group.lives ties) pay t (has_bit alive) i
one-then interest group then t alive ties pay i same is = subst
    (λ (g : PlainGroup). EnclosesOne (basis_of g.file interest g.lives ties) pay g.start (has_bit g.alive) i) same is

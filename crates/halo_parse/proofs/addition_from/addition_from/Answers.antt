use Rattle.std.proofs.Common.{arith}
use Rattle.std.proofs.lemmas.List.{length-map}
use Rattle.halo_syntax.specs.LineView.{plain_rate}
use Rattle.halo_check.proofs.Passed.{lives, no_zero, rising, table, within}
use Rattle.halo_parse.proofs.addition_from.addition_from.Goals as goal

pub interest_from-requires-clause-p_within : goal.interest_from-requires-clause-p_within
interest_from-requires-clause-p_within c = (rw c.in-Interest.is at (within _ _ _ c.requires.passes)).0

pub interest_from-requires-clause-q_within : goal.interest_from-requires-clause-q_within
interest_from-requires-clause-q_within c = (rw c.in-Interest.is at (within _ _ _ c.requires.passes)).1

pub interest_from-requires-clause-q_some : goal.interest_from-requires-clause-q_some
interest_from-requires-clause-q_some c = (rw c.in-Interest.is at (no_zero _ _ _ c.requires.passes)).0

pub interest_from-requires-clause-within : goal.interest_from-requires-clause-within
interest_from-requires-clause-within c =
    rw c.deref.ensures.value (rw c.in-Interest.is at (within _ _ _ c.requires.passes)).2

pub interest_from-requires-clause-some : goal.interest_from-requires-clause-some
interest_from-requires-clause-some c =
    rw c.deref.ensures.value (rw c.in-Interest.is at (no_zero _ _ _ c.requires.passes)).1

pub interest_from-requires-clause-rise : goal.interest_from-requires-clause-rise
interest_from-requires-clause-rise c =
    rw c.deref.ensures.value (rw c.in-Interest.is at (rising _ _ _ c.requires.passes))

pub interest_from-requires-clause-few : goal.interest_from-requires-clause-few
interest_from-requires-clause-few c =
    omega (
      arith,
      (rw c.in-Interest.is at (within _ _ _ c.requires.passes)).3,
      length-map c.in-Interest.later.items plain_rate,
      c.deref.ensures.len,
      c.in-Interest.later.ok,
    )

pub life_from-requires-clause-short : goal.life_from-requires-clause-short
life_from-requires-clause-short c = (rw c.in-Life.is at (within _ _ _ c.requires.passes)).0

pub life_from-requires-clause-table : goal.life_from-requires-clause-table
life_from-requires-clause-table c = (rw c.in-Life.is at (table _ _ _ c.requires.passes))

pub life_from-requires-clause-age : goal.life_from-requires-clause-age
life_from-requires-clause-age c = (rw c.in-Life.is at (within _ _ _ c.requires.passes)).2

pub pay_from-requires-clause-amount : goal.pay_from-requires-clause-amount
pay_from-requires-clause-amount c = (rw c.in-Pay.is at (within _ _ _ c.requires.passes)).0

pub pay_from-requires-clause-usable : goal.pay_from-requires-clause-usable
pay_from-requires-clause-usable c =
    let proper = rw c.in-Pay.is at c.requires.proper in
    rw c.deref-in-Pay.ensures.value (record {
      proper = proper.1;
      within = (rw c.in-Pay.is at (within _ _ _ c.requires.passes)).1;
      declared = rw c.in-Pay.is at (lives _ _ _ c.requires.passes);
    })

pub premium_from-requires-clause-usable : goal.premium_from-requires-clause-usable
premium_from-requires-clause-usable c =
    let proper = rw c.in-Premium.is at c.requires.proper in
    rw c.deref-in-Premium.ensures.value (record {
      proper = proper;
      within = (rw c.in-Premium.is at (within _ _ _ c.requires.passes)).parts;
      declared = rw c.in-Premium.is at (lives _ _ _ c.requires.passes);
    })

pub years_within-requires-clause-within : goal.years_within-requires-clause-within
years_within-requires-clause-within c = (rw c.in-Reserve.is at (within _ _ _ c.requires.passes)).0

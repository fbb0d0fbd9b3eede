use Rattle.std.proofs.Common.{rules, arith}
use Rattle.std.proofs.lemmas.Int.{to_z-of_z}
use Rattle.halo_num.proofs.Blends.{encloses_mix, mix_ordered}
use Rattle.halo_num.proofs.Chances.{chance_mix}
use Rattle.halo_num.proofs.Rounded.{floor_at}
use Rattle.halo_num.proofs.Extremes.{least_at_ends, greatest_at_ends}
use Rattle.halo_num.proofs.Spreads.{width_mix}
use Rattle.halo_num.proofs.interval.Ival.mix.Goals as goal

pub returns-clause-low : goal.returns-clause-low
returns-clause-low g c = search (rules, to_z-of_z, floor_at)

pub returns-clause-high : goal.returns-clause-high
returns-clause-high g c = grind
    (arith, to_z-of_z, c.greatest_blend-hi.ensures, c.ends-p_low.ensures, c.ends-a_low.ensures, c.ends-b_low.ensures)

pub invariant_of-result : goal.invariant_of-result
invariant_of-result g c =
    mix_ordered c.args.p c.args.a c.args.b _ _ c.requires.p_in c.ends-p_low.ensures.order
    c.requires.a_in.low c.ends-a_low.ensures.order c.requires.b_in.low c.ends-b_low.ensures.order
    (returns-clause-low g c) (returns-clause-high g c)

pub returns-clause-encloses : goal.returns-clause-encloses
returns-clause-encloses g c = λ s x y d e f p q r.
    encloses_mix c.args.p c.args.a c.args.b _ s x y d e f c.requires.p_in c.ends-p_low.ensures.order
    c.requires.a_in.low c.ends-a_low.ensures.order c.requires.b_in.low c.ends-b_low.ensures.order
    (search rules) (search rules) (returns-clause-low g c) (returns-clause-high g c) p q r

pub returns-clause-least : goal.returns-clause-least
returns-clause-least g c = least_at_ends c.args.p c.args.a c.args.b c.requires.p_in c.ends-p_low.ensures.order
    c.requires.a_in.low c.ends-a_low.ensures.order c.requires.b_in.low c.ends-b_low.ensures.order

pub returns-clause-greatest : goal.returns-clause-greatest
returns-clause-greatest g c =
    greatest_at_ends c.args.p c.args.a c.args.b c.requires.p_in c.ends-p_low.ensures.order
    c.requires.a_in.low c.ends-a_low.ensures.order c.requires.b_in.low c.ends-b_low.ensures.order

pub returns-clause-narrow : goal.returns-clause-narrow
returns-clause-narrow g c = λ u w p q r.
    width_mix c.args.p c.args.a c.args.b _ u w c.requires.p_in
    c.requires.a_in c.requires.b_in c.ends-p_low.ensures.order c.ends-a_low.ensures.order c.ends-b_low.ensures.order
    (returns-clause-low g c) (returns-clause-high g c) p q r

pub returns-clause-chance : goal.returns-clause-chance
returns-clause-chance g c = λ s d x y e u w positive p q r.
    chance_mix s d x y e u w _ positive (returns-clause-encloses g c s x y d e e p.encloses q.encloses r.encloses)
    (returns-clause-narrow g c u w p.narrow q.narrow r.narrow) (search rules)

-- Each pass fits and takes away one life; after all of them there are the coefficients.
use Rattle.std.proofs.Common.{◌≡◌, suc, ◌+◌, arith, refl, ap, ◌∙◌, length}
use Rattle.halo_poly.specs.Poly.{coefficient_of}
use Rattle.halo_poly.proofs.Passes.{difference_passes, difference_passes-all}
use Rattle.halo_poly.proofs.Transforms.{difference_fits, difference_more}
use Rattle.halo_poly.proofs.transform.moebius.Goals as goal

pub loop-life-init : goal.loop-life-init
loop-life-init c = record { full = c.requires.full; each = λ s e. refl }

pub take_without-requires-clause-fits : goal.take_without-requires-clause-fits
take_without-requires-clause-fits c = λ mask m.
    difference_fits c.args.lives (coefficient_of c.args.values.now) c.loop-life.values c.loop-life.life mask
    c.loop-life.invariant c.requires.small (omega arith) c.requires.few m

pub loop-life-preserved : goal.loop-life-preserved
loop-life-preserved c =
    let next : c.loop-life.life + 1 ≡ suc c.loop-life.life = omega arith in
    rw next (difference_more c.args.lives (difference_passes c.loop-life.life (coefficient_of c.args.values.now))
    c.loop-life.values c.take_without.new.values c.loop-life.life c.loop-life.invariant (omega arith)
    c.take_without.ensures.length c.take_without.ensures.differences)

pub returns-clause-coefficients : goal.returns-clause-coefficients
returns-clause-coefficients c = λ s e.
    let all : c.loop-life.life ≡ length s = omega arith in
    c.loop-life.invariant.each s e
    ∙ ap (λ k. difference_passes k (coefficient_of c.args.values.now) s) all
    ∙ difference_passes-all s (coefficient_of c.args.values.now)

-- Each pass fits and adds one life; after all of them there are the sums over subsets.
use Rattle.std.proofs.Common.{◌≡◌, suc, ◌+◌, arith, refl, ap, ◌∙◌, length}
use Rattle.halo_sums.specs.SetMasks.{mask_of}
use Rattle.halo_poly.specs.Poly.{coefficient_of}
use Rattle.halo_poly.proofs.Passes.{sum_passes, sum_passes-all}
use Rattle.halo_poly.proofs.Transforms.{sum_fits, sum_more}
use Rattle.halo_poly.proofs.transform.zeta.Goals as goal

pub loop-life-init : goal.loop-life-init
loop-life-init c = record { full = c.requires.full; each = λ s e. refl }

pub add_without-requires-clause-fits : goal.add_without-requires-clause-fits
add_without-requires-clause-fits c = λ mask m.
    sum_fits c.args.lives (coefficient_of c.args.values.now) c.loop-life.values c.loop-life.life mask
    c.loop-life.invariant (λ u. c.requires.small (mask_of u)) (omega arith) c.requires.few m

pub loop-life-preserved : goal.loop-life-preserved
loop-life-preserved c =
    let next : c.loop-life.life + 1 ≡ suc c.loop-life.life = omega arith in
    rw next (sum_more c.args.lives (sum_passes c.loop-life.life (coefficient_of c.args.values.now)) c.loop-life.values
    c.add_without.new.values c.loop-life.life c.loop-life.invariant (omega arith) c.add_without.ensures.length
    c.add_without.ensures.sums)

pub returns-clause-values : goal.returns-clause-values
returns-clause-values c = λ s e.
    let all : c.loop-life.life ≡ length s = omega arith in
    c.loop-life.invariant.each s e
    ∙ ap (λ k. sum_passes k (coefficient_of c.args.values.now) s) all
    ∙ sum_passes-all s (coefficient_of c.args.values.now)

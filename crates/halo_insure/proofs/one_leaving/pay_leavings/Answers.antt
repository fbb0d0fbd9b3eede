use Rattle.std.proofs.Common.{◌≡◌, ◌≢◌, ℕ, ◌-◌, ◌^◌, ◌≤◌, Bool, true, false, nat_eq, ap, arith, lit<, refl, ◌∙◌}
use Rattle.std.proofs.lemmas.Bool.Decides.{nat_tests}
use Rattle.halo_life.specs.Lists.{Lists, entry}
use Rattle.std.proofs.Math.Nat.{pow-le-pow_right}
use Rattle.halo_sums.specs.Masks.{has_bit}
use Rattle.halo_life.proofs.Subsets.{bit-most}
use Rattle.halo_life.proofs.Within.{other-than, up-to-next}
use Rattle.halo_sums.proofs.Within.{within-below}
use Rattle.halo_insure.specs.OneLeaving.{IsPaidOnLeaving}
use Rattle.halo_insure.proofs.WithoutLife.{bit-off}
use Rattle.halo_insure.proofs.one_leaving.pay_leavings.Goals as goal

pub loop-set-init : goal.loop-set-init
loop-set-init g c = record {
  within = refl;
  paid = λ k low within on. absurd (
      let e : k ≡ 0 = omega arith in
      let some : 2 ^ 0 ≤ 2 ^ c.args.life = pow-le-pow_right (omega arith) {i = 0} (omega arith) in
      omega (arith, e, bit-most k c.args.life on, some));
  rest = λ k behind. (refl, refl);
  chances = λ k off. refl;
}

pub pay_leaving-requires : goal.pay_leaving-requires
pay_leaving-requires g c =
    let i = c.loop-set.invariant in
    let next : ℕ = c.next_within-set.result in
    let e = c.next_within-set.ensures in
    let now = i.rest next (λ within. e.later) in (
      lit< tt,
      (
        lit< tt,
        (
          omega (arith, c.requires.below, within-below next c.args.named e.within),
          (
            c.requires.life,
            (
              c.requires.payment,
              (
                c.requires.here next e.within,
                (
                  λ on. rw (i.chances (next - 2 ^ c.args.life) (bit-off next c.args.life on))
                      (c.requires.chances next e.within on),
                  λ on. rw (now.0, now.1) (c.requires.modest next e.within on),
                ),
              ),
            ),
          ),
        ),
      ),
    )

-- the entry of a set without the life stays, whether it is the set looked at or not
still : (k next life : ℕ) → has_bit k life ≡ false → (before after : Lists)
    → (has_bit next life ≡ false → after ≡ before) → (k ≢ next → entry after.plus k ≡ entry before.plus k)
    → entry after.plus k ≡ entry before.plus k
still k next life off before after same others = by-case (nat_eq k next) refl
  where
    by-case : (c : Bool) → nat_eq k next ≡ c → entry after.plus k ≡ entry before.plus k
    by-case true e =
        let here : k ≡ next = grind (arith, nat_tests, e) in
        ap (λ (w : Lists). entry w.plus k) (same (rw here at off))
    by-case false e = others (λ here. let no : nat_eq k next ≡ true = grind (arith, nat_tests, here) in cc)

pub loop-set-preserved : goal.loop-set-preserved
loop-set-preserved g c =
    let i = c.loop-set.invariant in
    let set = c.loop-set.set in
    let next : ℕ = c.next_within-set.result in
    let e = c.next_within-set.ensures in
    let before = c.args.work.now in
    let after = c.pay_leaving.new.work in
    let step = c.pay_leaving.ensures in
    let now = i.rest next (λ within. e.later) in
    let untouched : (k : ℕ) → has_bit k c.args.life ≡ false → entry after.plus k ≡ entry c.loop-set.work.plus k =
    λ k off. still k next c.args.life off c.loop-set.work after step.without (λ other. (step.others k other).0) in
    record {
      within = e.within;
      paid = up-to-next c.args.named set next e.later e.next
          (λ k. has_bit k c.args.life ≡ true → IsPaidOnLeaving c.args.year.now c.args.life k before after)
          (λ k low within on. let other : k ≢ next = omega (arith, low, e.later) in
          let is = i.paid k low within on in
          let same = step.others k other in
          record { plus = rw (same.0) is.plus; minus = rw (same.1) is.minus })
          (λ on. let is = step.paid on in
          let chance = i.chances (next - 2 ^ c.args.life) (bit-off next c.args.life on) in
          record { plus = rw (chance, now.0) at is.plus; minus = rw (chance, now.1) at is.minus });
      rest = λ k behind.
          let others = step.others k (other-than c.args.named next k e.within behind) in
          let rest = i.rest k (λ within. omega (arith, e.later, behind within)) in
          (others.0 ∙ rest.0, others.1 ∙ rest.1);
      chances = λ k off. untouched k off ∙ i.chances k off;
    }

pub returns : goal.returns
returns g c = record {
  paid = λ mask within on. c.loop-set.invariant.paid mask
      (omega (arith, within-below mask c.args.named within, c.loop-set-test.false)) within on;
}

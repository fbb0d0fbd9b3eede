use Rattle.std.proofs.Common.{ℕ, ◌≤◌, ap}
use Rattle.std.proofs.lemmas.Result.{IfOk-weaker}
use Rattle.halo_status.specs.Naming.{NamesLivesBelow}
use Rattle.halo_status.specs.Pay.{PlainPay, pay_of}
use Rattle.halo_status.specs.View.{is_on}
use Rattle.halo_status.specs.declared.pay.Pay.{Pay}
use Rattle.halo_status.specs.declared.view.View.TheVariants.{Due as DueView}
use Rattle.halo_contract.specs.ValidContract.{IsValidPremium}
use Rattle.halo_along.specs.AtOnce.{PaysAtOnce}
use Rattle.halo_value.specs.declared.pass.TheConstants.{ALL_LIVES}
use Rattle.halo_value.proofs.AllLives.{exists-with-all}
use Rattle.halo_value.proofs.ShortTerms.{short-terms}
use Rattle.halo_value.proofs.pays.values_of_pay.Goals as goal

-- what a premium of 1 pays is due at once
premium-at-once : (n causes : ℕ) (pay : Pay) → n ≤ 12 → NamesLivesBelow n (pay_of pay).body
    → IsValidPremium n causes (pay_of pay) → PaysAtOnce pay 0 ALL_LIVES
premium-at-once n causes pay few named premium = record {
  due = ap (λ (p : PlainPay). p.kind) premium.level;
  level = ap (λ (p : PlainPay). p.vary) premium.level;
  at_once = ap (λ (p : PlainPay). p.defer) premium.level;
  exists_then = exists-with-all n (is_on DueView 0) (pay_of pay).body few named premium.at_start;
}

pub horizon-horizon-requires-clause-terms : goal.horizon-horizon-requires-clause-terms
horizon-horizon-requires-clause-terms g c n named =
    short-terms (pay_of c.args.pay.now).body c.requires.pay.valid.lengths n named

pub returns-clause-one : goal.returns-clause-one
returns-clause-one g c =
    IfOk-weaker c.pass.result _ _
    (λ values one causes premium. one
    (premium-at-once g.row.N causes c.args.pay.now c.tables.ensures.group.few c.requires.pay.named premium))
    c.pass.ensures.one

pub returns-then-goes_along_the_tree-clause-one : goal.returns-then-goes_along_the_tree-clause-one
returns-then-goes_along_the_tree-clause-one g c =
    IfOk-weaker c.values_along.result _ _
    (λ values one causes premium. one
    (premium-at-once g.row.N causes c.args.pay.now c.tables.ensures.group.few c.requires.pay.named premium))
    c.values_along.ensures.one

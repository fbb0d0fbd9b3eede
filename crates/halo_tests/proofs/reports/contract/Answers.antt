-- The contract is valid, part by part.
use Rattle.std.proofs.Common.{◌≡◌, ℕ, zero, suc, true, List, [], ◌∷◌}
use Rattle.std.proofs.Common.{◌++◌, Some, None, lit≤, lit<, map, ap, refl, rules, ◌∙◌, arith}
use Rattle.std.specs.Prelude.{slice_get}
use Rattle.std.proofs.lemmas.List.Elements.{All-cons, All-nil}
use Rattle.halo_sums.specs.Masks.{has_bit}
use Rattle.halo_interest.specs.Rates.{IsInterest}
use Rattle.halo_status.specs.Naming.{NamesLivesBelow}
use Rattle.halo_status.specs.Pay.{PlainPay, pay_of}
use Rattle.halo_status.specs.Tree.{Tree, last, life, more, none}
use Rattle.halo_status.specs.ValidPay.{IsValidPay}
use Rattle.halo_status.specs.declared.pay.Pay.{Pay}
use Rattle.halo_status.specs.declared.pay.Kind.{Kind}
use Rattle.halo_status.specs.declared.pay.Kind.TheVariants.{Due, Insurance}
use Rattle.halo_status.specs.declared.pay.Vary.TheVariants.{Level}
use Rattle.halo_table.specs.DecrementTable.{HasRow, TableFile}
use Rattle.halo_contract.specs.PlainContract.{PlainContract}
use Rattle.halo_contract.specs.ValidContract.{CanBeAlive, IsValidAmong, IsValidContract, IsValidReserve}
use Rattle.halo_contract.specs.declared.contract.LifeLine.{LifeLine}
use Rattle.halo_contract.specs.declared.contract.ReserveLine.{ReserveLine}
use Rattle.halo_tests.proofs.reports.contract.Goals as goal

abbrev either : Tree
either = last (more (life 0) (more (life 1) none))

abbrev plain : Kind → PlainPay
plain kind = record { amount = 1; vary = Level; kind = kind; defer = 0; causes = None; body = either; mark = None }

valid-pay : (kind : Kind) → IsValidPay (plain kind)
valid-pay kind = record {
  amount_from = lit≤ tt;
  amount_in = lit≤ tt;
  defer_in = lit≤ tt;
  vary = tt;
  lengths = search rules;
  lists = search rules;
  few_nodes = search rules;
  ranks = search rules;
  lasting = λ insured. search rules;
  causes = tt;
  mark = tt;
}

two-lives : NamesLivesBelow 2 either
two-lives = search rules

among : (kind : Kind) (causes : ℕ) → IsValidAmong 2 causes (plain kind)
among kind causes = record { valid = valid-pay kind; named = two-lives; by_cause = tt }

module _ (tables : TableFile) (first : HasRow tables 0 60) (later : HasRow tables 0 61) (x y : LifeLine)
    (is_x : x.life ≡ record { table = 0; age = 60 }) (is_y : y.life ≡ record { table = 0; age = 60 }) where
  first-alive : (i : ℕ) (line : LifeLine) → slice_get (x ∷ y ∷ []) i ≡ Some line → has_bit 1 i ≡ true
      → CanBeAlive tables 1 line
  first-alive zero line at alive = let same : x ≡ line = cc in rw (← same) (rw is_x later)
  first-alive (suc zero) line at alive = absurd (cc)
  first-alive (suc (suc i)) line at alive = absurd (cc)

  valid-contract : (contract : PlainContract) → IsInterest contract.interest → contract.lives ≡ x ∷ y ∷ []
      → contract.pays ≡ plain Insurance ∷ [] → contract.premium ≡ Some (plain Due)
      → contract.reserves ≡ record { time = 1; alive = 1 } ∷ [] → IsValidContract tables contract
  valid-contract contract interest lives pays premium reserves = record {
    interest = interest;
    some_lives = rw lives (omega arith);
    few_lives = rw lives (omega arith);
    rows = rw lives (All-cons (λ (line : LifeLine). HasRow tables line.life.table line.life.age) x (y ∷ []) (rw is_x
        first)
        (All-cons (λ (line : LifeLine). HasRow tables line.life.table line.life.age) y [] (rw is_y first)
        (All-nil (λ (line : LifeLine). HasRow tables line.life.table line.life.age))));
    some_pays = rw pays (omega arith);
    few_pays = rw pays (omega arith);
    amounts = rw pays (lit≤ tt);
    pays = rw (lives, pays) (All-cons (IsValidAmong 2 _) (plain Insurance) [] (among Insurance _) (All-nil
        (IsValidAmong 2 _)));
    premium = rw (lives, premium) (record { among = among Due _; level = refl; at_start = refl });
    few_reserves = rw reserves (omega arith);
    reserves = rw (lives, reserves) (All-cons (IsValidReserve tables (x ∷ y ∷ [])) _ []
        (record { time_in = lit≤ tt; declared = lit< tt; alive = first-alive })
        (All-nil (IsValidReserve tables (x ∷ y ∷ []))));
  }

pub returns : goal.returns
returns c tables first later =
    let x : LifeLine = c.in_ok-aged_60.field-0 in
    let y : LifeLine = c.in_ok-aged_60-2.field-0 in
    let pay : Pay = c.in_ok-level.field-0 in
    let lives = c.in_ok-push-2.ensures.items
    ∙ ap (λ (lines : List LifeLine). lines ++ y ∷ [])
    (c.in_ok-push.ensures.items ∙ ap (λ (lines : List LifeLine). lines ++ x ∷ []) c.new-lives.ensures.items) in
    let pays = ap (map pay_of)
    (c.in_ok-push-3.ensures.items ∙ ap (λ (ps : List Pay). ps ++ pay ∷ []) c.new-pays.ensures.items)
    ∙ ap (λ (p : PlainPay). p ∷ []) c.in_ok-level.ensures in
    let reserves = c.in_ok-push-4.ensures.items
    ∙ ap (λ (rs : List ReserveLine). rs ++ record { time = 1; alive = 1 } ∷ []) c.new-reserves.ensures.items in
    valid-contract tables first later x y c.in_ok-aged_60.ensures c.in_ok-aged_60-2.ensures _
    c.fractions-fractions.ensures.interest lives pays (ap (λ (p : PlainPay). Some p) c.in_ok-premium.ensures) reserves

-- There is a form for each pay, and one for the premium, where there is one.
use Rattle.std.proofs.Common.{◌≡◌, ◌+◌, ◌++◌, List, [], ◌∷◌, Option, Some, ap, arith, length, length-append, map}
use Rattle.std.proofs.lemmas.List.{length-map}
use Rattle.std.specs.Option.{option_map, option_to_list}
use Rattle.halo_status.specs.Pay.{pay_of}
use Rattle.halo_status.specs.declared.pay.Pay.{Pay}
use Rattle.halo_tests.proofs.texts.compile_all.Goals as goal
use Rattle.halo_tests.proofs.texts.compile_all.Goals.{in-Some+in_ok-three_years-2+in_ok-push-2, in_default}

one-more : {X : Type 0} (xs : List X) (x : X) (pays : List Pay) (premium : Option Pay) (pay : Pay) → premium ≡ Some pay
    → length xs ≡ length pays
    → length (xs ++ x ∷ []) ≡ length (map pay_of pays) + length (option_to_list (option_map pay_of premium))
one-more xs x pays premium pay is all = rw is (omega (arith, length-map pays pay_of, length-append xs (x ∷ []), all))

pub returns : goal.returns
returns c =
    let pays = c.args.contract.now.pays.items in
    let all : length c.loop-pay.forms.items ≡ length pays =
    omega (arith, c.loop-pay.invariant, ap length c.deref-pay-items.ensures.value) in
    elim c.match-contract.branch [
      | in-Some+in_ok-three_years-2+in_ok-push-2 w ↦
          let more = one-more c.loop-pay.forms.items _ pays _ w.in-Some.pay w.in-Some.is all in
          rw (w.forms-is, w.in_ok-push-2.ensures.items) more
      | in_default w ↦ rw (w.forms-is, w.in_default.is) (omega (arith, length-map pays pay_of, all))
    ]

-- What the product of a discount factor and a chance along the tree encloses: the value of 1 paid if the body exists.
use Rattle.std.proofs.Common.{◌≡◌, ℕ, ◌+◌, ◌*◌, ◌-◌, ◌<◌, ◌≤◌, List, Bool, true, false, cond, pos, ◌*ℤ◌, ◌≤ℤ◌, None, arith, refl, ap}
use Rattle.std.proofs.Math.Nat.{mul-pos}
use Rattle.halo_sums.specs.Masks.{has_bit}
use Rattle.halo_sums.proofs.Integers.{le_of_mul_pos, le_trans}
use Rattle.halo_num.specs.Ends.{Ends, fine}
use Rattle.halo_num.specs.Chance.{EnclosesChance}
use Rattle.halo_num.proofs.Chances.{chance_wider}
use Rattle.halo_interest.proofs.InForce.{in_force_is}
use Rattle.halo_interest.specs.Rates.{IsInterest}
use Rattle.halo_status.specs.Naming.{names_life}
use Rattle.halo_status.specs.Nodes.{nodes}
use Rattle.halo_status.specs.Pay.{PlainPay, pay_of}
use Rattle.halo_status.specs.View.{is_on}
use Rattle.halo_status.specs.declared.view.View.{View}
use Rattle.halo_contract.specs.declared.ties.Ties.{Ties}
use Rattle.halo_model.specs.Basis.{Basis}
use Rattle.halo_model.specs.ByTree.{weight_of, whole_of}
use Rattle.halo_model.specs.Coefficient.{view_of}
use Rattle.halo_model.specs.Enclosed.{of_one}
use Rattle.halo_model.specs.Independent.{started_of, survivors_of}
use Rattle.halo_model.specs.PartsByTree.{waiting}
use Rattle.halo_model.proofs.Positive.{some-interest}
use Rattle.halo_life.specs.PlainGroup.{IsGroup}
use Rattle.halo_life.proofs.AlongTree.{started-is}
use Rattle.halo_compile.proofs.Living.{living-survive}
use Rattle.halo_compile.proofs.Tasks.{count-lives, group-lives}
use Rattle.halo_chance.specs.Enclosed.{AreEnclosed, life_widths}
use Rattle.halo_chance.specs.Present.{discount_to, discount_whole}
use Rattle.halo_chance.proofs.Enclosing.{whole-positive}
use Rattle.halo_chance.proofs.Present.{existing-present}
use Rattle.halo_along.specs.Along.{IsTreeTask, basis_of_tree_task}
use Rattle.halo_along.specs.Lives.{EncloseSurvival}
use Rattle.halo_along.specs.Years.{EnclosesPresent, IsDiscount, present_value_of_one, width_of_one}
use Rattle.halo_along.specs.declared.tree_task.TreeTask.{TreeTask}
use Rattle.halo_along.proofs.Counting.{places-in-nodes}

-- the ends of a chance are in order
in-order : (n d w : ℕ) (i : Ends) → 0 < d → EnclosesChance n d w i → i.lo ≤ℤ i.hi
in-order n d w i some is = le_of_mul_pos i.lo i.hi d some
    (le_trans (i.lo *ℤ pos d) (pos n *ℤ pos fine) (i.hi *ℤ pos d) is.encloses.low is.encloses.high)

module _ {n : ℕ} (along : TreeTask n) (is : IsTreeTask along) (plain : along.pay.now.mark ≡ None)
    (group : IsGroup n along.group.now) (interest : IsInterest along.interest.now) (ties : Ties) where
  abbrev b : Basis
  b = basis_of_tree_task along ties

  abbrev pay : PlainPay
  pay = of_one (pay_of along.pay.now)

  abbrev start : ℕ
  start = along.group.now.start

  abbrev living : ℕ → Bool
  living = has_bit along.group.now.alive

  module _ (t : ℕ) (from : start ≤ t) (to : t ≤ along.horizon) where
    abbrev there : ℕ → ℕ
    there = survivors_of (λ j. t) living b.lives

    abbrev started : ℕ → ℕ
    started = started_of start living b.lives

    abbrev weight : ℕ
    weight = weight_of there started (is_on (view_of pay.kind) t) pay.body

    abbrev whole : ℕ
    whole = whole_of started pay.body

    -- the entries enclose the chances of the lives that the body names
    lives-enclosed : (entries : List Ends) → EncloseSurvival along.group.now t n entries
        → AreEnclosed there started (λ i. 1) entries (λ i. names_life i pay.body)
    unfolding EncloseSurvival
    lives-enclosed entries survivals = record {
      some = λ i named. some i (is.lives i named);
      each = λ i named. survivals i (is.lives i named);
    }
      where
        cond-some : (alive : Bool) (l : ℕ) → (alive ≡ true → 0 < l) → 0 < cond alive l 1
        cond-some true l h = h refl
        cond-some false l h = omega arith

        some : (i : ℕ) → i < n → 0 < started i
        some i below = rw (started-is along.group.now.file start living along.group.now.lives i (omega (
          arith,
          below,
          group.count,
        ))) (cond-some (living i) _ (living-survive n along.group.now group i below))

    some-whole : (entries : List Ends) → EncloseSurvival along.group.now t n entries → 0 < whole
    some-whole entries survivals =
        whole-positive there started (λ i. 1) entries pay.body (lives-enclosed entries survivals)

    some-discount : 0 < discount_whole b start t
    some-discount = some-interest b.p b.q (t - start) start
        (λ k since below. omega (arith, (in_force_is along.interest.now interest k).q_from))

    -- the clauses of the calls for the chance of the body and for a product
    abbrev IsExistence : List Ends → View → Ends → Type 0
    IsExistence entries view chance = AreEnclosed there started (λ i. 1) entries (λ i. names_life i pay.body)
        → EnclosesChance (weight_of there started (is_on view t) pay.body) whole
        (life_widths (λ i. 1) pay.body + nodes pay.body) chance

    abbrev Multiplies : Ends → Ends → Ends → Type 0
    Multiplies discount chance product = (m k d e v w : ℕ) → EnclosesChance m d v discount
        → EnclosesChance k e w chance → EnclosesChance (m * k) (d * e) (v + w + 1) product

    -- i encloses the product of the discount factor and of the chance of the body
    abbrev IsProduct : Ends → Type 0
    IsProduct i =
        EnclosesChance (discount_to b start t * weight) (discount_whole b start t * whole) (width_of_one along) i

    -- as the calls give it
    product-is : (entries : List Ends) (discount chance product : Ends) (view : View)
        → EncloseSurvival along.group.now t n entries → IsDiscount along t discount → view ≡ view_of pay.kind
        → IsExistence entries view chance → Multiplies discount chance product
        → IsProduct product
    product-is entries discount chance product view survivals is_discount sees is_chance multiplied =
        chance_wider _ _ (3 * (t - start) + (life_widths (λ i. 1) pay.body + nodes pay.body) + 1) _ product
        (omega (arith, places-in-nodes pay.body, to))
        (multiplied _ weight _ whole (3 * (t - start)) (life_widths (λ i. 1) pay.body + nodes pay.body) is_discount
        (rw sees at (is_chance (lives-enclosed entries survivals))))

    -- it encloses the value at the start of 1 paid at t if the body exists then
    product-encloses : (product : Ends) → 0 < whole → IsProduct product
        → EnclosesPresent b start living (present_value_of_one b pay start living t) (width_of_one along) 1 product
    product-encloses product some is_product = record {
      encloses =
          existing-present b (group-lives n along.group.now group) pay is.once
          (λ i named. omega (arith, is.lives i named, count-lives along.group.now, group.count))
          start t from (omega (arith, to, is.horizon_in)) living product (rw waits some)
          (rw waits is_product.encloses);
      narrow = is_product.narrow;
      within = is_product.within;
    }
      where
        waits : waiting pay.mark pay.body ≡ pay.body
        waits = ap (λ mark. waiting mark pay.body) plain

    -- and its ends are in order
    pub one-paid : (entries : List Ends) (discount chance product : Ends) (view : View)
        → EncloseSurvival along.group.now t n entries → IsDiscount along t discount → view ≡ view_of pay.kind
        → IsExistence entries view chance → Multiplies discount chance product
        → EnclosesPresent b start living (present_value_of_one b pay start living t) (width_of_one along) 1 product
        × (product.lo ≤ℤ product.hi)
    one-paid entries discount chance product view survivals is_discount sees is_chance multiplied =
        let some = some-whole entries survivals in
        let product_is =
        product-is entries discount chance product view survivals is_discount sees is_chance multiplied in (
          product-encloses product some product_is,
          in-order _ (discount_whole b start t * whole) _ product (mul-pos some-discount some) product_is,
        )

-- What is valued along the tree of its body: a pay of amount 1 on a basis, with lives that have
-- survivors.
use Rattle.std.specs.Prelude.{◌≡◌, ◌⊎◌, None, ℕ, ◌+◌, ◌*◌, ◌^◌, ◌<◌, ◌≤◌, true}
use Rattle.halo_sums.specs.Masks.{has_bit}
use Rattle.halo_num.specs.Ends.{Ends}
use Rattle.halo_interest.specs.declared.powers.TheConstants.{LAST_TIME}
use Rattle.halo_status.specs.Naming.{NamesLivesBelow}
use Rattle.halo_status.specs.Nodes.{nodes}
use Rattle.halo_status.specs.Pay.{pay_of}
use Rattle.halo_status.specs.ReadOnce.{IsReadOnce}
use Rattle.halo_status.specs.ValidPay.{IsValidPay}
use Rattle.halo_status.specs.declared.pay.Kind.TheVariants.{Insurance}
use Rattle.halo_status.specs.declared.pay.Pay.{Pay}
use Rattle.halo_contract.specs.declared.ties.Ties.{Ties}
use Rattle.halo_contract.specs.declared.ties.Ties.TheVariants.{Declared}
use Rattle.halo_model.specs.Basis.{Basis}
use Rattle.halo_model.specs.ContractBasis.{basis_of}
use Rattle.halo_model.specs.Counts.{lives_named}
use Rattle.halo_model.specs.Enclosed.{EnclosesOne}
use Rattle.halo_model.specs.FromTables.{lives_of}
use Rattle.halo_model.specs.Horizon.{horizon}
use Rattle.halo_life.specs.PlainGroup.{PlainGroup, survivors_in}
use Rattle.halo_along.specs.declared.tree_task.TreeTask.{TreeTask}

-- a valid pay whose body is read once, on the lives of a group, with its horizon on them
pub record IsTreeTask {n : ℕ} (along : TreeTask n) : Type 0 where
  pub valid : IsValidPay (pay_of along.pay.now)
  pub once : IsReadOnce (pay_of along.pay.now).body
  pub lives : NamesLivesBelow n (pay_of along.pay.now).body
  pub horizon_is : along.horizon
      ≡ horizon (lives_of along.group.now.file along.group.now.lives) (pay_of along.pay.now).body
  pub horizon_in : along.horizon ≤ LAST_TIME

-- its lives and its interest, with a rule for ties
abbrev pub basis_of_tree_task : {n : ℕ} → TreeTask n → Ties → Basis
basis_of_tree_task along ties =
    basis_of along.group.now.file along.interest.now along.group.now.lives ties

-- the lives of a set that there are of n have survivors at time t: each has a row at its age then
abbrev pub HaveSurvivorsAt : ℕ → PlainGroup → ℕ → ℕ → Type 0
HaveSurvivorsAt n group t alive =
    (i : ℕ) → i < n → has_bit alive i ≡ true → 0 < survivors_in group t i

-- i encloses the value at time t of the pay, with amount 1, where the lives of a set are alive, by
-- either rule for ties
unfoldable pub EnclosesAlong : {n : ℕ} → TreeTask n → ℕ → ℕ → Ends → Type 0
EnclosesAlong along t alive i = (ties : Ties) →
    EnclosesOne (basis_of_tree_task along ties) (pay_of along.pay.now) t (has_bit alive) i

-- the pay falls due by its body alone: it is an annuity, or an insurance without mark and causes
abbrev pub PaysByItsBody : Pay → Type 0
PaysByItsBody pay = pay.kind ≡ Insurance → (pay.mark ≡ None) × (pay.causes ≡ None)

-- the value of the pay by the group's rule for ties is told along the tree: it falls due by its
-- body alone, or the lives of one year leave in the declared order
abbrev pub FollowsTheTree : {n : ℕ} → TreeTask n → Type 0
FollowsTheTree along = PaysByItsBody along.pay.now ⊎ (along.group.now.ties ≡ Declared)

-- i encloses the value at time t of the pay, with amount 1, where the lives of a set are alive, by
-- the group's rule for ties
abbrev pub EnclosesValue : {n : ℕ} → TreeTask n → ℕ → ℕ → Ends → Type 0
EnclosesValue along t alive i =
    let b = basis_of_tree_task along along.group.now.ties in
    EnclosesOne b (pay_of along.pay.now) t (has_bit alive) i

-- the most products of a valuation along a tree of m nodes with a horizon of H years:
-- 16 (H + 1) (m + 1)²
abbrev pub products_along : {n : ℕ} → TreeTask n → ℕ
products_along along = 16 * (along.horizon + 1) * (nodes (pay_of along.pay.now).body + 1) ^ 2

-- and of one that asks for the order in which the n lives that the body names leave:
-- 16 (H + 1) (n + 1) (m + 1)²
abbrev pub products_in_order : {n : ℕ} → TreeTask n → ℕ
products_in_order {n} along =
    (lives_named n (pay_of along.pay.now).body + 1) * products_along along

-- Pure endowments of sets of lives.
use Rattle.std.specs.Prelude.{◌≡◌, ℕ, ◌+◌, ◌-◌, ◌*◌, ◌<◌, List, get_or, true}
use Rattle.halo_sums.specs.Masks.{bits}
use Rattle.halo_sums.specs.Sets.{in_set, size_of}
use Rattle.halo_sums.specs.Sums.{numbers_from, product_over}
use Rattle.halo_sums.specs.Within.{is_within}
use Rattle.halo_num.specs.Chance.{EnclosesChance}
use Rattle.halo_num.specs.Ends.{Ends}
use Rattle.halo_model.specs.Basis.{Basis}
use Rattle.halo_model.specs.OrderLaws.{no_life}
use Rattle.halo_model.specs.Outcome.{joint_survivors}
use Rattle.halo_chance.specs.Enclosed.{entry_at}
use Rattle.halo_life.specs.Lists.{Lists, entry}

-- i encloses the pure endowment of a set of n lives, all alive at T: the value at T of 1 paid at
-- time t if all of them are alive then. It is at most 3 wide for each year and 2 for each life.
-- ₙE_x = v^n · ₙp_x
abbrev pub EnclosesEndowment : Basis → ℕ → ℕ → ℕ → ℕ → Ends → Type 0
EnclosesEndowment b n T t mask i = EnclosesChance
    (product_over (numbers_from T (t - T)) b.q * joint_survivors t (in_set (bits n mask)) b.lives)
    (product_over (numbers_from T (t - T)) (λ k. b.p k + b.q k)
    * joint_survivors T (in_set (bits n mask)) b.lives)
    (3 * (t - T) + 2 * size_of (bits n mask))
    i

-- the entries of `plus` of the sets within one enclose their pure endowments from T to t
abbrev pub HoldEndowmentsOf : Basis → ℕ → ℕ → ℕ → ℕ → Lists → Type 0
HoldEndowmentsOf b n T t named lists = (mask : ℕ) → is_within mask named ≡ true →
    EnclosesEndowment b n T t mask (entry lists.plus mask)

-- the entries of n lives, all alive at T, enclose their chances to be alive at t, each at most 1
-- wide
abbrev pub AreSurvivals : Basis → ℕ → ℕ → ℕ → List Ends → Type 0
AreSurvivals b n T t entries = (i : ℕ) → i < n → EnclosesChance
    ((get_or b.lives i no_life).survivors t) ((get_or b.lives i no_life).survivors T) 1
    (entry_at entries i)

-- The interest of one year more.
use Rattle.std.proofs.Common.{◌≡◌, ℕ, suc, ◌+◌, ◌*◌, ◌-◌, ◌<◌, arith, refl}
use Rattle.halo_model.specs.Basis.{Basis, accumulated}

pub accumulated-year : (b : Basis) (t : ℕ) → t < b.last_time → accumulated b t ≡ (b.p t + b.q t) * accumulated b (suc t)
accumulated-year b t h = let e : b.last_time - t ≡ suc (b.last_time - suc t) = omega arith in rw e refl

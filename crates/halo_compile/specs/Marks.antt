-- The sets of lives on which a pay exists, as marks at their masks.
use Rattle.std.specs.Prelude.{◌≡◌, ℕ, ◌<◌, Bool, true, false, List, get_or}
use Rattle.halo_sums.specs.Masks.{has_bit}
use Rattle.halo_sums.specs.Within.{is_within}
use Rattle.halo_status.specs.Blocks.{IsInBlock}
use Rattle.halo_status.specs.Naming.{names_life}
use Rattle.halo_status.specs.Pay.{PlainPay}
use Rattle.halo_status.specs.Tree.{Tree}
use Rattle.halo_status.specs.View.{is_on}
use Rattle.halo_model.specs.Coefficient.{exists_by_mark, view_of}

-- some lives are those of n lives that a status names
abbrev pub AreNamed : ℕ → Tree → ℕ → Type 0
AreNamed n status named = (i : ℕ) → i < n → has_bit named i ≡ names_life i status

-- of the sets within some lives those are marked on which a pay exists at a time
abbrev pub MarksExistence : PlainPay → ℕ → ℕ → List Bool → Type 0
MarksExistence pay t named marked =
    (k : ℕ) → is_within k named ≡ true → get_or marked k false
    ≡ exists_by_mark pay.mark pay.body (has_bit k) (is_on (view_of pay.kind) t)

-- and those of a block of 64 sets, as the bits of one number
abbrev pub MarksBlock : PlainPay → ℕ → ℕ → ℕ → Type 0
MarksBlock pay t block marks =
    IsInBlock block (λ alive. exists_by_mark pay.mark pay.body alive (is_on (view_of pay.kind) t))
    marks

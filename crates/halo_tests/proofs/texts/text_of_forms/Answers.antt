-- The contract is spellable since a file writes it, and it has three lives.
use Rattle.std.proofs.Common.{◌≡◌, arith, length, refl}
use Rattle.halo_tests.proofs.texts.text_of_forms.Goals as goal

pub form_text-requires : goal.form_text-requires
form_text-requires c =
    λ c'.
    let three : length c'.in_ok-contract.contract.lives.items ≡ 3 = omega arith in (
      omega arith,
      (
        rw three refl,
        (
          omega (three, arith),
          (
            rw c'.deref.ensures.value c'.in_ok-forms.ensures,
            c'.contracts_are_spellable.ensures _ _ _ c'.in_ok-contract.ensures,
          ),
        ),
      ),
    )

use Rattle.std.proofs.Common.{◌≡◌, ◌∙◌, Bool, false, true, refl}
use Rattle.halo_life.specs.PlainGroup.{is_even}
use Rattle.halo_insure.proofs.parts.dues_on_life.Goals as goal

not-both : {A : Type 0} (b : Bool) → b ≡ true → b ≡ false → A
not-both b is isnt = absurd (cc)

pub returns-then-is_even-clause-no_pass : goal.returns-then-is_even-clause-no_pass
returns-then-is_even-clause-no_pass g c = λ in_order.
    let declared : is_even c.args.task.now.group.now.ties ≡ false = rw in_order refl in
    not-both c.is_even.result c.if-is_even.true (c.is_even.ensures.value ∙ declared)

use Rattle.std.proofs.Common.{◌≡◌, ℕ, ◌+◌, ◌++◌, [], ◌∷◌, ap, arith, ◌∙◌}
use Rattle.halo_sums.specs.Sums.{numbers_from}
use Rattle.halo_sums.proofs.Numbers.{numbers_from-add}
use Rattle.halo_status.specs.Pay.{pay_of}
use Rattle.halo_model.specs.PayPart.{parts_on_lives}
use Rattle.halo_compile.specs.OfTask.{basis_of_task}
use Rattle.halo_value.proofs.EventParts.{lives-then}
use Rattle.halo_value.proofs.Explained.{adds-then}
use Rattle.halo_value.proofs.events.push_lives.Goals as goal

pub loop-life-preserved : goal.loop-life-preserved
loop-life-preserved g c =
    let task = c.args.task.now in
    let pay = pay_of task.pay.now in
    let here : 0 + c.loop-life.life ≡ c.loop-life.life = omega arith in
    let past = numbers_from 0 c.loop-life.life in
    let more = numbers_from-add c.loop-life.life 1 0 ∙ ap (λ (n : ℕ). past ++ n ∷ []) here in
    rw (ap (parts_on_lives pay.body) more ∙ lives-then pay.body past (c.loop-life.life ∷ []))
    (adds-then g.row.N (basis_of_task task task.group.now.ties) pay _ _ c.args.into.now.items c.loop-life.into.items
    c.push_life.new.into.items c.loop-life.invariant c.in_ok-push_life.ensures)

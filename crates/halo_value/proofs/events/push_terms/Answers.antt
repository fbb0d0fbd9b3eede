use Rattle.std.proofs.Common.{◌≡◌, ◌+◌, ◌++◌, [], ◌∷◌, ap, arith, subst, ℕ, ◌∙◌}
use Rattle.halo_interest.specs.declared.powers.TheConstants.{LAST_TIME}
use Rattle.halo_value.specs.Explained.{AddsParts}
use Rattle.halo_sums.specs.Sums.{numbers_from}
use Rattle.halo_sums.proofs.Numbers.{numbers_from-add}
use Rattle.halo_status.specs.Pay.{pay_of}
use Rattle.halo_model.specs.PayPart.{parts_on_terms}
use Rattle.halo_compile.specs.OfTask.{basis_of_task}
use Rattle.halo_value.proofs.EventParts.{terms-then}
use Rattle.halo_value.proofs.Explained.{adds-then}
use Rattle.halo_value.proofs.events.push_terms.Goals as goal

pub loop-before-preserved : goal.loop-before-preserved
loop-before-preserved g c =
    let task = c.args.task.now in
    let pay = pay_of task.pay.now in
    let next : 1 + c.loop-before.before ≡ c.loop-before.before + 1 = omega arith in
    let past = numbers_from 1 c.loop-before.before in
    let more = numbers_from-add c.loop-before.before 1 1 ∙ ap (λ (n : ℕ). past ++ n ∷ []) next in
    rw (ap (parts_on_terms pay.body) more ∙ terms-then pay.body past ((c.loop-before.before + 1) ∷ []))
    (adds-then g.row.N (basis_of_task task task.group.now.ties) pay _ _ c.args.into.now.items
    c.loop-before.into.items c.push_term.new.into.items c.loop-before.invariant c.in_ok-push_term.ensures)

pub returns : goal.returns
returns g c =
    let task = c.args.task.now in
    let pay = pay_of task.pay.now in
    let all : c.loop-before.before ≡ LAST_TIME = omega (arith, c.loop-before-test.false) in
    subst (λ (k : ℕ). AddsParts g.row.N (basis_of_task task task.group.now.ties) pay
    (parts_on_terms pay.body (numbers_from 1 k)) c.args.into.now.items c.loop-before.into.items)
    all c.loop-before.invariant

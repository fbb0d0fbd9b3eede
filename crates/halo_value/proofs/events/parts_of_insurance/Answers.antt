use Rattle.std.proofs.Common.{◌≡◌, ◌++◌, [], length, sym, ap, ◌∙◌, ℕ}
use Rattle.std.specs.List.{AllZip}
use Rattle.halo_lines.specs.Parts.{TellsPart}
use Rattle.halo_interest.specs.declared.powers.TheConstants.{LAST_TIME}
use Rattle.halo_sums.specs.Sums.{numbers_from}
use Rattle.halo_status.specs.Pay.{pay_of}
use Rattle.halo_model.specs.PayPart.{parts_on_lives, parts_on_terms}
use Rattle.halo_compile.specs.OfTask.{basis_of_task}
use Rattle.halo_compile.proofs.Tasks.{count-lives}
use Rattle.halo_value.proofs.Explained.{adds-then, insurance-parts-are}
use Rattle.halo_value.proofs.events.parts_of_insurance.Goals as goal

pub returns-clause-explains : goal.returns-clause-explains
returns-clause-explains g c =
    let task = c.args.task.now in
    let pay = pay_of task.pay.now in
    let b = basis_of_task task task.group.now.ties in
    let count : length b.lives ≡ g.row.N = count-lives task.group.now ∙ c.start-start.ensures.group.count in
    let lives = parts_on_lives pay.body (numbers_from 0 g.row.N) in
    let terms = parts_on_terms pay.body (numbers_from 1 LAST_TIME) in
    let all = adds-then g.row.N b pay lives terms _ _ _ c.in_ok-push_lives.ensures c.in_ok-push_terms.ensures in
    let none : AllZip (TellsPart b pay) [] c.new-parts.result.items = rw c.new-parts.ensures.items tt in (
      lives ++ terms,
      insurance-parts-are pay.kind b pay (lives ++ terms) c.requires.insurance
          (ap (λ (k : ℕ). parts_on_lives pay.body (numbers_from 0 k) ++ terms) (sym count)),
      all.tells [] none,
    )

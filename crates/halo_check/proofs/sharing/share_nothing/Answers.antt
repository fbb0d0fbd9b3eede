-- The masks of the lives have no bit in common where no life is shared.
use Rattle.std.proofs.Common.{◌∙◌, sym}
use Rattle.std.proofs.lemmas.Bool.{eqb-true}
use Rattle.halo_status.specs.StatusTree.{tree_of}
use Rattle.halo_status.specs.ValidPay.{SharesNothing}
use Rattle.halo_check.proofs.ApartStatuses.{apart_masks, masks_apart}
use Rattle.halo_check.proofs.sharing.share_nothing.Goals as goal

pub returns-then-lives-eq0 : goal.returns-then-lives-eq0
returns-then-lives-eq0 c = (
  (λ terms. record {
    lives =
        (λ i one other. masks_apart _ _ c.if-lives-eq0.true i (c.lives.ensures i ∙ one) (c.lives-2.ensures i ∙ other));
    terms = c.shares_no_term.ensures.0 terms;
  }),
  (λ nothing. c.shares_no_term.ensures.1 nothing.terms),
)

pub returns-else-lives-eq0 : goal.returns-else-lives-eq0
returns-else-lives-eq0 c =
    let shared : SharesNothing (tree_of c.args.one.now) (tree_of c.args.other.now) → ⊥ =
    λ nothing. c.if-lives-eq0.false (apart_masks _ _
    (λ i one other. nothing.lives i (sym (c.lives.ensures i) ∙ one) (sym (c.lives-2.ensures i) ∙ other))) in
    ((λ none. absurd (c.if-lives-eq0.false (eqb-true _ _ none))), (λ nothing. absurd (shared nothing)))

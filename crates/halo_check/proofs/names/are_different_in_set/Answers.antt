use Rattle.std.proofs.Common.{◌≡◌, ◌∷◌, ◌++◌, ◌∙◌, [], ap}
use Rattle.halo_check.proofs.names.are_different_in_set.Goals as goal

pub returns : goal.returns
returns c =
    let pushed : c.push.new.self.items ≡ c.args.names.now.first ∷ [] =
    c.in_ok-push.ensures.items ∙ ap (λ items. items ++ c.args.names.now.first ∷ []) c.new-all.ensures.items in
    let all : c.deref-2.result.now ≡ c.args.names.now.first ∷ c.args.names.now.others.items =
    c.deref-2.ensures.value ∙ c.in_ok-extend_from_slice.ensures.items ∙ ap (λ items. items ++ c.deref.result.now) pushed
    ∙ ap (λ items. c.args.names.now.first ∷ items) c.deref.ensures.value in
    rw all at c.are_different.ensures

-- The mask so far grows by the bit of a life that is named.
use Rattle.std.proofs.Common.{◌≡◌, ◌<◌, ◌∙◌, map, length, sym, ap, arith}
use Rattle.std.proofs.lemmas.List.{length-map}
use Rattle.halo_check.specs.Draft.{is_among}
use Rattle.halo_contract.specs.PlainContract.{life_names}
use Rattle.halo_check.proofs.MasksOfTests.{mask_with, mask_without}
use Rattle.halo_check.proofs.PlacesOfLives.{get_or-life_names}
use Rattle.halo_parse.proofs.masks.mask_of_lives.Goals as goal
use Rattle.halo_parse.proofs.masks.mask_of_lives.Goals.{then-is_among, else-is_among}

pub loop-place-preserved : goal.loop-place-preserved
loop-place-preserved c =
    let names = life_names c.args.lives.now in
    let among = is_among (map (λ name. name.now) c.args.names.now) in
    let tested : c.is_among.result ≡ among c.index-lives-place.result.name =
    c.is_among.ensures ∙ ap among c.bytes.ensures.same in
    let here : c.loop-place.place < length names = omega (arith, length-map c.args.lives.now (λ line. line.name)) in
    let is =
    get_or-life_names c.args.lives.now _ c.index-lives-place.result c.loop-place-test.true c.index-lives-place.is in
    elim c.if-is_among.branch [
      | then-is_among w ↦
          w.mask-is ∙ mask_with among names _ _ _ here is c.loop-place.invariant 16 (omega arith)
          (sym tested ∙ w.if-is_among.true)
      | else-is_among w ↦
          w.mask-is ∙ mask_without among names _ _ _ here is c.loop-place.invariant (sym tested ∙ w.if-is_among.false)
    ]

-- Whether the status of a premium exists at the start.
use Rattle.std.proofs.Common.{◌≡◌, ◌∙◌, ◌↔◌, Bool, ap, sym}
use Rattle.std.specs.Prelude.{IsTrue}
use Rattle.halo_sums.specs.Masks.{has_bit}
use Rattle.halo_status.specs.Exists.{exists}
use Rattle.halo_status.specs.Naming.{NamesLivesBelow}
use Rattle.halo_status.specs.Pay.{PlainPay}
use Rattle.halo_status.specs.StatusTree.{tree_of}
use Rattle.halo_status.specs.View.{is_on}
use Rattle.halo_status.specs.declared.pay.Pay.{Pay}
use Rattle.halo_status.specs.declared.view.View.TheVariants.{Due}
use Rattle.halo_contract.specs.Premium.{all_lives}
use Rattle.halo_table.specs.DecrementTable.{TableFile}
use Rattle.halo_check.specs.Addition.{Adds}
use Rattle.halo_check.specs.Checks.{ExistsAtStart, status_tree}
use Rattle.halo_check.specs.Draft.{Draft}
use Rattle.halo_syntax.specs.Line.{Line, interest, life, ties, pay, premium, reserve}
use Rattle.halo_check.specs.declared.addition.Addition.TheVariants as addition
use Rattle.halo_check.proofs.SameLives.{exists-all}

pub start_told : (tables : TableFile) (d : Draft) (l : Line) (p : Pay) (found : Bool)
    → Adds tables d l (addition.Premium p) → NamesLivesBelow 16 (tree_of p.body)
    → found ≡ exists (has_bit 65535) (is_on Due 0) (tree_of p.body) → IsTrue found ↔ ExistsAtStart d l
start_told tables d (premium status) p found adds below told =
    let same : tree_of p.body ≡ status_tree d status = ap (λ (plain : PlainPay). plain.body) adds in
    let exact : found ≡ exists all_lives (is_on Due 0) (status_tree d status) =
    told ∙ exists-all (is_on Due 0) (tree_of p.body) below ∙ ap (exists all_lives (is_on Due 0)) same in
    (λ h. sym exact ∙ h, λ h. exact ∙ h)
start_told tables d (interest first q rates) p found adds below told = absurd adds
start_told tables d (life name table age) p found adds below told = absurd adds
start_told tables d (ties r) p found adds below told = absurd adds
start_told tables d (pay amount s) p found adds below told = absurd adds
start_told tables d (reserve time names) p found adds below told = absurd adds

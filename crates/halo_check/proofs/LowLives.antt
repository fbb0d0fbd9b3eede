-- The lives that a line adds pays on have low numbers.
use Rattle.std.proofs.Common.{◌≡◌, ◌≤◌, ℕ, length, ap, arith, subst, sym}
use Rattle.std.proofs.lemmas.List.{length-map}
use Rattle.halo_status.specs.Naming.{NamesLivesBelow}
use Rattle.halo_status.specs.Pay.{PlainPay}
use Rattle.halo_status.specs.StatusTree.{tree_of}
use Rattle.halo_status.specs.Tree.{Tree}
use Rattle.halo_table.specs.DecrementTable.{TableFile}
use Rattle.halo_check.specs.Addition.{Adds, NamesLowLives}
use Rattle.halo_check.specs.Checks.{HasLives, status_tree, symbol_tree}
use Rattle.halo_check.specs.Draft.{Draft}
use Rattle.halo_contract.specs.PlainContract.{life_names}
use Rattle.halo_syntax.specs.Line.{Line, interest, life, ties, pay, premium, reserve}
use Rattle.halo_check.specs.declared.addition.Addition.{Addition}
use Rattle.halo_check.specs.declared.addition.Addition.TheVariants as addition
use Rattle.halo_contract.specs.declared.contract.LifeLine.{LifeLine}
use Rattle.halo_check.proofs.LivesPlaced.{placed-body, placed-content}

low : (n : ℕ) (s t : Tree) → n ≤ 12 → t ≡ s → NamesLivesBelow n s → NamesLivesBelow 16 t
low n s t few same below =
    subst (NamesLivesBelow 16) (sym same) (λ i named. let lt = below i named in omega (arith, lt, few))

-- they are lives of the draft, which has at most 12
pub low_lives : (tables : TableFile) (d : Draft) (l : Line) (a : Addition) → length d.lives ≤ 12 → HasLives d l
    → Adds tables d l a → NamesLowLives a
low_lives tables d l (addition.Interest rates) few declared adds = tt
low_lives tables d l (addition.Life declared_life) few declared adds = tt
low_lives tables d l (addition.Ties rule) few declared adds = tt
low_lives tables d l (addition.Reserve line) few declared adds = tt
low_lives tables d (pay amount s) (addition.Pay p) few declared adds =
    low (length (life_names d.lives)) (symbol_tree d s) (tree_of p.body)
    (rw (length-map d.lives (λ (line : LifeLine). line.name)) few) (ap (λ (plain : PlainPay). plain.body) adds)
    (placed-content (life_names d.lives) s.mark s.body declared)
low_lives tables d (premium body) (addition.Premium p) few declared adds =
    low (length (life_names d.lives)) (status_tree d body) (tree_of p.body)
    (rw (length-map d.lives (λ (line : LifeLine). line.name)) few) (ap (λ (plain : PlainPay). plain.body) adds)
    (placed-body (life_names d.lives) body declared)
low_lives tables d (interest p q rates) (addition.Pay x) few declared adds = absurd adds
low_lives tables d (life name table age) (addition.Pay x) few declared adds = absurd adds
low_lives tables d (ties r) (addition.Pay x) few declared adds = absurd adds
low_lives tables d (premium body) (addition.Pay x) few declared adds = absurd adds
low_lives tables d (reserve time names) (addition.Pay x) few declared adds = absurd adds
low_lives tables d (interest p q rates) (addition.Premium x) few declared adds = absurd adds
low_lives tables d (life name table age) (addition.Premium x) few declared adds = absurd adds
low_lives tables d (ties r) (addition.Premium x) few declared adds = absurd adds
low_lives tables d (pay amount s) (addition.Premium x) few declared adds = absurd adds
low_lives tables d (reserve time names) (addition.Premium x) few declared adds = absurd adds

-- A file writes one contract or has one first fault, and not both.
use Rattle.std.proofs.Common.{◌≡◌, ◌∙◌, ℕ, ◌+◌, false, List, [], ◌∷◌, ap, inl, inr, subst, sym}
use Rattle.halo_table.specs.DecrementTable.{TableFile}
use Rattle.halo_check.specs.Checks.{FailsFirst, Passes}
use Rattle.halo_check.specs.Draft.{Draft, contract_made, empty_draft, with_line}
use Rattle.halo_parse.specs.Faults.{FirstFaultOf, HasFault, IsFine, IsWhole, MakesDraft}
use Rattle.halo_syntax.specs.FileLines.{IsSilent, is_silent, lines_of, words_of}
use Rattle.halo_parse.specs.FileLaws.{ContractIsOne, FirstFaultIsOne, NoFaultIsFirst}
use Rattle.halo_syntax.specs.Line.{Line}
use Rattle.halo_check.specs.declared.fault.ContractKind.{ContractKind}
use Rattle.halo_check.proofs.laws.CheckOrder.{first_is_one}
use Rattle.halo_syntax.proofs.lines.OneLine.{line_one}

-- a text is silent, or it has one fault, or it is one line that has none
module _ (tables : TableFile) (d : Draft) (text : List ℕ) where
  fault_speaks : (k : ContractKind) → HasFault tables d text k → is_silent (words_of text) ≡ false
  fault_speaks k (inl deep) = deep.0
  fault_speaks k (inr (inl other)) = other.0.speaks
  fault_speaks k (inr (inr failing)) = failing.0.speaks

  silent_or_fault : (k : ContractKind) → IsSilent text → HasFault tables d text k → ⊥
  silent_or_fault k silent fault = let speaks = fault_speaks k fault in cc

  silent_or_fine : (l : Line) → IsSilent text → IsFine tables d text l → ⊥
  silent_or_fine l silent fine = let speaks = fine.readable.speaks in cc

  fine_or_fault : (l : Line) (k : ContractKind) → IsFine tables d text l → HasFault tables d text k → ⊥
  fine_or_fault l k fine (inl deep) = deep.1 fine.readable.shallow
  fine_or_fault l k fine (inr (inl other)) = other.1 l fine.spells
  fine_or_fault l k fine (inr (inr (readable, (m, spells, first)))) =
      let same = line_one (words_of text) l m fine.spells spells in
      first.fails (subst (λ line. Passes tables d line k) same (fine.passes k))

  one_fault : (j k : ContractKind) → HasFault tables d text j → HasFault tables d text k → j ≡ k
  one_fault j k (inl deep) (inl also) = deep.2 ∙ sym also.2
  one_fault j k (inl deep) (inr (inl other)) = absurd (deep.1 other.0.shallow)
  one_fault j k (inl deep) (inr (inr failing)) = absurd (deep.1 failing.0.shallow)
  one_fault j k (inr (inl other)) (inl deep) = absurd (deep.1 other.0.shallow)
  one_fault j k (inr (inl other)) (inr (inl also)) = other.2 ∙ sym also.2
  one_fault j k (inr (inl other)) (inr (inr (readable, (l, spells, first)))) = absurd (other.1 l spells)
  one_fault j k (inr (inr failing)) (inl deep) = absurd (deep.1 failing.0.shallow)
  one_fault j k (inr (inr (readable, (l, spells, first)))) (inr (inl other)) = absurd (other.1 l spells)
  one_fault j k (inr (inr (readable, (l, spells, first)))) (inr (inr (again, (m, also, second)))) =
      let same = line_one (words_of text) m l also spells in
      first_is_one tables d l j k first (subst (λ line. FailsFirst tables d line k) same second)

  one_line : (l m : Line) → IsFine tables d text l → IsFine tables d text m → m ≡ l
  one_line l m fine also = line_one (words_of text) m l also.spells fine.spells

-- some lines make one draft
one_draft : (tables : TableFile) (d : Draft) (texts : List (List ℕ)) (a b : Draft) → MakesDraft tables d texts a
    → MakesDraft tables d texts b → a ≡ b
one_draft tables d [] a b makes also = makes ∙ sym also
one_draft tables d (text ∷ texts) a b (inl silent) (inl also) = one_draft tables d texts a b silent.1 also.1
one_draft tables d (text ∷ texts) a b (inl silent) (inr (l, fine, rest)) =
    absurd (silent_or_fine tables d text l silent.0 fine)
one_draft tables d (text ∷ texts) a b (inr (l, fine, rest)) (inl silent) =
    absurd (silent_or_fine tables d text l silent.0 fine)
one_draft tables d (text ∷ texts) a b (inr (l, fine, rest)) (inr (m, also, others)) =
    let same = one_line tables d text l m fine also in
    let again = subst (λ line. MakesDraft tables (with_line tables d line) texts b) same others in
    one_draft tables (with_line tables d l) texts a b rest again

-- some lines that make a draft have no fault
draft_or_fault : (tables : TableFile) (d : Draft) (count : ℕ) (texts : List (List ℕ)) (final : Draft)
    (line : ℕ) (k : ContractKind) → MakesDraft tables d texts final → FirstFaultOf tables d count texts line k → ⊥
draft_or_fault tables d count [] final line k makes fault = fault
draft_or_fault tables d count (text ∷ texts) final line k (inl silent) (inl here) =
    silent_or_fault tables d text k silent.0 here.0
draft_or_fault tables d count (text ∷ texts) final line k (inl silent) (inr (inl later)) =
    draft_or_fault tables d (count + 1) texts final line k silent.1 later.1
draft_or_fault tables d count (text ∷ texts) final line k (inl silent) (inr (inr (l, fine, later))) =
    silent_or_fine tables d text l silent.0 fine
draft_or_fault tables d count (text ∷ texts) final line k (inr (l, fine, rest)) (inl here) =
    fine_or_fault tables d text l k fine here.0
draft_or_fault tables d count (text ∷ texts) final line k (inr (l, fine, rest)) (inr (inl later)) =
    silent_or_fine tables d text l later.0 fine
draft_or_fault tables d count (text ∷ texts) final line k (inr (l, fine, rest)) (inr (inr (m, also, later))) =
    let same = one_line tables d text l m fine also in
    let again = subst (λ x. FirstFaultOf tables (with_line tables d x) (count + 1) texts line k) same later in
    draft_or_fault tables (with_line tables d l) (count + 1) texts final line k rest again

-- some lines have one first fault
one_first : (tables : TableFile) (d : Draft) (count : ℕ) (texts : List (List ℕ)) (line other : ℕ) (j k : ContractKind)
    → FirstFaultOf tables d count texts line j → FirstFaultOf tables d count texts other k
    → (line ≡ other) × (j ≡ k)
one_first tables d count [] line other j k first second = absurd first
one_first tables d count (text ∷ texts) line other j k (inl here) (inl also) =
    (here.1 ∙ sym also.1, one_fault tables d text j k here.0 also.0)
one_first tables d count (text ∷ texts) line other j k (inl here) (inr (inl later)) =
    absurd (silent_or_fault tables d text j later.0 here.0)
one_first tables d count (text ∷ texts) line other j k (inl here) (inr (inr (l, fine, later))) =
    absurd (fine_or_fault tables d text l j fine here.0)
one_first tables d count (text ∷ texts) line other j k (inr (inl later)) (inl here) =
    absurd (silent_or_fault tables d text k later.0 here.0)
one_first tables d count (text ∷ texts) line other j k (inr (inl later)) (inr (inl also)) =
    one_first tables d (count + 1) texts line other j k later.1 also.1
one_first tables d count (text ∷ texts) line other j k (inr (inl later)) (inr (inr (l, fine, also))) =
    absurd (silent_or_fine tables d text l later.0 fine)
one_first tables d count (text ∷ texts) line other j k (inr (inr (l, fine, later))) (inl here) =
    absurd (fine_or_fault tables d text l k fine here.0)
one_first tables d count (text ∷ texts) line other j k (inr (inr (l, fine, later))) (inr (inl also)) =
    absurd (silent_or_fine tables d text l also.0 fine)
one_first tables d count (text ∷ texts) line other j k (inr (inr (l, fine, later))) (inr (inr (m, again, also))) =
    let same = one_line tables d text l m fine again in
    let moved = subst (λ x. FirstFaultOf tables (with_line tables d x) (count + 1) texts other k) same also in
    one_first tables (with_line tables d l) (count + 1) texts line other j k later moved

pub contract_is_one : ContractIsOne
contract_is_one tables bytes contract other writes also =
    let same = one_draft tables empty_draft (lines_of bytes) writes.draft also.draft writes.lines also.lines in
    writes.made ∙ ap contract_made same ∙ sym also.made

pub no_fault_is_first : NoFaultIsFirst
no_fault_is_first tables bytes contract line k writes (inl fault) =
    draft_or_fault tables empty_draft 1 (lines_of bytes) writes.draft line k writes.lines fault
no_fault_is_first tables bytes contract line k writes (inr missing) =
    let same = one_draft tables empty_draft (lines_of bytes) writes.draft missing.draft writes.lines missing.lines in
    missing.not_whole (subst IsWhole same writes.whole)

pub first_fault_is_one : FirstFaultIsOne
first_fault_is_one tables bytes line other j k (inl fault) (inl also) =
    one_first tables empty_draft 1 (lines_of bytes) line other j k fault also
first_fault_is_one tables bytes line other j k (inl fault) (inr missing) =
    absurd (draft_or_fault tables empty_draft 1 (lines_of bytes) missing.draft line j missing.lines fault)
first_fault_is_one tables bytes line other j k (inr missing) (inl fault) =
    absurd (draft_or_fault tables empty_draft 1 (lines_of bytes) missing.draft other k missing.lines fault)
first_fault_is_one tables bytes line other j k (inr missing) (inr also) =
    (missing.number_is ∙ sym also.number_is, missing.kind_is ∙ sym also.kind_is)

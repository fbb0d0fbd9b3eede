-- A walk over the lines of a file: what is left completes the whole.
use Rattle.std.proofs.Common.{◌≡◌, ◌+◌, ℕ, List, [], ◌∷◌, inl, inr, length, refl, subst, sym, arith}
use Rattle.halo_table.specs.DecrementTable.{TableFile}
use Rattle.halo_check.specs.Addition.{IsKept}
use Rattle.halo_check.specs.Draft.{Draft, empty_draft}
use Rattle.halo_parse.specs.Faults.{FirstFaultOf, HasFault, MakesDraft}
use Rattle.halo_syntax.specs.FileLines.{lines_of}
use Rattle.halo_parse.specs.Reading.{TakesText}
use Rattle.halo_check.specs.declared.fault.ContractKind.{ContractKind}

-- the lines before those that are left have made a draft without fault
pub record Walks (tables : TableFile) (bytes : List ℕ) (d : Draft) (number : ℕ) (left : List (List ℕ)) : Type 0 where
  pub whole : (final : Draft) → MakesDraft tables d left final → MakesDraft tables empty_draft (lines_of bytes) final
  pub fault : (line : ℕ) (k : ContractKind) → FirstFaultOf tables d number left line k
      → FirstFaultOf tables empty_draft 1 (lines_of bytes) line k
  pub kept : IsKept tables d
  pub count : number + length left ≡ length (lines_of bytes) + 1

module _ (tables : TableFile) (d next : Draft) (text : List ℕ) (rest : List (List ℕ)) where
  whole_behind : (final : Draft) → TakesText tables d text next → MakesDraft tables next rest final
      → MakesDraft tables d (text ∷ rest) final
  whole_behind final (inl (silent, same)) makes = inl (silent, subst (λ x. MakesDraft tables x rest final) same makes)
  whole_behind final (inr (l, fine, same)) makes = inr (l, fine, subst (λ x. MakesDraft tables x rest final) same makes)

  fault_behind : (number line : ℕ) (k : ContractKind) → TakesText tables d text next
      → FirstFaultOf tables next (number + 1) rest line k → FirstFaultOf tables d number (text ∷ rest) line k
  fault_behind number line k (inl (silent, same)) fault =
      inr (inl (silent, subst (λ x. FirstFaultOf tables x (number + 1) rest line k) same fault))
  fault_behind number line k (inr (l, fine, same)) fault =
      inr (inr (l, fine, subst (λ x. FirstFaultOf tables x (number + 1) rest line k) same fault))

pub walks_on : (tables : TableFile) (bytes : List ℕ) (d next : Draft) (number : ℕ) (text : List ℕ)
    (left rest : List (List ℕ))
    → Walks tables bytes d number left → left ≡ text ∷ rest
    → TakesText tables d text next → IsKept tables next → Walks tables bytes next (number + 1) rest
walks_on tables bytes d next number text left rest walks e takes kept = record {
  whole =
      λ final makes. walks.whole final (subst (λ ls. MakesDraft tables d ls final) (sym e)
      (whole_behind tables d next text rest final takes makes));
  fault =
      λ line k fault. walks.fault line k (subst (λ ls. FirstFaultOf tables d number ls line k) (sym e)
      (fault_behind tables d next text rest number line k takes fault));
  kept = kept;
  count = let count = rw e at walks.count in omega (arith, count);
}

pub fault_found : (tables : TableFile) (bytes : List ℕ) (d : Draft) (number : ℕ) (text : List ℕ)
    (left rest : List (List ℕ)) (k : ContractKind)
    → Walks tables bytes d number left → left ≡ text ∷ rest
    → HasFault tables d text k → FirstFaultOf tables empty_draft 1 (lines_of bytes) number k
fault_found tables bytes d number text left rest k walks e has =
    walks.fault number k (subst (λ ls. FirstFaultOf tables d number ls number k) (sym e) (inl (has, refl)))

-- where no line is left, the lines have made the draft
pub walked : (tables : TableFile) (bytes : List ℕ) (d : Draft) (number : ℕ) (left : List (List ℕ))
    → Walks tables bytes d number left → left ≡ [] → MakesDraft tables empty_draft (lines_of bytes) d
walked tables bytes d number left walks e = walks.whole d (subst (λ ls. MakesDraft tables d ls d) (sym e) refl)

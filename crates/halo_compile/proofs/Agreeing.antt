-- A pay exists alike where the lives and the terms that its body names are alike.
use Rattle.std.proofs.Common.{◌≡◌, ℕ, refl, ap, true, Bool, Option, Some, None}
use Rattle.halo_status.specs.Tree.{Tree, life, term, joint, last, at_least, exactly, after}
use Rattle.halo_status.specs.Exists.{each_exists}
use Rattle.halo_status.specs.Naming.{names_life, names_term}
use Rattle.halo_status.specs.declared.pay.Mark.{Mark}
use Rattle.halo_model.specs.Coefficient.{exists_by_mark, waits_at_rank}
use Rattle.halo_model.specs.Payment.{members_of}
use Rattle.halo_status.proofs.Agreement.{agree, each-agree}

module _ (alive other on before : ℕ → Bool) where
  members_agree : (body : Tree) → ((i : ℕ) → names_life i body ≡ true → alive i ≡ other i)
      → ((n : ℕ) → names_term n body ≡ true → on n ≡ before n)
      → each_exists alive on (members_of body) ≡ each_exists other before (members_of body)
  members_agree (joint ms) lives terms = each-agree alive other on before ms lives terms
  members_agree (life i) lives terms = refl
  members_agree (term n) lives terms = refl
  members_agree (last ms) lives terms = refl
  members_agree (at_least r ms) lives terms = refl
  members_agree (exactly r ms) lives terms = refl
  members_agree (after s t) lives terms = refl

  pub agree_by_mark : (mark : Option Mark) (body : Tree) → ((i : ℕ) → names_life i body ≡ true → alive i ≡ other i)
      → ((n : ℕ) → names_term n body ≡ true → on n ≡ before n)
      → exists_by_mark mark body alive on ≡ exists_by_mark mark body other before
  agree_by_mark None body lives terms = agree alive other on before body lives terms
  agree_by_mark (Some mark) body lives terms = ap (waits_at_rank mark) (members_agree body lives terms)

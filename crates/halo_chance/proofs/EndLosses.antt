-- What the status on which an insurance waits loses with a term that ends.
use Rattle.std.proofs.Common.{◌≡◌, ◌≢◌, ℕ, zero, suc, ◌+◌, ◌-◌, ◌*◌, ◌<◌, ◌≤◌, arith, refl, Bool, true, false, ◌||◌, nat_eq, nat_le, nat_lt, List, Option, Some, None}
use Rattle.std.specs.Prelude.{IfSome, IsSomeAnd}
use Rattle.std.proofs.lemmas.Bool.Decides.{nat_tests}
use Rattle.std.proofs.lemmas.Nat.{mul-le}
use Rattle.halo_num.specs.Ends.{Ends}
use Rattle.halo_num.specs.Chance.{EnclosesChance}
use Rattle.halo_num.proofs.Chances.{chance_wider}
use Rattle.halo_status.specs.Tree.{Tree, Trees, life, term, joint, last, at_least, exactly, after, none, more, member_at, member_count}
use Rattle.halo_status.specs.Naming.{any_names_term, names_life, names_term}
use Rattle.halo_status.specs.Nodes.{AtEachNodeIn, IsLasting, NeverReturns, nodes}
use Rattle.halo_status.specs.declared.pay.Mark.{Mark}
use Rattle.halo_model.specs.ByTree.{weight_of, weight_of_count, whole_of}
use Rattle.halo_model.specs.PartsByTree.{others_of, waiting, waiting_member}
use Rattle.halo_model.specs.Payment.{members_of}
use Rattle.halo_model.specs.Chance.{OfMarked}
use Rattle.halo_model.proofs.Losses.{end-loss-is-not-negative}
use Rattle.halo_model.proofs.Marked.{ApartFrom, apart-from-marked, valid-mark}
use Rattle.halo_chance.specs.Enclosed.{AreEnclosed, life_widths}
use Rattle.halo_chance.specs.Ending.{EnclosesEndLoss, PayEndLossIsNotNegative, end_loss_of}
use Rattle.halo_chance.proofs.Agreeing.{count-agrees}
use Rattle.halo_chance.proofs.Enclosing.{whole-positive}
use Rattle.halo_chance.proofs.MarkedPays.{member-lasting}

either : (b c : Bool) → (b ≡ true → ⊥) → (c ≡ true → ⊥) → (b || c) ≡ true → ⊥
either true c f g h = f refl
either false c f g h = g h

-- where no member names a term, the members do not, nor do the others where no other member does
none-names : (n : ℕ) (ms : Trees)
    → ((q : ℕ) (t : Tree) → member_at ms q ≡ Some t → names_term n t ≡ true → ⊥) → any_names_term n ms ≡ true → ⊥
none-names n none silent h = absurd (cc)
none-names n (more m ms) silent h =
    either (names_term n m) _ (silent 0 m refl) (none-names n ms (λ q t at. silent (suc q) t at)) h

no-other-names : (n : ℕ) (ms : Trees) (place : ℕ)
    → ((q : ℕ) (t : Tree) → q ≢ place → member_at ms q ≡ Some t → names_term n t ≡ true → ⊥)
    → any_names_term n (others_of ms place) ≡ true → ⊥
no-other-names n none place silent h = absurd (cc)
no-other-names n (more m ms) zero silent h =
    none-names n ms (λ q t at. silent (suc q) t (λ e. absurd (omega (arith, e))) at) h
no-other-names n (more m ms) (suc place) silent h =
    either (names_term n m) _ (silent 0 m (λ e. absurd (omega (arith, e))) refl)
    (no-other-names n ms place (λ q t other at. silent (suc q) t (λ e. other (omega (arith, e))) at)) h

-- a term that does not end is on before and after
other-term : (n m : ℕ) → m ≢ n → nat_lt n m ≡ nat_le n m
other-term n m h = grind (arith, nat_tests)

members-lasting : (body : Tree) → IsLasting body → AtEachNodeIn NeverReturns (members_of body)
members-lasting (joint ms) lasting = lasting.1
members-lasting (life i) lasting = tt
members-lasting (term k) lasting = tt
members-lasting (last ms) lasting = tt
members-lasting (at_least r ms) lasting = tt
members-lasting (exactly r ms) lasting = tt
members-lasting (after s t) lasting = tt

pub pay-end-loss-is-not-negative : PayEndLossIsNotNegative
pay-end-loss-is-not-negative pay is n d proper years named =
    go pay.mark (apart-from-marked pay.mark pay.body (valid-mark pay is) names named) named
  where
    names : Tree → Type 0
    names s = names_term years s ≡ true

    lasting : IsLasting pay.body
    lasting = is.valid.lasting is.kind

    go : (mark : Option Mark) → IfSome mark (ApartFrom pay.body names) → OfMarked mark pay.body names
        → weight_of n d (λ m. nat_lt years m) (waiting mark pay.body)
        ≤ weight_of n d (λ m. nat_le years m) (waiting mark pay.body)
    go None apart h = end-loss-is-not-negative n d proper years pay.body lasting
    go (Some mark) apart h =
        found (member_at ms mark.member) (member-lasting ms mark.member names h (members-lasting pay.body lasting))
      where
        ms : Trees
        ms = members_of pay.body

        rest : Trees
        rest = others_of ms mark.member

        silent : any_names_term years rest ≡ true → ⊥
        silent =
            no-other-names years ms mark.member
            (λ q t other at e. let (s, own, shares) = apart q t other at in shares.terms years own e)

        found : (at : Option Tree) → IsSomeAnd at IsLasting
            → weight_of n d (λ m. nat_lt years m) (waiting_member mark (members_of pay.body) at)
            ≤ weight_of n d (λ m. nat_le years m) (waiting_member mark (members_of pay.body) at)
        found None each = absurd each
        found (Some s) each =
            rw same-count (mul-le _ _ _ _ (end-loss-is-not-negative n d proper years s each) (omega arith))
          where
            same-count : weight_of_count n d (λ m. nat_lt years m)
                (λ count. nat_eq count (member_count (members_of pay.body) - mark.rank)) rest
                ≡ weight_of_count n d (λ m. nat_le years m)
                (λ count. nat_eq count (member_count (members_of pay.body) - mark.rank)) rest
            same-count =
                count-agrees n n d (λ m. nat_lt years m) (λ m. nat_le years m) _ rest
                (λ i h. refl, λ k h. other-term years k (λ q. silent (rw q at h)))

-- the loss, from the two chances at the end of the term
pub end-loss-enclosed : (entries : List Ends) (years : ℕ) (s : Tree) (from to r : Ends)
    → ((n d w : ℕ → ℕ) → AreEnclosed n d w entries (λ j. names_life j s)
    → EnclosesChance (weight_of n d (λ m. nat_le years m) s) (whole_of d s) (life_widths w s + nodes s) from)
    → ((n d w : ℕ → ℕ) → AreEnclosed n d w entries (λ j. names_life j s)
    → EnclosesChance (weight_of n d (λ m. nat_lt years m) s) (whole_of d s) (life_widths w s + nodes s) to)
    → ((n m d v w : ℕ) → 0 < d → m ≤ n → EnclosesChance n d v from → EnclosesChance m d w to
    → EnclosesChance (n - m) d (v + w) r)
    → EnclosesEndLoss entries years s r
unfolding EnclosesEndLoss
end-loss-enclosed entries years s from to r along_from along_to fall n d w e falls =
    let width = life_widths w s + nodes s in
    chance_wider (end_loss_of n d years s) (whole_of d s) (width + width) (2 * width) r (omega arith)
    (fall (weight_of n d (λ m. nat_le years m) s) (weight_of n d (λ m. nat_lt years m) s) (whole_of d s) width width
    (whole-positive n d w entries s e) falls (along_from n d w e) (along_to n d w e))

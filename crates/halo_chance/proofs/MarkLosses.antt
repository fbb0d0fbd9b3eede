-- What the status on which a contingent insurance waits loses with a life of its marked member.
use Rattle.std.proofs.Common.{◌≡◌, ◌≢◌, ℕ, zero, suc, ◌+◌, ◌-◌, ◌*◌, ◌≤◌, arith, refl, sym, ◌∙◌, subst, Bool, true, false, cond, nat_eq, List, mul_comm, Some}
use Rattle.std.proofs.Math.Nat.{mul-sub}
use Rattle.halo_num.specs.Ends.{Ends}
use Rattle.halo_num.specs.Chance.{EnclosesChance}
use Rattle.halo_num.proofs.Chances.{chance_wider}
use Rattle.halo_status.specs.declared.pay.Mark.{Mark}
use Rattle.halo_status.specs.Tree.{Tree, Trees, joint, member_at, member_count}
use Rattle.halo_status.specs.Naming.{any_names_life, names_life}
use Rattle.halo_status.specs.Nodes.{IsLasting, nodes}
use Rattle.halo_status.specs.ReadOnce.{AreReadOnce}
use Rattle.halo_model.specs.Life.{after_first}
use Rattle.halo_model.specs.ByTree.{weight_of, weight_of_count, whole_in, whole_of}
use Rattle.halo_model.specs.ByTreeLaws.{AreChances}
use Rattle.halo_model.specs.PartsByTree.{others_of, put_for, waiting, waiting_member}
use Rattle.halo_status.proofs.Agreement.{or-left, or-right}
use Rattle.halo_model.proofs.ByTree.{named-stands, named-stands_in}
use Rattle.halo_model.proofs.Losses.{loss-is-not-negative}
use Rattle.halo_model.proofs.Waiting.{standings-split}
use Rattle.halo_chance.specs.Enclosed.{AreEnclosed, EnclosesMembers, life_widths, spread_in}
use Rattle.halo_chance.specs.Loss.{EnclosesLoss, loss_of}
use Rattle.halo_chance.specs.Table.{passes_at}
use Rattle.halo_chance.proofs.Agreeing.{count-agrees, weight-agrees}
use Rattle.halo_chance.proofs.Enclosing.{IsProduct, narrower, proper}
use Rattle.halo_chance.proofs.Losses.{put-other}
use Rattle.halo_chance.proofs.Whole.{spread_in-le}

put-agrees : (a m : ℕ) (f g : ℕ → ℕ) (i : ℕ) → f i ≡ g i → put_for a m f i ≡ put_for a m g i
put-agrees zero m f g zero e = refl
put-agrees zero m f g (suc i) e = e
put-agrees (suc a) m f g zero e = e
put-agrees (suc a) m f g (suc i) e = put-agrees a m (after_first f) (after_first g) i e

-- A lasting status does not exist the less with a life, where the chances of the lives that it names are chances:
-- those of the others can be taken to be 0.
module _ (n d : ℕ → ℕ) (on : ℕ → Bool) (a : ℕ) (s : Tree) (chances : (i : ℕ) → names_life i s ≡ true → n i ≤ d i) where
  of-named : ℕ → ℕ
  of-named i = cond (names_life i s) (n i) 0

  of-named-chances : AreChances of-named d
  unfolding of-named
  of-named-chances i = go (names_life i s) refl
    where
      go : (b : Bool) → names_life i s ≡ b → cond b (n i) 0 ≤ d i
      go true e = chances i e
      go false e = omega arith

  same-weight : (m : ℕ) → weight_of (put_for a m n) (put_for a 1 d) on s
      ≡ weight_of (put_for a m of-named) (put_for a 1 d) on s
  unfolding of-named
  same-weight m =
      weight-agrees (put_for a m n) (put_for a m of-named) (put_for a 1 d) on on s
      (λ i e. put-agrees a m n of-named i (rw e refl), λ k e. refl)

  pub member-loss : IsLasting s
      → weight_of (put_for a 0 n) (put_for a 1 d) on s ≤ weight_of (put_for a 1 n) (put_for a 1 d) on s
  member-loss lasting =
      rw (same-weight 0, same-weight 1) (loss-is-not-negative of-named d of-named-chances on a s lasting)

-- the marked member's loss, times the chance of the others, who do not name the life
pub mark-loss : (entries : List Ends) (on : ℕ → Bool) (a : ℕ) (mark : Mark) (ms : Trees) (s : Tree) (i j r : Ends)
    (place : ℕ)
    → member_at ms mark.member ≡ Some s → place ≡ suc (member_count ms - mark.rank)
    → AreReadOnce ms → IsLasting s → names_life a s ≡ true
    → EnclosesLoss entries on a s i
    → EnclosesMembers entries (others_of ms mark.member)
    (λ n d. weight_of_count n d on (passes_at true place) (others_of ms mark.member)) j
    → IsProduct i j r
    → EnclosesLoss entries on a (waiting (Some mark) (joint ms)) r
unfolding EnclosesLoss EnclosesMembers
mark-loss entries on a mark ms s i j r place found e once lasting named marked others product = rw found go
  where
    rest : Trees
    rest = others_of ms mark.member

    tree : Tree
    tree = waiting_member mark ms (Some s)

    elsewhere : (i : ℕ) → any_names_life i rest ≡ true → i ≢ a
    elsewhere i h q = absurd (omega (
      arith,
      standings-split i ms mark.member s found,
      once i,
      named-stands i s (rw q named),
      named-stands_in i rest h,
    ))

    count : (ℕ → ℕ) → (ℕ → ℕ) → ℕ
    count n d = weight_of_count n d on (λ count. nat_eq count (member_count ms - mark.rank)) rest

    share : (with without count : ℕ) → with * (count * 1) - without * (count * 1) ≡ (with - without) * count
    share with without count = let apart = mul_comm (with - without) count ∙ mul-sub count with without in
        omega (arith, apart)

    once-more : (n : ℕ) → n * 1 ≡ n
    once-more n = omega arith

    go : (n d w : ℕ → ℕ) → AreEnclosed n d w entries (λ j. names_life j tree)
        → weight_of (put_for a 0 n) (put_for a 1 d) on tree ≤ weight_of (put_for a 1 n) (put_for a 1 d) on tree
        → EnclosesChance (loss_of n d on a tree) (whole_of (put_for a 1 d) tree)
        (2 * (life_widths (put_for a 0 w) tree + nodes tree)) r
    go n d w enclosed falls =
        rw (same-count, share with without (count with_a started), once-more (whole_in started rest))
        (chance_wider ((with - without) * count with_a started) (whole_of started s * whole_in started rest)
        (2 * (life_widths widths s + nodes s) + spread_in widths rest + 1)
        (2 * (life_widths widths tree + nodes tree)) r (omega (arith, spread_in-le widths rest))
        (product (with - without) (count with_a started) (whole_of started s) (whole_in started rest)
        (2 * (life_widths widths s + nodes s)) (spread_in widths rest)
        (marked n d w of-member (member-loss n d on a s chances lasting))
        (subst
        (λ p. EnclosesChance (weight_of_count with_a started on (passes_at true p) rest) (whole_in started rest)
        (spread_in widths rest) j)
        e (others with_a started widths of-rest))))
      where
        with_a : ℕ → ℕ
        with_a = put_for a 1 n

        started : ℕ → ℕ
        started = put_for a 1 d

        widths : ℕ → ℕ
        widths = put_for a 0 w

        with : ℕ
        with = weight_of with_a started on s

        without : ℕ
        without = weight_of (put_for a 0 n) started on s

        of-member : AreEnclosed n d w entries (λ j. names_life j s)
        of-member =
            narrower n d w entries (λ j. names_life j s) (λ j. names_life j tree) (λ j h. or-left _ _ h) enclosed

        chances : (i : ℕ) → names_life i s ≡ true → n i ≤ d i
        chances i h = proper (n i) (d i) (w i) _ (of-member.some i h) (of-member.each i h)

        within : (i : ℕ) → any_names_life i rest ≡ true → names_life i tree ≡ true
        within i h = or-right (names_life i s) _ (or-left _ _ h)

        of-rest : AreEnclosed with_a started widths entries (λ j. any_names_life j rest)
        of-rest = record {
          some = λ i h. rw (put-other a i 1 d (elsewhere i h)) (enclosed.some i (within i h));
          each = λ i h.
              rw (
                put-other a i 1 n (elsewhere i h),
                put-other a i 1 d (elsewhere i h),
                put-other a i 0 w (elsewhere i h),
              )
              (enclosed.each i (within i h));
        }

        same-count : count (put_for a 0 n) started ≡ count with_a started
        same-count =
            count-agrees (put_for a 0 n) with_a started on on
            (λ count. nat_eq count (member_count ms - mark.rank)) rest
            (λ i h. put-other a i 0 n (elsewhere i h) ∙ sym (put-other a i 1 n (elsewhere i h)), λ k h. refl)

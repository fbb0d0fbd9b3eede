-- The status on whose failure a pay waits.
use Rattle.std.proofs.Common.{◌≡◌, ℕ, zero, suc, ◌+◌, ◌-◌, ◌≤◌, arith, refl, ap, sym, ◌∙◌, List, ◌∷◌, length, get_or, Bool, true, false, ◌&&◌, ◌||◌, nat_eq, Option, Some, None}
use Rattle.std.proofs.Math.Bool.{and-true}
use Rattle.halo_status.specs.Tree.{Tree, Trees, life, term, joint, last, at_least, exactly, after, none, more, member_at, member_count}
use Rattle.halo_status.specs.Exists.{each_exists, exists}
use Rattle.halo_sums.specs.Sums.{count_true}
use Rattle.halo_status.specs.Naming.{NamesLivesBelow, any_names_life, names_life}
use Rattle.halo_status.specs.ReadOnce.{IsReadOnce, standings, standings_in}
use Rattle.halo_status.specs.declared.pay.Mark.{Mark}
use Rattle.halo_model.specs.Payment.{members_of}
use Rattle.halo_model.specs.Coefficient.{exists_by_mark, waits_at_rank}
use Rattle.halo_model.specs.PartsByTree.{others_of, waiting, waiting_member}
use Rattle.halo_status.proofs.Agreement.{or-left, or-right}

-- a member and the others together are the list
pub standings-split : (i : ℕ) (ms : Trees) (place : ℕ) (s : Tree)
    → member_at ms place ≡ Some s → standings i s + standings_in i (others_of ms place) ≡ standings_in i ms
standings-split i none place s e = absurd (cc)
standings-split i (more m ms) zero s e = let q : m ≡ s = grind arith in rw q refl
standings-split i (more m ms) (suc place) s e = omega (arith, standings-split i ms place s e)

named-member_at : (i : ℕ) (ms : Trees) (place : ℕ) (s : Tree)
    → member_at ms place ≡ Some s → names_life i s ≡ true → any_names_life i ms ≡ true
named-member_at i none place s e h = absurd (cc)
named-member_at i (more m ms) zero s e h = let q : m ≡ s = grind arith in rw q (or-left _ _ h)
named-member_at i (more m ms) (suc place) s e h = or-right (names_life i m) _ (named-member_at i ms place s e h)

named-others : (i : ℕ) (ms : Trees) (place : ℕ)
    → any_names_life i (others_of ms place) ≡ true → any_names_life i ms ≡ true
named-others i none place h = h
named-others i (more m ms) zero h = or-right (names_life i m) _ h
named-others i (more m ms) (suc place) h =
    either (names_life i m) (any_names_life i (others_of ms place)) (any_names_life i ms) (named-others i ms place) h
  where
    either : (b c d : Bool) → (c ≡ true → d ≡ true) → (b || c) ≡ true → (b || d) ≡ true
    either true c d f e = refl
    either false c d f e = f e

pub members-standings : (i : ℕ) (body : Tree) → standings_in i (members_of body) ≤ standings i body
members-standings i (joint ms) = omega arith
members-standings i (life j) = omega arith
members-standings i (term m) = omega arith
members-standings i (last ms) = omega arith
members-standings i (at_least r ms) = omega arith
members-standings i (exactly r ms) = omega arith
members-standings i (after s t) = omega arith

members-named : (i : ℕ) (body : Tree) → any_names_life i (members_of body) ≡ true → names_life i body ≡ true
members-named i (joint ms) h = h
members-named i (life j) h = absurd (cc)
members-named i (term m) h = absurd (cc)
members-named i (last ms) h = absurd (cc)
members-named i (at_least r ms) h = absurd (cc)
members-named i (exactly r ms) h = absurd (cc)
members-named i (after s t) h = absurd (cc)

of-either : (b c d : Bool) → (b ≡ true → d ≡ true) → (c ≡ true → d ≡ true) → (b || (c || false)) ≡ true → d ≡ true
of-either true c d f g e = f refl
of-either false true d f g e = g refl
of-either false false d f g e = absurd (cc)

pub waiting-once : (mark : Option Mark) (body : Tree) → IsReadOnce body → IsReadOnce (waiting mark body)
waiting-once None body once = once
waiting-once (Some mark) body once = go (member_at (members_of body) mark.member) refl
  where
    go : (found : Option Tree)
        → member_at (members_of body) mark.member ≡ found → IsReadOnce (waiting_member mark (members_of body) found)
    go None e i = omega arith
    go (Some s) e i =
        omega (arith, standings-split i (members_of body) mark.member s e, members-standings i body, once i)

pub waiting-named : (bound : ℕ) (mark : Option Mark) (body : Tree)
    → NamesLivesBelow bound body → NamesLivesBelow bound (waiting mark body)
waiting-named bound None body named = named
waiting-named bound (Some mark) body named = go (member_at (members_of body) mark.member) refl
  where
    go : (found : Option Tree) → member_at (members_of body) mark.member ≡ found
        → NamesLivesBelow bound (waiting_member mark (members_of body) found)
    go None e i h = absurd (cc)
    go (Some s) e i h = named i (members-named i body (of-either (names_life i s)
        (any_names_life i (others_of (members_of body) mark.member)) (any_names_life i (members_of body))
        (named-member_at i (members_of body) mark.member s e) (named-others i (members_of body) mark.member) h))

-- whether the member at a place exists, how many do, and how many there are
member-exists : (alive on : ℕ → Bool) (ms : Trees) (place : ℕ) (s : Tree)
    → member_at ms place ≡ Some s → get_or (each_exists alive on ms) place false ≡ exists alive on s
member-exists alive on none place s e = absurd (cc)
member-exists alive on (more m ms) zero s e = let q : m ≡ s = grind arith in rw q refl
member-exists alive on (more m ms) (suc place) s e = member-exists alive on ms place s e

no-member-exists : (alive on : ℕ → Bool) (ms : Trees) (place : ℕ)
    → member_at ms place ≡ None → get_or (each_exists alive on ms) place false ≡ false
no-member-exists alive on none place e = refl
no-member-exists alive on (more m ms) zero e = absurd (cc)
no-member-exists alive on (more m ms) (suc place) e = no-member-exists alive on ms place e

count-split : (alive on : ℕ → Bool) (ms : Trees) (place : ℕ) (s : Tree) → member_at ms place ≡ Some s
    → count_true (each_exists alive on ms) ≡ count_true (exists alive on s ∷ each_exists alive on (others_of ms place))
count-split alive on none place s e = absurd (cc)
count-split alive on (more m ms) zero s e = let q : m ≡ s = grind arith in rw q refl
count-split alive on (more m ms) (suc place) s e = swapped (exists alive on m) (exists alive on s)
    (each_exists alive on ms) (each_exists alive on (others_of ms place)) (count-split alive on ms place s e)
  where
    swapped : (b c : Bool) (bs cs : List Bool)
        → count_true bs ≡ count_true (c ∷ cs) → count_true (b ∷ bs) ≡ count_true (c ∷ b ∷ cs)
    swapped true true bs cs h = ap suc h
    swapped true false bs cs h = ap suc h
    swapped false true bs cs h = h
    swapped false false bs cs h = h

length-each : (alive on : ℕ → Bool) (ms : Trees) → length (each_exists alive on ms) ≡ member_count ms
length-each alive on none = refl
length-each alive on (more m ms) = omega (arith, length-each alive on ms)

-- the status of a pay exists by its mark where the status exists on which it waits
pub waiting-exists : (alive on : ℕ → Bool) (mark : Option Mark) (body : Tree)
    → exists_by_mark mark body alive on ≡ exists alive on (waiting mark body)
waiting-exists alive on None body = refl
waiting-exists alive on (Some mark) body = go (member_at (members_of body) mark.member) refl
  where
    ms : Trees
    ms = members_of body

    go : (found : Option Tree) → member_at (members_of body) mark.member ≡ found → waits_at_rank mark
        (each_exists alive on (members_of body)) ≡ exists alive on (waiting_member mark (members_of body) found)
    go None e = rw (no-member-exists alive on (members_of body) mark.member e) refl
    go (Some s) e =
        rw (member-exists alive on ms mark.member s e, count-split alive on ms mark.member s e, length-each alive on ms)
        (waits (exists alive on s) (each_exists alive on (others_of ms mark.member)))
      where
        waits : (b : Bool) (bs : List Bool) → (b && nat_eq (count_true (b ∷ bs) - 1) (member_count ms - mark.rank))
            ≡ (b && (nat_eq (count_true bs) (member_count ms - mark.rank) && true))
        waits true bs = ap (λ n. nat_eq n (member_count ms - mark.rank)) (one-less (count_true bs))
            ∙ sym (and-true (nat_eq (count_true bs) (member_count ms - mark.rank)))
          where
            one-less : (n : ℕ) → suc n - 1 ≡ n
            one-less n = omega arith
        waits false bs = refl

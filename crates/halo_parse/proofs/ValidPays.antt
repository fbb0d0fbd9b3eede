-- What passes the checks is a valid pay.
use Rattle.std.proofs.Common.{◌≡◌, ◌≤◌, ◌<◌, ◌∙◌, ℕ, suc, zero, List, [], ◌∷◌, All, Bool, true, false, Contains, IfSome, length, get_or, map, refl, arith}
use Rattle.std.specs.Prelude.{Option, Some, None}
use Rattle.std.proofs.lemmas.List.{get_or-map, length-map}
use Rattle.std.proofs.lemmas.List.Elements.{All-head}
use Rattle.std.proofs.lemmas.Slice.Eq.{bytes_eq-Decides}
use Rattle.halo_status.specs.Tree as status
use Rattle.halo_status.specs.ValidPay.{AreApart, CanBeMarked, HasValidVary, IsRank}
use Rattle.halo_status.specs.declared.pay.Kind.{Kind}
use Rattle.halo_status.specs.declared.pay.Kind.TheVariants.{Insurance}
use Rattle.halo_symbol.specs.Proper.{MayHaveCauses, MayHaveMark}
use Rattle.halo_symbol.specs.StatusOf.{tree_of_content}
use Rattle.halo_symbol.specs.Symbol.{Mark, Names, Vary, level, increasing, decreasing}
use Rattle.halo_symbol.specs.Tree.{Body, list, reversion}
use Rattle.halo_text.specs.Number.{number}
use Rattle.halo_check.specs.Checks.{FallsFromSome, OfMembers}
use Rattle.halo_parse.specs.ContractLaws.{PaysAreValid, PremiumsAreValid}
use Rattle.halo_sums.specs.SetMasks.{mask_of}
use Rattle.halo_check.specs.Draft.{all_names, causes_of, defer_of, is_among, mark_of, mask_of_names, place_of, vary_of}
use Rattle.halo_contract.specs.PlainContract.{life_names}
use Rattle.halo_check.specs.Limits.{any_life, IsUpTo, IsVaryWithin}
use Rattle.halo_check.specs.declared.fault.ContractKind.TheVariants as kind
use Rattle.halo_parse.proofs.Lengths.{lengths-body, lengths-content}
use Rattle.halo_check.proofs.LivesPlaced.{placed-body, placed-content}
use Rattle.halo_parse.proofs.MasksOfNames.{causes_of-lt}
use Rattle.halo_check.proofs.Nodes.{nodes-tree_of_body, nodes-tree_of_symbol}
use Rattle.halo_parse.proofs.ShortLists.{member_count-trees, short_lists-status, short_lists-symbol}

valid_defer : (defer : Option (List ℕ)) → IfSome defer (IsUpTo 200) → defer_of defer ≤ 200
valid_defer None within = omega arith
valid_defer (Some years) within = within

valid_vary : (vary : Vary) → IsVaryWithin vary → FallsFromSome vary → HasValidVary (vary_of vary)
valid_vary level within some = tt
valid_vary increasing within some = tt
valid_vary (decreasing count) within some = (some, within)

-- a mask is not 0 where a test passes
mask_of-some : (bs : List Bool) (k : ℕ) → k < length bs → get_or bs k false ≡ true → 1 ≤ mask_of bs
mask_of-some [] k below passes = absurd (omega arith)
mask_of-some (b ∷ bs) zero below passes = let here : b ≡ true = passes in rw here (omega arith)
mask_of-some (b ∷ bs) (suc k) below passes = omega (arith, mask_of-some bs k (omega arith) passes)

-- a set whose first name is a cause has a cause
some_cause : (causes : List (List ℕ)) (names : Names) → Contains causes names.first
    → 1 ≤ mask_of_names causes (all_names names)
some_cause causes names (k, below, is) =
    let among = is_among (all_names names) in
    let same = (bytes_eq-Decides names.first names.first).1 refl in
    let first : among (get_or causes k names.first) ≡ true = rw (is, same) in
    let passes = get_or-map among causes k names.first false below ∙ first in
    mask_of-some (map among causes) k (omega (arith, length-map causes among)) passes

valid_causes : (causes : List (List ℕ)) (kind : Kind) (names : Option Names) → MayHaveCauses kind names
    → IfSome names (λ names. All (λ name. Contains causes name) (all_names names))
    → IfSome (causes_of causes names) (λ mask. (kind ≡ Insurance) × (1 ≤ mask))
valid_causes causes kind None allowed known = tt
valid_causes causes kind (Some names) allowed known =
    (allowed, some_cause causes names (All-head (λ name. Contains causes name) names.first names.others known))

valid_mark : (life_of : List ℕ → ℕ) (kind : Kind) (mark : Option Mark) (body : Body) → MayHaveMark kind mark body
    → IfSome mark (λ m.
    OfMembers (λ ms. IsRank (number m.rank) (status.member_count ms)) (tree_of_content life_of mark body))
    → IfSome mark (λ m. OfMembers AreApart (tree_of_content life_of mark body))
    → IfSome (mark_of mark) (λ valid. (kind ≡ Insurance) × CanBeMarked (tree_of_content life_of mark body) valid)
valid_mark life_of kind None body allowed rank apart = tt
valid_mark life_of kind (Some mark) (list ms) allowed rank apart =
    (allowed.0, record { member = omega (arith, member_count-trees life_of ms, allowed.1); rank = rank; apart = apart })
valid_mark life_of kind (Some mark) (reversion ms ns) allowed rank apart = absurd allowed.1

pub pays_are_valid : PaysAreValid
pays_are_valid tables d amount s proper passes =
    let symbol = proper.1 in
    let within = passes kind.Magnitude in
    let some = passes kind.Zero in
    let names = life_names d.lives in
    record {
      valid = record {
        amount_from = some.0;
        amount_in = within.0;
        defer_in = valid_defer s.defer within.1.defer;
        vary = valid_vary s.vary within.1.vary some.1;
        lengths = lengths-content (place_of names) s.mark s.body within.1.parts some.2;
        lists = short_lists-symbol (place_of names) s within.1;
        few_nodes = rw (nodes-tree_of_symbol (place_of names) any_life s) within.1.few_nodes;
        ranks = (passes kind.Rank).0;
        lasting = passes kind.NotLasting;
        causes = valid_causes tables.causes s.kind s.causes symbol.allowed.causes (passes kind.NoCause);
        mark =
            valid_mark (place_of names) s.kind s.mark s.body symbol.allowed.mark (passes kind.Rank).1
            (passes kind.Shared);
      };
      named = rw (← length-map d.lives (λ line. line.name)) (placed-content names s.mark s.body (passes kind.NoLife));
      by_cause = causes_of-lt tables.causes s.causes;
    }

pub premiums_are_valid : PremiumsAreValid
premiums_are_valid tables d body proper passes =
    let within = passes kind.Magnitude in
    let names = life_names d.lives in
    record {
      among = record {
        valid = record {
          amount_from = omega arith;
          amount_in = omega arith;
          defer_in = omega arith;
          vary = tt;
          lengths = lengths-body (place_of names) body within.parts (passes kind.Zero);
          lists = short_lists-status (place_of names) body within;
          few_nodes = rw (nodes-tree_of_body (place_of names) any_life body) within.few_nodes;
          ranks = passes kind.Rank;
          lasting = (λ same. absurd (cc same));
          causes = tt;
          mark = tt;
        };
        named = rw (← length-map d.lives (λ line. line.name)) (placed-body names body (passes kind.NoLife));
        by_cause = tt;
      };
      level = refl;
      at_start = passes kind.NotAtStart;
    }

-- What the parts of a symbol or a status keep can be told: limits, numbers that are not 0, and names.
use Rattle.std.proofs.Common.{ℕ, ◌^◌, List, length}
use Rattle.std.specs.Prelude.{⊤}
use Rattle.std.proofs.Math.Decide.{map_dec, dec_le}
use Rattle.std.proofs.Math.Logic.Dec
use Rattle.halo_status.specs.Nodes.{nodes}
use Rattle.halo_symbol.specs.StatusOf.{tree_of_body, tree_of_symbol}
use Rattle.halo_symbol.specs.Symbol.{Mark, Symbol, Vary, decreasing}
use Rattle.halo_symbol.specs.Tree.{Body, Members, Node, and, at_least, exactly, group, last, life, list, member_count, one, reversion, term}
use Rattle.halo_table.proofs.Deciding.{dec_contains}
use Rattle.halo_text.specs.Number.{number}
use Rattle.halo_check.specs.Checks.{FallsFromSome, HasYears, IsDeclared, IsSome}
use Rattle.halo_check.specs.Limits.{AreNamesWithin, IsBodyWithin, IsListWithin, IsMemberWithin, IsRateWithin, IsShortName, IsStatusWithin, IsSymbolWithin, IsUpTo, IsVaryWithin, any_life}
use Rattle.halo_syntax.specs.Line.{LaterRate}
use Rattle.halo_check.specs.Parts.{AtEach, AtEachMember, AtEachNode, AtEachOfBody}
use Rattle.halo_check.proofs.laws.Deciding.{dec_all, dec_if_some, dec_three}

-- a fact of each member and of each list of a body
module _ (P : Node → Type 0) (Q : Members → Type 0) (member : (m : Node) → Dec (P m))
    (members : (ms : Members) → Dec (Q ms)) where
  mutual
    dec_at_each : (m : Node) → Dec (AtEach P Q m)
    dec_at_each (life name) = member (life name)
    dec_at_each (term years) = member (term years)
    dec_at_each (last ms) = dec_three (member (last ms)) (members ms) (dec_at_each_member ms)
    dec_at_each (at_least rank ms) = dec_three (member (at_least rank ms)) (members ms) (dec_at_each_member ms)
    dec_at_each (exactly rank ms) = dec_three (member (exactly rank ms)) (members ms) (dec_at_each_member ms)
    dec_at_each (group body) = Dec.and (member (group body)) (dec_at_each_of_body body)

    dec_at_each_member : (ms : Members) → Dec (AtEachMember P Q ms)
    dec_at_each_member (one m) = dec_at_each m
    dec_at_each_member (and m ms) = Dec.and (dec_at_each m) (dec_at_each_member ms)

    pub dec_at_each_of_body : (body : Body) → Dec (AtEachOfBody P Q body)
    dec_at_each_of_body (list ms) = Dec.and (members ms) (dec_at_each_member ms)
    dec_at_each_of_body (reversion ms ns) =
        dec_three (Dec.and (members ms) (dec_at_each_member ms)) (members ns) (dec_at_each_member ns)

-- a fact of each member of a body
dec_at_each_node : (P : Node → Type 0) → ((m : Node) → Dec (P m)) → (body : Body) → Dec (AtEachNode P body)
dec_at_each_node P member body = dec_at_each_of_body P (λ ms. ⊤) member (λ ms. yes tt) body

-- a number within its limit
pub dec_up_to : (limit : ℕ) (digits : List ℕ) → Dec (IsUpTo limit digits)
dec_up_to limit digits = dec_le (number digits) limit

-- a number that is not 0
pub dec_is_some : (digits : List ℕ) → Dec (IsSome digits)
dec_is_some digits = dec_le 1 (number digits)

-- a short name
pub dec_short_name : (name : List ℕ) → Dec (IsShortName name)
dec_short_name name = dec_le (length name) 32

-- a member within its limits
dec_member_within : (m : Node) → Dec (IsMemberWithin m)
dec_member_within (life name) = dec_short_name name
dec_member_within (term years) = dec_up_to 200 years
dec_member_within (at_least rank ms) = dec_up_to 64 rank
dec_member_within (exactly rank ms) = dec_up_to 64 rank
dec_member_within _ = yes tt

-- a body within its limits
dec_body_within : (body : Body) → Dec (IsBodyWithin body)
dec_body_within body =
    dec_at_each_of_body IsMemberWithin IsListWithin dec_member_within (λ ms. dec_le (member_count ms) 16) body

-- a status within its limits
pub dec_status_within : (body : Body) → Dec (IsStatusWithin body)
dec_status_within body =
    map_dec (λ h. record {
      parts = h.0;
      few_nodes =
          h.1;
    }) (λ within. (within.parts, within.few_nodes))
    (Dec.and (dec_body_within body) (dec_le (nodes (tree_of_body any_life body)) 64))

-- the number of a head within its limit
dec_vary_within : (vary : Vary) → Dec (IsVaryWithin vary)
dec_vary_within (decreasing count) = dec_up_to 200 count
dec_vary_within _ = yes tt

-- a symbol within its limits
pub dec_symbol_within : (s : Symbol) → Dec (IsSymbolWithin s)
dec_symbol_within s = map_dec
    (λ h. record { defer = h.0.0; vary = h.0.1; causes = h.0.2; parts = h.1.0; few_nodes = h.1.1; mark = h.1.2 })
    (λ within. ((within.defer, within.vary, within.causes), (within.parts, within.few_nodes, within.mark)))
    (Dec.and
    (dec_three (dec_if_some (IsUpTo 200) (dec_up_to 200) s.defer) (dec_vary_within s.vary)
    (dec_if_some AreNamesWithin (λ names. Dec.and (dec_short_name names.first)
    (dec_all IsShortName dec_short_name names.others)) s.causes))
    (dec_three (dec_body_within s.body) (dec_le (nodes (tree_of_symbol any_life s)) 64)
    (dec_if_some (λ (mark : Mark). IsUpTo 64 mark.rank) (λ mark. dec_up_to 64 mark.rank) s.mark)))

-- a fraction within its limits
pub dec_rate_within : (rate : LaterRate) → Dec (IsRateWithin rate)
dec_rate_within rate =
    map_dec (λ h. record {
      year = h.0;
      p = h.1;
      q =
          h.2;
    }) (λ within. (within.year, within.p, within.q))
    (dec_three (dec_up_to 199 rate.year) (dec_up_to (10 ^ 9) rate.p) (dec_up_to (10 ^ 9) rate.q))

-- a member that is no term of 0 years
dec_has_years : (m : Node) → Dec (HasYears m)
dec_has_years (term years) = dec_is_some years
dec_has_years _ = yes tt

-- a body without a term of 0 years
pub dec_years_of_body : (body : Body) → Dec (AtEachNode HasYears body)
dec_years_of_body body = dec_at_each_node HasYears dec_has_years body

-- a head whose number is not 0
pub dec_falls_from_some : (vary : Vary) → Dec (FallsFromSome vary)
dec_falls_from_some (decreasing count) = dec_is_some count
dec_falls_from_some _ = yes tt

-- a member that names no life that was not declared
dec_declared : (lives : List (List ℕ)) (m : Node) → Dec (IsDeclared lives m)
dec_declared lives (life name) = dec_contains lives name
dec_declared lives _ = yes tt

-- a body that names none
pub dec_lives_of_body : (lives : List (List ℕ)) (body : Body) → Dec (AtEachNode (IsDeclared lives) body)
dec_lives_of_body lives body = dec_at_each_node (IsDeclared lives) (dec_declared lives) body

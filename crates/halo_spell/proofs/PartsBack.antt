-- The parts of the canonical tree of a fit status are such as a line may have.
use Rattle.std.proofs.Common.{◌≡◌, ℕ, ◌+◌, ◌≤◌, ◌<◌, List, [], length, arith, inl, inr, refl, ◌⊎◌}
use Rattle.std.specs.Prelude.{All, ⊤}
use Rattle.std.specs.Fmt.{decimal}
use Rattle.std.proofs.lemmas.List.Elements.{All-get_or}
use Rattle.halo_check.proofs.Places.{among_at}
use Rattle.halo_text.specs.Number.{IsNumber}
use Rattle.halo_status.specs.Nodes.{AtEachNode, AtEachNodeIn}
use Rattle.halo_status.specs.Tree as status
use Rattle.halo_status.specs.Tree.{Tree, Trees}
use Rattle.halo_status.specs.ValidPay.{IsLength}
use Rattle.halo_symbol.specs.Proper.{AreProper, IsPlainName, IsProper, IsProperBody}
use Rattle.halo_symbol.specs.Tree.{Node, life, term, last, at_least, exactly, group, Members, one, and, Body, list, reversion, member_count}
use Rattle.halo_check.specs.Checks.{HasYears, IsDeclared}
use Rattle.halo_check.specs.Limits.{IsBodyWithin, IsListWithin, IsMemberWithin, IsShortName}
use Rattle.halo_check.specs.Parts as parts
use Rattle.halo_check.specs.Parts.{AtEach, AtEachMember, AtEachOfBody}
use Rattle.halo_spell.specs.Canonical.{body_of, canonical_body, canonical_members, canonical_node, canonical_row, list_of, name_at}
use Rattle.halo_spell.proofs.FitTrees.{IsFit}
use Rattle.halo_spell.proofs.NumbersBack.{IsNumber-decimal, number-decimal}

-- a list has as many members as the status
member_count-row : (names : List (List ℕ)) (first : Node) (ms : Trees)
    → member_count (canonical_row names first ms) ≡ status.member_count ms + 1
member_count-row names first status.none = omega arith
member_count-row names first (status.more s ms) = omega (arith, member_count-row names (canonical_node names s) ms)

pub member_count-canonical : (names : List (List ℕ)) (ms : Trees) → 1 ≤ status.member_count ms
    → member_count (canonical_members names ms) ≡ status.member_count ms
member_count-canonical names status.none some = absurd (omega arith)
member_count-canonical names (status.more s ms) some = member_count-row names (canonical_node names s) ms

-- facts of members and of lists that hold where names, terms, ranks and lengths of lists are such
pub record AreFacts (names : List (List ℕ)) (bound : ℕ) (P : Node → Type 0) (Q : Members → Type 0) : Type 0 where
  pub at_life : (i : ℕ) → i < bound → P (life (name_at names i))
  pub at_term : (n : ℕ) → IsLength n → P (term (decimal n))
  pub at_last : (ms : Members) → P (last ms)
  pub at_at_least : (r : ℕ) (ms : Members) → r ≤ 16 → P (at_least (decimal r) ms)
  pub at_exactly : (r : ℕ) (ms : Members) → r ≤ 16 → P (exactly (decimal r) ms)
  pub at_group : (body : Body) → P (group body)
  pub at_list : (ms : Members) → member_count ms ≤ 16 → Q ms

module _ (names : List (List ℕ)) (bound : ℕ) (P : Node → Type 0) (Q : Members → Type 0)
    (facts : AreFacts names bound P Q) where
  -- a member as a list, and as a body
  each-list_of : (m : Node) → AtEach P Q m → Q (list_of m) × AtEachMember P Q (list_of m)
  each-list_of (life name) h = (facts.at_list (one (life name)) (omega arith), h)
  each-list_of (term years) h = (facts.at_list (one (term years)) (omega arith), h)
  each-list_of (last ms) h = (facts.at_list (one (last ms)) (omega arith), h)
  each-list_of (at_least r ms) h = (facts.at_list (one (at_least r ms)) (omega arith), h)
  each-list_of (exactly r ms) h = (facts.at_list (one (exactly r ms)) (omega arith), h)
  each-list_of (group (list ms)) h = h.1
  each-list_of (group (reversion ms ns)) h = (facts.at_list (one (group (reversion ms ns))) (omega arith), h)

  each-body_of : (m : Node) → AtEach P Q m → AtEachOfBody P Q (body_of m)
  each-body_of (life name) h = (facts.at_list (one (life name)) (omega arith), h)
  each-body_of (term years) h = (facts.at_list (one (term years)) (omega arith), h)
  each-body_of (last ms) h = (facts.at_list (one (last ms)) (omega arith), h)
  each-body_of (at_least r ms) h = (facts.at_list (one (at_least r ms)) (omega arith), h)
  each-body_of (exactly r ms) h = (facts.at_list (one (exactly r ms)) (omega arith), h)
  each-body_of (group body) h = h.1

  -- a list of the members of a status
  few : (ms : Trees) → 1 ≤ status.member_count ms → status.member_count ms ≤ 16 → Q (canonical_members names ms)
  few ms some most = facts.at_list (canonical_members names ms) (omega (arith, member_count-canonical names ms some))

  sides : {ms ns : Members} → Q ms × AtEachMember P Q ms → Q ns × AtEachMember P Q ns
      → AtEachOfBody P Q (reversion ms ns)
  sides a b = (a, b.0, b.1)

  mutual
    pub each-node : (s : Tree) → AtEachNode (IsFit bound) s → AtEach P Q (canonical_node names s)
    each-node (status.life i) fit = facts.at_life i fit
    each-node (status.term n) fit = facts.at_term n fit
    each-node (status.joint ms) fit = (
      facts.at_group (list (canonical_members names ms)),
      (few ms (omega (arith, fit.0.0)) fit.0.1, each-members ms (omega (arith, fit.0.0)) fit.1),
    )
    each-node (status.last ms) fit =
        (facts.at_last (canonical_members names ms), few ms fit.0.0 fit.0.1, each-members ms fit.0.0 fit.1)
    each-node (status.at_least r ms) fit = (
      facts.at_at_least r (canonical_members names ms) (omega (arith, fit.0.1.1, fit.0.0.1)),
      few ms fit.0.0.0
          fit.0.0.1,
      each-members ms fit.0.0.0 fit.1,
    )
    each-node (status.exactly r ms) fit = (
      facts.at_exactly r (canonical_members names ms) (omega (arith, fit.0.1.1, fit.0.0.1)),
      few ms fit.0.0.0
          fit.0.0.1,
      each-members ms fit.0.0.0 fit.1,
    )
    each-node (status.after s t) fit = (
      facts.at_group (reversion (list_of (canonical_node names s)) (list_of (canonical_node names t))),
      sides
          (each-list_of (canonical_node names s) (each-node s fit.1))
          (each-list_of (canonical_node names t) (each-node t fit.2)),
    )

    pub each-members : (ms : Trees) → 1 ≤ status.member_count ms → AtEachNodeIn (IsFit bound) ms
        → AtEachMember P Q (canonical_members names ms)
    each-members status.none some fit = absurd (omega arith)
    each-members (status.more s ms) some fit = each-row (canonical_node names s) ms (each-node s fit.0) fit.1

    each-row : (first : Node) (ms : Trees) → AtEach P Q first → AtEachNodeIn (IsFit bound) ms
        → AtEachMember P Q (canonical_row names first ms)
    each-row first status.none h fit = h
    each-row first (status.more s ms) h fit = (h, each-row (canonical_node names s) ms (each-node s fit.0) fit.1)

  -- a status by itself
  pub each-body : (s : Tree) → AtEachNode (IsFit bound) s → AtEachOfBody P Q (canonical_body names s)
  each-body s fit = each-body_of (canonical_node names s) (each-node s fit)

  -- a joint status by itself, which may have one member
  pub each-joint : (ms : Trees) → 1 ≤ status.member_count ms → status.member_count ms ≤ 16
      → AtEachNodeIn (IsFit bound) ms → AtEachOfBody P Q (canonical_body names (status.joint ms))
  each-joint ms some most fit = (few ms some most, each-members ms some fit)

-- a member, a term and a number within their limits
within_facts : (names : List (List ℕ)) → All IsShortName names
    → AreFacts names (length names) IsMemberWithin IsListWithin
within_facts names short = record {
  at_life = λ i below. All-get_or IsShortName names i [] below short;
  at_term = λ n is. rw (number-decimal n (omega (arith, is.1))) is.1;
  at_last = λ ms. tt;
  at_at_least = λ r ms most. rw (number-decimal r (omega arith)) (omega arith);
  at_exactly = λ r ms most. rw (number-decimal r (omega arith)) (omega arith);
  at_group = λ body. tt;
  at_list = λ ms most. most;
}

-- a term of some years
years_facts : (names : List (List ℕ)) (bound : ℕ) → AreFacts names bound HasYears (λ ms. ⊤)
years_facts names bound = record {
  at_life = λ i below. tt;
  at_term = λ n is. rw (number-decimal n (omega (arith, is.1))) is.0;
  at_last = λ ms. tt;
  at_at_least = λ r ms most. tt;
  at_exactly = λ r ms most. tt;
  at_group = λ body. tt;
  at_list = λ ms most. tt;
}

-- a name that is declared
declared_facts : (names : List (List ℕ)) → AreFacts names (length names) (IsDeclared names) (λ ms. ⊤)
declared_facts names = record {
  at_life = λ i below. among_at names (name_at names i) i below refl;
  at_term = λ n is. tt;
  at_last = λ ms. tt;
  at_at_least = λ r ms most. tt;
  at_exactly = λ r ms most. tt;
  at_group = λ body. tt;
  at_list = λ ms most. tt;
}

-- what is proper of a member, apart from the members in it
abbrev IsProperPart : Node → Type 0
IsProperPart (life name) = IsPlainName name
IsProperPart (term years) = IsNumber years
IsProperPart (last ms) = ⊤
IsProperPart (at_least rank ms) = IsNumber rank
IsProperPart (exactly rank ms) = IsNumber rank
IsProperPart (group body) = ⊤

mutual
  proper-node : (m : Node) → AtEach IsProperPart (λ ms. ⊤) m → IsProper m
  proper-node (life name) h = h
  proper-node (term years) h = h
  proper-node (last ms) h = proper-members ms h.2
  proper-node (at_least rank ms) h = (h.0, proper-members ms h.2)
  proper-node (exactly rank ms) h = (h.0, proper-members ms h.2)
  proper-node (group body) h = proper-body body h.1

  proper-members : (ms : Members) → AtEachMember IsProperPart (λ ms. ⊤) ms → AreProper ms
  proper-members (one m) h = proper-node m h
  proper-members (and m ms) h = (proper-node m h.0, proper-members ms h.1)

  proper-body : (body : Body) → AtEachOfBody IsProperPart (λ ms. ⊤) body → IsProperBody body
  proper-body (list ms) h = proper-members ms h.1
  proper-body (reversion ms ns) h = (proper-members ms h.0.1, proper-members ns h.2)

proper_facts : (names : List (List ℕ)) → All IsPlainName names → AreFacts names (length names) IsProperPart (λ ms. ⊤)
proper_facts names plain = record {
  at_life = λ i below. All-get_or IsPlainName names i [] below plain;
  at_term = λ n is. IsNumber-decimal n (omega (arith, is.1));
  at_last = λ ms. tt;
  at_at_least = λ r ms most. IsNumber-decimal r (omega arith);
  at_exactly = λ r ms most. IsNumber-decimal r (omega arith);
  at_group = λ body. tt;
  at_list = λ ms most. tt;
}

-- a status that can be written by itself: fit, or joint of fit members, of which there may be one
abbrev pub IsFitBody : ℕ → Tree → Type 0
IsFitBody bound s =
    AtEachNode (IsFit bound) s ⊎ ((ms : Trees) × (s ≡ status.joint ms) × (1 ≤ status.member_count ms)
    × (status.member_count ms ≤ 16) × AtEachNodeIn (IsFit bound) ms)

-- what its canonical tree is
pub record IsGoodBody (names : List (List ℕ)) (body : Body) : Type 0 where
  pub proper : IsProperBody body
  pub within : IsBodyWithin body
  pub years : parts.AtEachNode HasYears body
  pub declared : parts.AtEachNode (IsDeclared names) body

module _ (names : List (List ℕ)) (plain : All IsPlainName names) (short : All IsShortName names) where
  at_body : (P : Node → Type 0) (Q : Members → Type 0) → AreFacts names (length names) P Q → (s : Tree)
      → IsFitBody (length names) s → AtEachOfBody P Q (canonical_body names s)
  at_body P Q facts s (inl fit) = each-body names (length names) P Q facts s fit
  at_body P Q facts s (inr (ms, is, some, most, fit)) =
      rw is (each-joint names (length names) P Q facts ms some most fit)

  pub good-canonical_body : (s : Tree) → IsFitBody (length names) s → IsGoodBody names (canonical_body names s)
  good-canonical_body s fit = record {
    proper = proper-body (canonical_body names s) (at_body IsProperPart (λ ms. ⊤) (proper_facts names plain) s fit);
    within = at_body IsMemberWithin IsListWithin (within_facts names short) s fit;
    years = at_body HasYears (λ ms. ⊤) (years_facts names (length names)) s fit;
    declared = at_body (IsDeclared names) (λ ms. ⊤) (declared_facts names) s fit;
  }

-- Statuses that name nothing in common.
use Rattle.std.specs.Prelude.{◌≡◌, ◌<◌, ℕ, IsTrue, Some}
use Rattle.halo_status.specs.Naming.{any_names_term, names_term}
use Rattle.halo_status.specs.Tree.{Tree, Trees, member_at}
use Rattle.halo_status.specs.ValidPay.{SharesNothing}

-- no term is named by both
abbrev pub SharesNoTerm : Tree → Tree → Type 0
SharesNoTerm s t = (n : ℕ) → IsTrue (names_term n s) → IsTrue (names_term n t) → ⊥

-- no term is named by one of the members and by the status
abbrev pub ShareNoTerm : Trees → Tree → Type 0
ShareNoTerm ms t = (n : ℕ) → IsTrue (any_names_term n ms) → IsTrue (names_term n t) → ⊥

-- the members at two places share nothing
abbrev pub AreApartAt : Trees → ℕ → ℕ → Type 0
AreApartAt ms p q = (s t : Tree)
    → member_at ms p ≡ Some s → member_at ms q ≡ Some t → SharesNothing s t

-- the member at a place shares nothing with those before it
abbrev pub IsApartAt : Trees → ℕ → Type 0
IsApartAt ms later = (earlier : ℕ) → earlier < later → AreApartAt ms earlier later

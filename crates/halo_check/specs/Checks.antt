-- The checks of a line behind its syntax, in their order. Each is stated as what a line passes.
use Rattle.std.specs.Prelude.{◌≡◌, ◌≢◌, ℕ, ◌+◌, ◌<◌, ◌≤◌, ◌^◌, List, [], All, Contains, IfSome, length, get_or, true, ⊤, map}
use Rattle.halo_text.specs.Number.{number}
use Rattle.halo_status.specs.Exists.{exists}
use Rattle.halo_status.specs.Nodes.{AtEachNode, IsLasting}
use Rattle.halo_status.specs.Tree as status
use Rattle.halo_status.specs.Tree.{Tree, member_count}
use Rattle.halo_status.specs.ValidPay.{AreApart, HasRank, IsRank}
use Rattle.halo_status.specs.View.{is_on}
use Rattle.halo_status.specs.declared.pay.Kind.TheVariants.{Insurance}
use Rattle.halo_status.specs.declared.view.View.TheVariants.{Due}
use Rattle.halo_table.specs.DecrementTable.{TableFile, last_age_of, names_of, HasRow}
use Rattle.halo_contract.specs.Premium.{all_lives}
use Rattle.halo_contract.specs.declared.contract.LifeLine.{LifeLine}
use Rattle.halo_symbol.specs.Tree.{Node, life, term, Body}
use Rattle.halo_symbol.specs.Symbol.{Vary, decreasing, Symbol}
use Rattle.halo_symbol.specs.StatusOf.{tree_of_body, tree_of_symbol}
use Rattle.halo_check.specs.Draft.{Draft, all_names, place_of}
use Rattle.halo_contract.specs.PlainContract.{amount_of_all, life_names}
use Rattle.halo_syntax.specs.Forms.{form_of}
use Rattle.halo_check.specs.FormOrder.{CameBefore, IsInOrder}
use Rattle.halo_check.specs.Limits.{IsRateWithin, IsShortName, IsStatusWithin, IsSymbolWithin, IsUpTo}
use Rattle.halo_syntax.specs.Line as line
use Rattle.halo_syntax.specs.Line.{Line, LaterRate}
use Rattle.halo_check.specs.Parts as parts
use Rattle.halo_check.specs.declared.fault.ContractKind.{ContractKind}
use Rattle.halo_check.specs.declared.fault.ContractKind.TheVariants as kind
use Rattle.halo_syntax.specs.declared.form.Form.TheVariants as form
use Rattle.halo_check.specs.declared.limits.TheConstants.{GREATEST_AGE, GREATEST_AMOUNT, GREATEST_PART, MOST_LIVES, MOST_PAYS, MOST_RATES, MOST_RESERVES, MOST_YEARS}

-- Magnitude: each number, name and list is within its limit, and so is how many lines of a form
-- there are and what the amounts add up to
abbrev pub IsWithinLimits : Draft → Line → Type 0
IsWithinLimits d (line.interest p q rates) =
    IsUpTo GREATEST_PART p × IsUpTo GREATEST_PART q × All IsRateWithin rates
    × (length rates < MOST_RATES)
IsWithinLimits d (line.life name table age) =
    IsShortName name × IsShortName table × IsUpTo GREATEST_AGE age × (length d.lives < MOST_LIVES)
IsWithinLimits d (line.ties r) = ⊤
IsWithinLimits d (line.pay amount s) =
    IsUpTo GREATEST_AMOUNT amount × IsSymbolWithin s × (length d.pays < MOST_PAYS)
    × (amount_of_all d.pays + number amount ≤ GREATEST_AMOUNT)
IsWithinLimits d (line.premium body) = IsStatusWithin body
IsWithinLimits d (line.reserve time names) =
    IsUpTo MOST_YEARS time × All IsShortName names × (length d.reserves < MOST_RESERVES)

-- the digits write a number that is not 0
abbrev pub IsSome : List ℕ → Type 0
IsSome digits = 1 ≤ number digits

-- a term of at least one year
abbrev pub HasYears : Node → Type 0
HasYears (term years) = IsSome years
HasYears _ = ⊤

-- the number of a decreasing head is not 0
abbrev pub FallsFromSome : Vary → Type 0
FallsFromSome (decreasing count) = IsSome count
FallsFromSome _ = ⊤

-- Zero: no Q, YEAR, amount, term or number of a `D` is 0
abbrev pub HasNoZero : Line → Type 0
HasNoZero (line.interest p q rates) =
    IsSome q × All (λ rate. IsSome rate.year × IsSome rate.q) rates
HasNoZero (line.pay amount s) =
    IsSome amount × FallsFromSome s.vary × parts.AtEachNode HasYears s.body
HasNoZero (line.premium body) = parts.AtEachNode HasYears body
HasNoZero _ = ⊤

-- the year of the fraction at a place, from 0
abbrev pub year_at : List LaterRate → ℕ → ℕ
year_at rates i = number (get_or (map (λ rate. rate.year) rates) i [])

-- each year is above the one before it
abbrev pub YearsRise : List LaterRate → Type 0
YearsRise rates = (i : ℕ) → i + 1 < length rates → year_at rates i < year_at rates (i + 1)

-- Years: each YEAR is above the one before it
abbrev pub HasRisingYears : Line → Type 0
HasRisingYears (line.interest p q rates) = YearsRise rates
HasRisingYears _ = ⊤

-- no two of some names are equal
abbrev pub AreDifferent : List (List ℕ) → Type 0
AreDifferent names = (i j : ℕ) → i < j → j < length names → get_or names i [] ≢ get_or names j []

-- Twice: there is one interest, one ties and one premium line, a life's name is new, and no name
-- stands twice in a set or in a reserve
abbrev pub IsOnce : Draft → Line → Type 0
IsOnce d (line.interest p q rates) = CameBefore d form.Interest → ⊥
IsOnce d (line.life name table age) = Contains (life_names d.lives) name → ⊥
IsOnce d (line.ties r) = CameBefore d form.Ties → ⊥
IsOnce d (line.pay amount s) = IfSome s.causes (λ names. AreDifferent (all_names names))
IsOnce d (line.premium body) = CameBefore d form.Premium → ⊥
IsOnce d (line.reserve time names) = AreDifferent names

-- NoTable: a life's table is in the tables file
abbrev pub HasTable : TableFile → Line → Type 0
HasTable tables (line.life name table age) = Contains (names_of tables.tables) table
HasTable tables _ = ⊤

-- NoAge: a life's table has a row at its age
abbrev pub HasAge : TableFile → Line → Type 0
HasAge tables (line.life name table age) =
    HasRow tables (place_of (names_of tables.tables) table) (number age)
HasAge tables _ = ⊤

-- the name of a member was declared
abbrev pub IsDeclared : List (List ℕ) → Node → Type 0
IsDeclared lives (life name) = Contains lives name
IsDeclared lives _ = ⊤

-- NoLife: the names in a symbol's body, a status or a reserve were declared
abbrev pub HasLives : Draft → Line → Type 0
HasLives d (line.pay amount s) = parts.AtEachNode (IsDeclared (life_names d.lives)) s.body
HasLives d (line.premium body) = parts.AtEachNode (IsDeclared (life_names d.lives)) body
HasLives d (line.reserve time names) = All (λ name. Contains (life_names d.lives) name) names
HasLives d _ = ⊤

-- NoCause: the names of a set are causes of the tables file
abbrev pub HasCauses : TableFile → Line → Type 0
HasCauses tables (line.pay amount s) =
    IfSome s.causes (λ names. All (λ name. Contains tables.causes name) (all_names names))
HasCauses tables _ = ⊤

-- the status that a symbol, or a status, is in a draft
abbrev pub symbol_tree : Draft → Symbol → Tree
symbol_tree d s = tree_of_symbol (place_of (life_names d.lives)) s

abbrev pub status_tree : Draft → Body → Tree
status_tree d body = tree_of_body (place_of (life_names d.lives)) body

-- a fact of the members of a joint status
abbrev pub OfMembers : (status.Trees → Type 0) → Tree → Type 0
OfMembers P (status.joint ms) = P ms
OfMembers P _ = ⊤

-- Rank: the number of an `at least`, an `exactly` and a mark is from 1 to the number of members of
-- its list
abbrev pub HasRanks : Draft → Line → Type 0
HasRanks d (line.pay amount s) =
    let tree = symbol_tree d s in
    AtEachNode HasRank tree
    × IfSome s.mark (λ mark. OfMembers (λ ms. IsRank (number mark.rank) (member_count ms)) tree)
HasRanks d (line.premium body) = AtEachNode HasRank (status_tree d body)
HasRanks d _ = ⊤

-- NotLasting: the body of an insurance is lasting
abbrev pub IsLastingLine : Draft → Line → Type 0
IsLastingLine d (line.pay amount s) = s.kind ≡ Insurance → IsLasting (symbol_tree d s)
IsLastingLine d _ = ⊤

-- Shared: in a marked list no two different members name the same life or the same term length
abbrev pub SharesNothingMarked : Draft → Line → Type 0
SharesNothingMarked d (line.pay amount s) =
    IfSome s.mark (λ mark. OfMembers AreApart (symbol_tree d s))
SharesNothingMarked d _ = ⊤

-- NotAtStart: the premium's status exists at time 0 with all lives alive
abbrev pub ExistsAtStart : Draft → Line → Type 0
ExistsAtStart d (line.premium body) = exists all_lives (is_on Due 0) (status_tree d body) ≡ true
ExistsAtStart d _ = ⊤

-- a life that has one of the names has a row at its age plus t, where it has one at its age
abbrev pub IsAliveIfNamed : TableFile → List (List ℕ) → ℕ → LifeLine → Type 0
IsAliveIfNamed tables names t declared =
    Contains names declared.name → declared.life.age + t ≤ last_age_of tables declared.life.table

-- NotAlive: each life named in a reserve has a row at its age plus T
abbrev pub AreAliveThen : TableFile → Draft → Line → Type 0
AreAliveThen tables d (line.reserve time names) =
    All (IsAliveIfNamed tables names (number time)) d.lives
AreAliveThen tables d _ = ⊤

-- a line passes the check of this kind
abbrev pub Passes : TableFile → Draft → Line → ContractKind → Type 0
Passes tables d l kind.Magnitude = IsWithinLimits d l
Passes tables d l kind.Zero = HasNoZero l
Passes tables d l kind.Years = HasRisingYears l
Passes tables d l kind.Order = IsInOrder d (form_of l)
Passes tables d l kind.Twice = IsOnce d l
Passes tables d l kind.NoTable = HasTable tables l
Passes tables d l kind.NoAge = HasAge tables l
Passes tables d l kind.NoLife = HasLives d l
Passes tables d l kind.NoCause = HasCauses tables l
Passes tables d l kind.Rank = HasRanks d l
Passes tables d l kind.NotLasting = IsLastingLine d l
Passes tables d l kind.Shared = SharesNothingMarked d l
Passes tables d l kind.NotAtStart = ExistsAtStart d l
Passes tables d l kind.NotAlive = AreAliveThen tables d l
Passes tables d l _ = ⊤

-- the place of a check in the order of the checks
abbrev pub place_of_check : ContractKind → ℕ
place_of_check kind.Syntax = 0
place_of_check kind.Magnitude = 1
place_of_check kind.Zero = 2
place_of_check kind.Years = 3
place_of_check kind.Order = 4
place_of_check kind.Twice = 5
place_of_check kind.NoTable = 6
place_of_check kind.NoAge = 7
place_of_check kind.NoLife = 8
place_of_check kind.NoCause = 9
place_of_check kind.Rank = 10
place_of_check kind.NotLasting = 11
place_of_check kind.Shared = 12
place_of_check kind.NotAtStart = 13
place_of_check kind.NotAlive = 14
place_of_check kind.Missing = 15

-- a line passes all checks
abbrev pub PassesAll : TableFile → Draft → Line → Type 0
PassesAll tables d l = (k : ContractKind) → Passes tables d l k

-- of the checks that a line does not pass this is the first
pub record FailsFirst (tables : TableFile) (d : Draft) (l : Line) (k : ContractKind) : Type 0 where
  pub fails : Passes tables d l k → ⊥
  pub passes_before : (j : ContractKind) → place_of_check j < place_of_check k → Passes tables d l j

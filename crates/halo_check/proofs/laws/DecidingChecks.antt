-- Whether a line passes a check can be told.
use Rattle.std.proofs.Common.{◌≡◌, ℕ, ◌+◌, ◌^◌, ◌<◌, ◌≤◌, List, arith, length, refl, true}
use Rattle.std.specs.Prelude.{All, Contains}
use Rattle.std.proofs.Math.Bool.{Bool-discrete}
use Rattle.std.proofs.Math.Decide.{map_dec, dec_le, dec_lt}
use Rattle.std.proofs.Math.Logic.Dec
use Rattle.halo_table.specs.DecrementTable.{HasRow, TableFile, first_age_of, last_age_of, names_of}
use Rattle.halo_contract.specs.Premium.{all_lives}
use Rattle.halo_status.specs.Exists.{exists}
use Rattle.halo_status.specs.Tree.{member_count}
use Rattle.halo_status.specs.ValidPay.{AreApart, IsRank}
use Rattle.halo_status.specs.View.{is_on}
use Rattle.halo_status.specs.declared.pay.Kind.{Kind}
use Rattle.halo_status.specs.declared.pay.Kind.TheVariants as pays
use Rattle.halo_status.specs.declared.view.View.TheVariants.{Due}
use Rattle.halo_symbol.specs.Symbol.{Mark, Names}
use Rattle.halo_table.proofs.Deciding.{dec_contains, dec_if}
use Rattle.halo_text.specs.Number.{number}
use Rattle.halo_check.specs.CheckLaws.{PassesOrFails}
use Rattle.halo_check.specs.Checks.{AreAliveThen, AreDifferent, ExistsAtStart, HasAge, HasCauses, HasLives, HasNoZero, HasRanks, HasRisingYears, HasTable, IsAliveIfNamed, IsLastingLine, IsOnce, IsSome, IsWithinLimits, OfMembers, Passes, SharesNothingMarked, YearsRise, status_tree, symbol_tree, year_at}
use Rattle.halo_check.specs.Draft.{Draft, all_names, place_of}
use Rattle.halo_contract.specs.PlainContract.{amount_of_all, life_names}
use Rattle.halo_syntax.specs.Forms.{form_of, place_of_form}
use Rattle.halo_check.specs.FormOrder.{CameBefore, IsInOrder}
use Rattle.halo_check.specs.Limits.{IsRateWithin, IsShortName}
use Rattle.halo_syntax.specs.Line.{Line, LaterRate, interest, life, ties, pay, premium, reserve}
use Rattle.halo_check.specs.declared.fault.ContractKind.{ContractKind}
use Rattle.halo_check.specs.declared.fault.ContractKind.TheVariants as kind
use Rattle.halo_syntax.specs.declared.form.Form.{Form}
use Rattle.halo_syntax.specs.declared.form.Form.TheVariants as form
use Rattle.halo_check.proofs.laws.CheckOrder.{first_failed}
use Rattle.halo_check.proofs.laws.Deciding.{dec_all, dec_different, dec_each, dec_four, dec_if_some, dec_some, dec_three}
use Rattle.halo_check.proofs.laws.DecidingParts.{dec_falls_from_some, dec_is_some, dec_lives_of_body, dec_rate_within, dec_short_name, dec_status_within, dec_symbol_within, dec_up_to, dec_years_of_body}
use Rattle.halo_check.proofs.laws.DecidingStatuses.{dec_apart, dec_lasting, dec_of_members, dec_rank, dec_ranks}

-- Magnitude
dec_limits : (d : Draft) (l : Line) → Dec (IsWithinLimits d l)
dec_limits d (interest p q rates) =
    dec_four (dec_up_to (10 ^ 9) p) (dec_up_to (10 ^ 9) q) (dec_all IsRateWithin dec_rate_within rates)
    (dec_lt (length rates) 8)
dec_limits d (life name table age) =
    dec_four (dec_short_name name) (dec_short_name table) (dec_up_to 150 age) (dec_lt (length d.lives) 12)
dec_limits d (ties r) = yes tt
dec_limits d (pay amount s) =
    dec_four (dec_up_to (10 ^ 10) amount) (dec_symbol_within s) (dec_lt (length d.pays) 64)
    (dec_le (amount_of_all d.pays + number amount) (10 ^ 10))
dec_limits d (premium body) = dec_status_within body
dec_limits d (reserve time names) =
    dec_three (dec_up_to 200 time) (dec_all IsShortName dec_short_name names) (dec_lt (length d.reserves) 64)

-- Zero
dec_no_zero : (l : Line) → Dec (HasNoZero l)
dec_no_zero (interest p q rates) = Dec.and (dec_is_some q)
    (dec_all (λ (rate : LaterRate). IsSome rate.year × IsSome rate.q)
    (λ rate. Dec.and (dec_is_some rate.year) (dec_is_some rate.q)) rates)
dec_no_zero (pay amount s) = dec_three (dec_is_some amount) (dec_falls_from_some s.vary) (dec_years_of_body s.body)
dec_no_zero (premium body) = dec_years_of_body body
dec_no_zero _ = yes tt

-- Years
dec_rising : (rates : List LaterRate) → Dec (YearsRise rates)
dec_rising rates = map_dec (λ each i below. each i (omega arith) below) (λ rise i within below. rise i below)
    (dec_each (λ i. i + 1 < length rates → year_at rates i < year_at rates (i + 1))
    (λ i. dec_if (dec_lt (i + 1) (length rates)) (dec_lt (year_at rates i) (year_at rates (i + 1)))) (length rates))

dec_rising_years : (l : Line) → Dec (HasRisingYears l)
dec_rising_years (interest p q rates) = dec_rising rates
dec_rising_years _ = yes tt

-- a line of a form is among some lines
dec_came : (d : Draft) (f : Form) → Dec (CameBefore d f)
dec_came d form.Interest = dec_some d.interest
dec_came d form.Life = dec_lt 0 (length d.lives)
dec_came d form.Ties = dec_some d.ties
dec_came d form.Pay = dec_lt 0 (length d.pays)
dec_came d form.Premium = dec_some d.premium
dec_came d form.Reserve = dec_lt 0 (length d.reserves)

-- a fact of each form
dec_each_form : (P : Form → Type 0) → ((f : Form) → Dec (P f)) → Dec ((f : Form) → P f)
dec_each_form P d =
    map_dec each (λ all. (
      (all form.Interest, all form.Life, all form.Ties),
      (all form.Pay, all form.Premium, all form.Reserve),
    ))
    (Dec.and (dec_three (d form.Interest) (d form.Life) (d form.Ties))
    (dec_three (d form.Pay) (d form.Premium) (d form.Reserve)))
  where
    each : (P form.Interest × P form.Life × P form.Ties) × (P form.Pay × P form.Premium × P form.Reserve) → (f : Form)
        → P f
    each h form.Interest = h.0.0
    each h form.Life = h.0.1
    each h form.Ties = h.0.2
    each h form.Pay = h.1.0
    each h form.Premium = h.1.1
    each h form.Reserve = h.1.2

-- Order
dec_in_order : (d : Draft) (f : Form) → Dec (IsInOrder d f)
dec_in_order d f =
    dec_each_form (λ earlier. CameBefore d earlier → place_of_form earlier ≤ place_of_form f)
    (λ earlier. dec_if (dec_came d earlier) (dec_le (place_of_form earlier) (place_of_form f)))

-- Twice
dec_once : (d : Draft) (l : Line) → Dec (IsOnce d l)
dec_once d (interest p q rates) = Dec.not (dec_came d form.Interest)
dec_once d (life name table age) = Dec.not (dec_contains (life_names d.lives) name)
dec_once d (ties r) = Dec.not (dec_came d form.Ties)
dec_once d (pay amount s) =
    dec_if_some (λ (names : Names). AreDifferent (all_names names)) (λ names. dec_different (all_names names)) s.causes
dec_once d (premium body) = Dec.not (dec_came d form.Premium)
dec_once d (reserve time names) = dec_different names

-- NoTable
dec_table : (tables : TableFile) (l : Line) → Dec (HasTable tables l)
dec_table tables (life name table age) = dec_contains (names_of tables.tables) table
dec_table tables _ = yes tt

-- a table has a row at an age
dec_row : (tables : TableFile) (table age : ℕ) → Dec (HasRow tables table age)
dec_row tables table age =
    map_dec (λ h. record {
      table_in = h.0;
      from_first = h.1;
      to_last = h.2;
    }) (λ row. (row.table_in, row.from_first, row.to_last))
    (dec_three (dec_lt table (length tables.tables)) (dec_le (first_age_of tables table) age)
    (dec_le age (last_age_of tables table)))

-- NoAge
dec_age : (tables : TableFile) (l : Line) → Dec (HasAge tables l)
dec_age tables (life name table age) = dec_row tables (place_of (names_of tables.tables) table) (number age)
dec_age tables _ = yes tt

-- NoLife
dec_lives : (d : Draft) (l : Line) → Dec (HasLives d l)
dec_lives d (pay amount s) = dec_lives_of_body (life_names d.lives) s.body
dec_lives d (premium body) = dec_lives_of_body (life_names d.lives) body
dec_lives d (reserve time names) =
    dec_all (λ name. Contains (life_names d.lives) name) (dec_contains (life_names d.lives)) names
dec_lives d _ = yes tt

-- NoCause
dec_causes : (tables : TableFile) (l : Line) → Dec (HasCauses tables l)
dec_causes tables (pay amount s) =
    dec_if_some (λ (names : Names). All (λ name. Contains tables.causes name) (all_names names))
    (λ names. dec_all (λ name. Contains tables.causes name) (dec_contains tables.causes) (all_names names)) s.causes
dec_causes tables _ = yes tt

-- Rank
dec_ranks_of_line : (d : Draft) (l : Line) → Dec (HasRanks d l)
dec_ranks_of_line d (pay amount s) = Dec.and (dec_ranks (symbol_tree d s))
    (dec_if_some (λ (mark : Mark). OfMembers (λ ms. IsRank (number mark.rank) (member_count ms)) (symbol_tree d s))
    (λ mark. dec_of_members (λ ms. IsRank (number mark.rank) (member_count ms))
    (λ ms. dec_rank (number mark.rank) (member_count ms)) (symbol_tree d s)) s.mark)
dec_ranks_of_line d (premium body) = dec_ranks (status_tree d body)
dec_ranks_of_line d _ = yes tt

-- a pay is an insurance
dec_insurance : (k : Kind) → Dec (k ≡ pays.Insurance)
dec_insurance pays.Due = no (λ same. cc)
dec_insurance pays.Immediate = no (λ same. cc)
dec_insurance pays.Insurance = yes refl

-- NotLasting
dec_lasting_line : (d : Draft) (l : Line) → Dec (IsLastingLine d l)
dec_lasting_line d (pay amount s) = dec_if (dec_insurance s.kind) (dec_lasting (symbol_tree d s))
dec_lasting_line d _ = yes tt

-- Shared
dec_shares_nothing_marked : (d : Draft) (l : Line) → Dec (SharesNothingMarked d l)
dec_shares_nothing_marked d (pay amount s) =
    dec_if_some (λ (mark : Mark). OfMembers AreApart (symbol_tree d s))
    (λ mark. dec_of_members AreApart dec_apart (symbol_tree d s)) s.mark
dec_shares_nothing_marked d _ = yes tt

-- NotAtStart
dec_at_start : (d : Draft) (l : Line) → Dec (ExistsAtStart d l)
dec_at_start d (premium body) = Bool-discrete (exists all_lives (is_on Due 0) (status_tree d body)) true
dec_at_start d _ = yes tt

-- NotAlive
dec_alive : (tables : TableFile) (d : Draft) (l : Line) → Dec (AreAliveThen tables d l)
dec_alive tables d (reserve time names) = dec_all (IsAliveIfNamed tables names (number time))
    (λ declared. dec_if (dec_contains names declared.name)
    (dec_le (declared.life.age + number time) (last_age_of tables declared.life.table))) d.lives
dec_alive tables d _ = yes tt

-- a line passes the check of a kind
dec_passes : (tables : TableFile) (d : Draft) (l : Line) (k : ContractKind) → Dec (Passes tables d l k)
dec_passes tables d l kind.Magnitude = dec_limits d l
dec_passes tables d l kind.Zero = dec_no_zero l
dec_passes tables d l kind.Years = dec_rising_years l
dec_passes tables d l kind.Order = dec_in_order d (form_of l)
dec_passes tables d l kind.Twice = dec_once d l
dec_passes tables d l kind.NoTable = dec_table tables l
dec_passes tables d l kind.NoAge = dec_age tables l
dec_passes tables d l kind.NoLife = dec_lives d l
dec_passes tables d l kind.NoCause = dec_causes tables l
dec_passes tables d l kind.Rank = dec_ranks_of_line d l
dec_passes tables d l kind.NotLasting = dec_lasting_line d l
dec_passes tables d l kind.Shared = dec_shares_nothing_marked d l
dec_passes tables d l kind.NotAtStart = dec_at_start d l
dec_passes tables d l kind.NotAlive = dec_alive tables d l
dec_passes tables d l _ = yes tt

-- a line passes all checks, or there is a first one that it does not pass
pub passes_or_fails : PassesOrFails
passes_or_fails tables d l = first_failed tables d l (dec_passes tables d l)

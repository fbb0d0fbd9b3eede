-- The canonical line of what a line adds passes all checks where that line stood, and adds the same.
use Rattle.std.proofs.Common.{◌≡◌, ℕ, zero, suc, ◌+◌, ◌≤◌, ◌<◌, ◌^◌, List, [], ◌∷◌, ◌++◌, Option, Some, None, length, map, get_or, ap, ap₂, sym, ◌∙◌, refl, subst, arith}
use Rattle.std.specs.Prelude.{All, Contains, IfSome}
use Rattle.std.specs.Fmt.{decimal}
use Rattle.std.specs.Option.{option_map}
use Rattle.std.proofs.lemmas.List.{get_or-map, length-map}
use Rattle.std.proofs.lemmas.List.Elements.{All-contains, All-contains_itself, All-cons, All-head, All-nil, All-tail, All-weaker}
use Rattle.halo_text.specs.Name.{IsName}
use Rattle.halo_text.specs.Number.{IsNumber, number}
use Rattle.halo_interest.specs.declared.rate.Rate.{Rate}
use Rattle.halo_status.specs.Pay.{PlainPay}
use Rattle.halo_status.specs.Tree as status
use Rattle.halo_status.specs.Tree.{Tree}
use Rattle.halo_status.specs.ValidPay.{AreApart, CanBeMarked, IsRank}
use Rattle.halo_status.specs.declared.pay.Kind.{Kind}
use Rattle.halo_status.specs.declared.pay.Kind.TheVariants.{Insurance}
use Rattle.halo_status.specs.declared.pay.Mark.{Mark}
use Rattle.halo_contract.specs.Premium.{premium_pay}
use Rattle.halo_symbol.specs.Proper.{IsPlainName}
use Rattle.halo_symbol.specs.StatusOf.{tree_of_body}
use Rattle.halo_symbol.specs.Symbol.{Symbol}
use Rattle.halo_symbol.specs.Tree.{Body}
use Rattle.halo_lex.specs.Lexeme.{IsLongName}
use Rattle.halo_table.specs.DecrementTable.{DecrementTable, TableFile, empty_table, last_age_of, name_of, names_of}
use Rattle.halo_table.specs.Sound.{IsSound}
use Rattle.halo_check.specs.Checks.{IsSome, IsWithinLimits, OfMembers, PassesAll, YearsRise, year_at}
use Rattle.halo_check.specs.Draft.{Draft, mask_of_names, pay_written, place_of, rate_from, with_line}
use Rattle.halo_contract.specs.PlainContract.{life_names}
use Rattle.halo_check.specs.Limits.{IsRateWithin, IsShortName, any_life}
use Rattle.halo_syntax.specs.Line.{Line, LaterRate, interest, life, pay, premium, reserve, ties}
use Rattle.halo_syntax.specs.LineReading.{nest_line}
use Rattle.halo_syntax.specs.ProperLine.{IsProperLine, IsProperRate}
use Rattle.halo_contract.specs.declared.contract.LifeLine.{LifeLine}
use Rattle.halo_check.specs.declared.fault.ContractKind.TheVariants as kind
use Rattle.halo_syntax.specs.declared.form.Form.TheVariants as form
use Rattle.halo_contract.specs.declared.ties.Ties.TheVariants as rule
use Rattle.halo_parse.proofs.MasksOfNames.{mask_of_names-lt}
use Rattle.halo_check.proofs.Nodes.{nodes-tree_of_body}
use Rattle.halo_spell.specs.Canonical.{canonical_body, canonical_mark, names_in}
use Rattle.halo_spell.specs.ContractText.{canonical_rate, life_line, pay_line, premium_line, reserve_line}
use Rattle.halo_spell.proofs.Brief.{brief_rule, briefly, came}
use Rattle.halo_spell.proofs.GoodSymbols.{different_causes, falls_from_some, good_body, known_causes, proper_symbol, symbol_within}
use Rattle.halo_spell.proofs.NamesBack.{All-chosen, All-names_of_mask, mask_back, name_back, names_in-different}
use Rattle.halo_spell.proofs.NumbersBack.{IsNumber-decimal, number-decimal}
use Rattle.halo_spell.proofs.PartsBack.{IsGoodBody, good-canonical_body}
use Rattle.halo_spell.proofs.PaysBack.{IsSpelledPay, low_marks, pay_back}
use Rattle.halo_spell.proofs.SpelledLines.{IsNamed, IsSpelledStatus, spelled_pay, spelled_status}

-- a line that adds to a draft what another line adds to another
pub record IsAgain (tables : TableFile) (d : Draft) (l again : Line) : Type 0 where
  pub proper : IsProperLine again
  pub depth : nest_line again ≤ 16
  pub passes : PassesAll tables (briefly d) again
  pub adds : with_line tables (briefly d) again ≡ briefly (with_line tables d l)

-- the digits of a number that is within a limit write it
back : (limit n : ℕ) → limit < 2 ^ 64 → n ≤ limit → number (decimal n) ≡ n
back limit n small within = number-decimal n (omega arith)

digits : (limit n : ℕ) → limit < 2 ^ 64 → n ≤ limit → IsNumber (decimal n)
digits limit n small within = IsNumber-decimal n (omega arith)

-- the rank of a mark is one of the members of a joint status
mark_ranks : (s : Tree) (kind : Kind) (mark : Option Mark) → IfSome mark (λ m. m.rank ≤ 16)
    → IfSome mark (λ m. (kind ≡ Insurance) × CanBeMarked s m)
    → IfSome (option_map canonical_mark mark) (λ m. OfMembers (λ ms. IsRank (number m.rank) (status.member_count ms)) s)
mark_ranks s kind None low can = tt
mark_ranks s kind (Some mark) low can = one s can.1
  where
    one : (s : Tree) → CanBeMarked s mark
        → OfMembers (λ ms. IsRank (number (decimal mark.rank)) (status.member_count ms)) s
    one (status.joint ms) can = rw (number-decimal mark.rank (omega arith)) can.rank
    one s can = absurd can

-- and those members share nothing
mark_apart : (s : Tree) (kind : Kind) (mark : Option Mark) → IfSome mark (λ m. (kind ≡ Insurance) × CanBeMarked s m)
    → IfSome (option_map canonical_mark mark) (λ m. OfMembers AreApart s)
mark_apart s kind None can = tt
mark_apart s kind (Some mark) can = one s can.1
  where
    one : (s : Tree) → CanBeMarked s mark → OfMembers AreApart s
    one (status.joint ms) can = can.apart
    one s can = absurd can

-- the causes of sound tables have short names
short_causes : (tables : TableFile) → IsSound tables → All IsShortName tables.causes
short_causes tables sound = All-weaker IsName IsShortName (λ name is. is.short) tables.causes sound.causes

module _ (tables : TableFile) (sound : IsSound tables) (d : Draft) (named : IsNamed (life_names d.lives)) where
  abbrev names : List (List ℕ)
  names = life_names d.lives

  -- a life
  pub life_again : (name table age : List ℕ) → IsProperLine (life name table age)
      → PassesAll tables d (life name table age)
      → IsAgain tables d (life name table age) (life_line tables (record {
        name = name;
        life = record { table = place_of (names_of tables.tables) table; age = number age };
      }))
  unfolding with_line
  life_again name table age proper passes = rw table_is (record {
    proper = (proper.0, proper.1, digits 150 (number age) (omega arith) (passes kind.Magnitude).2);
    depth = omega arith;
    passes = all;
    adds = rw age_is refl;
  })
    where
      table_is : name_of tables (place_of (names_of tables.tables) table) ≡ table
      table_is =
          sym (get_or-map (λ (t : DecrementTable). t.name) tables.tables _ empty_table [] (passes kind.NoAge).table_in)
          ∙ name_back (names_of tables.tables) table (passes kind.NoTable)

      age_is : number (decimal (number age)) ≡ number age
      age_is = back 150 (number age) (omega arith) (passes kind.Magnitude).2

      all : PassesAll tables (briefly d) (life name table (decimal (number age)))
      all kind.Magnitude = let within = passes kind.Magnitude in (within.0, within.1, rw age_is within.2, within.3)
      all kind.Order = λ f h. passes kind.Order f (came d f h)
      all kind.Twice = passes kind.Twice
      all kind.NoTable = passes kind.NoTable
      all kind.NoAge = rw age_is (passes kind.NoAge)
      all k = tt

  -- the rule for ties that is not left unsaid
  pub ties_again : PassesAll tables d (ties rule.Even) → IsAgain tables d (ties rule.Even) (ties rule.Even)
  unfolding with_line
  ties_again passes = record { proper = tt; depth = omega arith; passes = all; adds = refl }
    where
      all : PassesAll tables (briefly d) (ties rule.Even)
      all kind.Order = λ f h. passes kind.Order f (came d f h)
      all kind.Twice = λ h. passes kind.Twice (came d form.Ties h)
      all k = tt

  -- a pay
  pub pay_again : (amount : List ℕ) (s : Symbol) → IsProperLine (pay amount s) → nest_line (pay amount s) ≤ 16
      → PassesAll tables d (pay amount s)
      → IsAgain tables d (pay amount s) (pay_line (life_names d.lives) tables.causes
      (pay_written (life_names d.lives) tables.causes amount s))
  unfolding with_line
  pay_again amount s proper deep passes = record {
    proper = (
      digits (10 ^ 10) (number amount) (omega arith) (passes kind.Magnitude).0,
      proper_symbol names tables.causes p
          is named.plain named.short causes_short,
    );
    depth = is.depth;
    passes = all;
    adds =
        ap (λ q. record d {
          ties = brief_rule d.ties;
          pays = d.pays ++ q ∷ [];
        }) (pay_back names tables.causes p sound.causes_apart is);
  }
    where
      p : PlainPay
      p = pay_written (life_names d.lives) tables.causes amount s

      is : IsSpelledPay (life_names d.lives) tables.causes p
      is = spelled_pay tables d amount s named proper passes deep

      causes_short : All IsShortName tables.causes
      causes_short = short_causes tables sound

      amount_is : number (decimal (number amount)) ≡ number amount
      amount_is = back (10 ^ 10) (number amount) (omega arith) (passes kind.Magnitude).0

      all : PassesAll tables (briefly d) (pay_line (life_names d.lives) tables.causes p)
      all kind.Magnitude =
          let within = passes kind.Magnitude in
          rw amount_is (
            within.0,
            symbol_within names tables.causes p is named.plain named.short causes_short,
            within.2,
            within.3,
          )
      all kind.Zero =
          rw amount_is (
            (passes kind.Zero).0,
            falls_from_some names tables.causes p is named.plain named.short
                causes_short,
            (good_body names tables.causes p is named.plain named.short causes_short).years,
          )
      all kind.Order = λ f h. passes kind.Order f (came d f h)
      all kind.Twice = different_causes names tables.causes p is named.plain named.short causes_short sound.causes_apart
      all kind.NoLife = (good_body names tables.causes p is named.plain named.short causes_short).declared
      all kind.NoCause = known_causes names tables.causes p is named.plain named.short causes_short
      all kind.Rank =
          rw is.content (
            is.among.valid.ranks,
            mark_ranks p.body p.kind p.mark
                (low_marks p.body p.kind p.mark is.among.valid.lists is.among.valid.mark) is.among.valid.mark,
          )
      all kind.NotLasting = rw is.content is.among.valid.lasting
      all kind.Shared = rw is.content (mark_apart p.body p.kind p.mark is.among.valid.mark)
      all k = tt

  -- a premium
  pub premium_again : (body : Body) → IsProperLine (premium body) → nest_line (premium body) ≤ 16
      → PassesAll tables d (premium body)
      → IsAgain tables d (premium body) (premium_line (life_names d.lives)
      (premium_pay (tree_of_body (place_of (life_names d.lives)) body)))
  unfolding with_line
  premium_again body proper deep passes = record {
    proper = good.proper;
    depth = is.depth;
    passes = all;
    adds = ap (λ s. record d { ties = brief_rule d.ties; premium = Some (premium_pay s) }) is.content;
  }
    where
      t : Tree
      t = tree_of_body (place_of (life_names d.lives)) body

      is : IsSpelledStatus (life_names d.lives) t
      is = spelled_status tables d body named proper passes deep

      good : IsGoodBody (life_names d.lives) (canonical_body (life_names d.lives) t)
      good = good-canonical_body names named.plain named.short t is.fit

      all : PassesAll tables (briefly d) (premium_line (life_names d.lives) (premium_pay t))
      all kind.Magnitude = record {
        parts = good.within;
        few_nodes = rw (nodes-tree_of_body any_life (place_of names) (canonical_body names t), is.content)
            is.valid.few_nodes;
      }
      all kind.Zero = good.years
      all kind.Order = λ f h. passes kind.Order f (came d f h)
      all kind.Twice = passes kind.Twice
      all kind.NoLife = good.declared
      all kind.Rank = rw is.content is.valid.ranks
      all kind.NotAtStart = rw is.content is.at_start
      all k = tt

  -- a reserve
  pub reserve_again : (time : List ℕ) (alive : List (List ℕ)) → IsProperLine (reserve time alive)
      → PassesAll tables d (reserve time alive)
      → IsAgain tables d (reserve time alive) (reserve_line (life_names d.lives) (record {
        time = number time;
        alive = mask_of_names (life_names d.lives) alive;
      }))
  unfolding with_line
  reserve_again time alive proper passes = record {
    proper = (
      digits 200 (number time) (omega arith) (passes kind.Magnitude).0,
      All-weaker IsPlainName IsLongName
          (λ name is. is.0) again (All-chosen IsPlainName names _ named.plain),
    );
    depth = omega arith;
    passes = all;
    adds = rw (time_is, mask_is) refl;
  }
    where
      mask : ℕ
      mask = mask_of_names (life_names d.lives) alive

      again : List (List ℕ)
      again = names_in (life_names d.lives) mask

      time_is : number (decimal (number time)) ≡ number time
      time_is = back 200 (number time) (omega arith) (passes kind.Magnitude).0

      below : mask < 2 ^ length names
      below = mask_of_names-lt names alive

      mask_is : mask_of_names (life_names d.lives) again ≡ mask
      mask_is = mask_back names mask named.different below

      among : All (Contains alive) again
      among = All-names_of_mask (Contains alive) names alive (All-contains_itself alive)

      -- a life that is one of some names has a row at its age then
      lasts : List (List ℕ) → LifeLine → Type 0
      lasts some declared =
          Contains some declared.name → declared.life.age + number time ≤ last_age_of tables declared.life.table

      all : PassesAll tables (briefly d) (reserve (decimal (number time)) again)
      all kind.Magnitude =
          rw time_is ((passes kind.Magnitude).0, All-chosen IsShortName names _ named.short, (passes kind.Magnitude).2)
      all kind.Order = λ f h. passes kind.Order f (came d f h)
      all kind.Twice = names_in-different names mask named.different
      all kind.NoLife = All-chosen (λ name. Contains names name) names _ (All-contains_itself names)
      all kind.NotAlive =
          rw time_is (All-weaker (lasts alive) (lasts again)
          (λ declared then here. then (All-contains (Contains alive) again declared.name among here)) d.lives
          (passes kind.NotAlive))
      all k = tt

-- the fraction that is written for one of a line has its numbers
rate_back : (rate : LaterRate) → IsRateWithin rate → rate_from (canonical_rate (rate_from rate)) ≡ rate_from rate
rate_back rate within =
    rw (
      back 199 (number rate.year) (omega arith) within.year,
      back (10 ^ 9) (number rate.p) (omega arith) within.p,
      back (10 ^ 9) (number rate.q) (omega arith) within.q,
    ) refl

rates_back : (rates : List LaterRate) → All IsRateWithin rates
    → map rate_from (map canonical_rate (map rate_from rates)) ≡ map rate_from rates
rates_back [] within = refl
rates_back (rate ∷ rates) within =
    ap₂ (λ r rs. r ∷ rs) (rate_back rate (All-head IsRateWithin rate rates within))
    (rates_back rates (All-tail IsRateWithin rate rates within))

-- what holds of the numbers of fractions holds of those that are written for them
module _ (P : LaterRate → Type 0) (Q : Rate → Type 0) (there : (rate : LaterRate) → P rate → Q (rate_from rate))
    (again : (rate : LaterRate) → Q (rate_from rate) → P rate) where
  rates_keep : (rates : List LaterRate) → All IsRateWithin rates → All P rates
      → All P (map canonical_rate (map rate_from rates))
  rates_keep [] within holds = All-nil P
  rates_keep (rate ∷ rates) within holds =
      let first =
      again (canonical_rate (rate_from rate))
      (subst Q (sym (rate_back rate (All-head IsRateWithin rate rates within)))
      (there rate (All-head P rate rates holds))) in
      All-cons P _ _ first (rates_keep rates (All-tail IsRateWithin rate rates within) (All-tail P rate rates holds))

rates_proper : (rates : List LaterRate) → All IsRateWithin rates
    → All IsProperRate (map canonical_rate (map rate_from rates))
rates_proper [] within = All-nil IsProperRate
rates_proper (rate ∷ rates) within =
    let here = All-head IsRateWithin rate rates within in
    All-cons IsProperRate _ _
    (record {
      year = digits 199 (number rate.year) (omega arith) here.year;
      p =
          digits (10 ^ 9) (number rate.p) (omega arith) here.p;
      q =
          digits (10 ^ 9) (number rate.q) (omega arith) here.q;
    })
    (rates_proper rates (All-tail IsRateWithin rate rates within))

-- the years of fractions are those of their numbers
year_at-numbers : (rates : List LaterRate) (i : ℕ)
    → year_at rates i ≡ (get_or (map rate_from rates) i (record { year = 0; p = 0; q = 0 })).year
year_at-numbers [] i = refl
year_at-numbers (rate ∷ rates) zero = refl
year_at-numbers (rate ∷ rates) (suc i) = year_at-numbers rates i

-- so the years of those that are written rise where they did
years_again : (rates again : List LaterRate) → map rate_from again ≡ map rate_from rates → YearsRise rates
    → YearsRise again
years_again rates again same rise i within =
    let year = λ (k : ℕ) (rs : List Rate). (get_or rs k (record { year = 0; p = 0; q = 0 })).year in
    let here : year_at again i ≡ year_at rates i =
    year_at-numbers again i ∙ ap (year i) same ∙ sym (year_at-numbers rates i) in
    let next : year_at again (i + 1) ≡ year_at rates (i + 1) =
    year_at-numbers again (i + 1) ∙ ap (year (i + 1)) same ∙ sym (year_at-numbers rates (i + 1)) in
    let before = rise i (omega (arith, ap length same, length-map rates rate_from, length-map again rate_from)) in
    omega arith

-- the numbers of a fraction are within their limits
abbrev IsNumbersWithin : Rate → Type 0
IsNumbersWithin rate = (rate.year ≤ 199) × (rate.p ≤ 10 ^ 9) × (rate.q ≤ 10 ^ 9)

-- an interest
pub interest_again : (tables : TableFile) (d : Draft) (p q : List ℕ) (rates : List LaterRate)
    → PassesAll tables d (interest p q rates)
    → IsAgain tables d (interest p q rates) (interest (decimal (number p)) (decimal (number q))
    (map canonical_rate (map rate_from rates)))
unfolding with_line
interest_again tables d p q rates passes = record {
  proper = (
    digits (10 ^ 9) (number p) (omega arith) within.0,
    digits (10 ^ 9) (number q) (omega arith) within.1,
    rates_proper rates within.2,
  );
  depth = omega arith;
  passes = all;
  adds = rw (p_is, q_is, rates_back rates within.2) refl;
}
  where
    within : IsWithinLimits d (interest p q rates)
    within = passes kind.Magnitude

    again : List LaterRate
    again = map canonical_rate (map rate_from rates)

    p_is : number (decimal (number p)) ≡ number p
    p_is = back (10 ^ 9) (number p) (omega arith) within.0

    q_is : number (decimal (number q)) ≡ number q
    q_is = back (10 ^ 9) (number q) (omega arith) within.1

    few : length again < 8
    few = omega (arith, within.3, length-map rates rate_from, length-map (map rate_from rates) canonical_rate)

    all : PassesAll tables (briefly d) (interest (decimal (number p)) (decimal (number q)) again)
    all kind.Magnitude = rw (p_is, q_is) (
      within.0,
      within.1,
      rates_keep IsRateWithin IsNumbersWithin (λ rate h. (h.year, h.p, h.q)) (λ rate h. record {
        year = h.0;
        p = h.1;
        q = h.2;
      }) rates within.2 within.2,
      few,
    )
    all kind.Zero = rw q_is (
      (passes kind.Zero).0,
      rates_keep (λ rate. IsSome rate.year × IsSome rate.q) (λ rate. (1 ≤ rate.year) × (1 ≤ rate.q)) (λ rate h. h)
          (λ rate h. h) rates within.2 (passes kind.Zero).1,
    )
    all kind.Years = years_again rates again (rates_back rates within.2) (passes kind.Years)
    all kind.Order = λ f h. passes kind.Order f (came d f h)
    all kind.Twice = passes kind.Twice
    all k = tt

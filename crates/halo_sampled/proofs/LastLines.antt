-- The lines of the premium and the reserves of a sample pass all checks.
use Rattle.std.proofs.Common.{◌≡◌, ℕ, ◌≤◌, ◌<◌, List, [], ◌∷◌, Some, arith, length, refl, rules, subst, sym, ◌∙◌}
use Rattle.std.specs.Prelude.{All, Contains, codes}
use Rattle.std.specs.Fmt.{digits}
use Rattle.std.proofs.lemmas.List.Elements.{All-contains_itself, All-from_recursion, All-weaker}
use Rattle.halo_interest.specs.declared.rate.Rate.{Rate}
use Rattle.halo_text.specs.Number.{number}
use Rattle.halo_lex.specs.Lexeme.{IsLongName}
use Rattle.halo_status.specs.Nodes.{AtEachNode}
use Rattle.halo_status.specs.Pay.{PlainPay}
use Rattle.halo_status.specs.ValidPay.{HasRank}
use Rattle.halo_symbol.specs.Proper.{IsPlainName, IsProperBody}
use Rattle.halo_contract.specs.Premium.{premium_pay}
use Rattle.halo_contract.specs.PlainContract.{life_names}
use Rattle.halo_contract.specs.declared.contract.LifeLine.{LifeLine}
use Rattle.halo_contract.specs.declared.contract.ReserveLine.{ReserveLine}
use Rattle.halo_check.specs.Checks.{AreDifferent, HasYears, IsAliveIfNamed, IsDeclared, PassesAll}
use Rattle.halo_check.specs.Draft.{Draft, mask_of_names, place_of, with_line}
use Rattle.halo_check.specs.Limits.{IsShortName, IsStatusWithin}
use Rattle.halo_syntax.specs.Line.{premium, reserve}
use Rattle.halo_check.specs.Parts as parts
use Rattle.halo_check.specs.declared.fault.ContractKind.TheVariants as kind
use Rattle.halo_syntax.specs.declared.form.Form.TheVariants as form
use Rattle.halo_check.proofs.Order.{last_in_order}
use Rattle.halo_spell.proofs.NumbersBack.{IsNumber-decimal}
use Rattle.halo_symbol.specs.StatusOf.{tree_of_body}
use Rattle.halo_sample.specs.declared.contract.TheConstants.{LIVES, PAYS}
use Rattle.halo_sampled.specs.DrawnLines.{first_reserve, last_drawn, premium_body, second_reserve}
use Rattle.halo_sampled.specs.DrawnTables.{drawn_tables}
use Rattle.halo_sampled.proofs.DrawnAges.{last-age-is}
use Rattle.halo_sampled.proofs.LifeLines.{AreLives, IsSampleLife, count-of-lives}
use Rattle.halo_sampled.proofs.PayLines.{ArePays, all-names}
use Rattle.halo_sampled.proofs.SampleDrafts.{Ends, IsDone, IsGoodLine, drafted, ends-line, ends-none, premium-in-order}
use Rattle.halo_sampled.proofs.SampleNames.{names-differ, names_from}
use Rattle.halo_sampled.proofs.KnownNames.{lives_known, lives_named, written}

-- what the checks of a premium ask of its status, where the lives have these names
record IsSoundBody (names : List (List ℕ)) : Type 0 where
  declared : parts.AtEachNode (IsDeclared names) premium_body
  ranks : AtEachNode HasRank (tree_of_body (place_of names) premium_body)

-- it passes them among the names of the lives
sound-body : IsSoundBody first_reserve
sound-body = search (rules, lives_known) depth 40

-- its names are names, and its number is a number
proper-body : IsProperBody premium_body
proper-body = search (rules, written) depth 40

-- it is within the limits
body-within : IsStatusWithin premium_body
body-within = search rules depth 40

-- its term is of some years
body-years : parts.AtEachNode HasYears premium_body
body-years = search rules depth 40

-- the names of the first reserve are short
first-are-short : All IsShortName first_reserve
first-are-short = All-from_recursion IsShortName first_reserve (search rules depth 40)

-- and those of the second
second-are-short : All IsShortName second_reserve
second-are-short = All-from_recursion IsShortName second_reserve (search rules depth 40)

-- no two names of the first reserve are equal
first-differ : AreDifferent first_reserve
unfolding names_from digits
first-differ = names-differ 1 8 (omega arith)

-- and none of the second
second-differ : AreDifferent second_reserve
unfolding names_from digits
second-differ = names-differ 2 3 (omega arith)

-- the names of the first reserve are names
first-are-names : All IsPlainName first_reserve
first-are-names = All-from_recursion IsPlainName first_reserve (search (rules, lives_named) depth 40)

-- and those of the second
second-are-names : All IsPlainName second_reserve
second-are-names = All-from_recursion IsPlainName second_reserve (search (rules, lives_named) depth 40)

-- those of the second are among those of the first
second-are-known : All (Contains first_reserve) second_reserve
second-are-known =
    All-from_recursion (Contains first_reserve) second_reserve (search (rules, lives_known) depth 40)

-- a plain name is a name
long-names : (names : List (List ℕ)) → All IsPlainName names → All IsLongName names
long-names names are = All-weaker IsPlainName IsLongName (λ name is. is.0) names are

module _ (sample : ℕ) (rates : List Rate) (lives : List LifeLine) (alive : AreLives LIVES lives)
    (pays : List PlainPay) (are : ArePays PAYS pays) where
  -- the names of the lives
  names-are : life_names lives ≡ first_reserve
  names-are = alive.names ∙ all-names

  -- the status of the premium passes its checks
  body-is-sound : IsSoundBody (life_names lives)
  body-is-sound = subst IsSoundBody (sym names-are) sound-body

  -- so the premium passes all checks
  passes-premium : PassesAll (drawn_tables sample) (drafted rates lives pays) (premium premium_body)
  passes-premium kind.Magnitude = body-within
  passes-premium kind.Zero = body-years
  passes-premium kind.Order = premium-in-order rates lives pays
  passes-premium kind.Twice = λ came. came refl
  passes-premium kind.NoLife = body-is-sound.declared
  passes-premium kind.Rank = body-is-sound.ranks
  passes-premium kind.NotAtStart = refl
  passes-premium k = tt

  -- and it is a good line
  good-premium : IsGoodLine (drawn_tables sample) (drafted rates lives pays) (premium premium_body)
  good-premium = record { proper = proper-body; depth = omega arith; passes = passes-premium }

  -- the draft with it, and with some reserves
  abbrev reserved : List ReserveLine → Draft
  reserved reserves = record (drafted rates lives pays) {
    premium = Some (premium_pay (tree_of_body (place_of (life_names lives)) premium_body));
    reserves = reserves;
  }

  -- each life has a row at its age plus some years
  alive-then : (names : List (List ℕ)) (years : ℕ) → years ≤ 40
      → All (IsAliveIfNamed (drawn_tables sample) names years) lives
  alive-then names years few =
      All-weaker IsSampleLife (IsAliveIfNamed (drawn_tables sample) names years)
      (λ declared is among. omega (arith, is.age, few, last-age-is sample declared.life.table is.table))
      lives alive.each

  -- a reserve of such names at such a time passes all checks
  passes-reserve : (reserves : List ReserveLine) (time : List ℕ) (names : List (List ℕ)) → length reserves < 64
      → number time ≤ 40 → All IsShortName names → AreDifferent names → All (Contains first_reserve) names
      → PassesAll (drawn_tables sample) (reserved reserves) (reserve time names)
  passes-reserve reserves time names few years short differ known kind.Magnitude =
      (omega (arith, years), short, few)
  passes-reserve reserves time names few years short differ known kind.Order =
      last_in_order (reserved reserves) form.Reserve refl
  passes-reserve reserves time names few years short differ known kind.Twice = differ
  passes-reserve reserves time names few years short differ known kind.NoLife =
      subst (λ all. All (Contains all) names) (sym names-are) known
  passes-reserve reserves time names few years short differ known kind.NotAlive =
      alive-then names (number time) years
  passes-reserve reserves time names few years short differ known k = tt

  -- the first reserve is a good line
  good-first : IsGoodLine (drawn_tables sample) (reserved []) (reserve (codes "5") first_reserve)
  unfolding digits
  good-first = record {
    proper = (IsNumber-decimal 5 (omega arith), long-names first_reserve first-are-names);
    depth = omega arith;
    passes = passes-reserve [] (codes "5") first_reserve (omega arith) (omega arith) first-are-short first-differ
        (All-contains_itself first_reserve);
  }

  -- what it adds
  abbrev first_line : ReserveLine
  first_line = record { time = number (codes "5"); alive = mask_of_names (life_names lives) first_reserve }

  -- and what the second adds
  abbrev second_line : ReserveLine
  second_line = record { time = number (codes "10"); alive = mask_of_names (life_names lives) second_reserve }

  -- the second reserve is a good line
  good-second : IsGoodLine (drawn_tables sample) (reserved (first_line ∷ [])) (reserve (codes "10") second_reserve)
  unfolding digits
  good-second = record {
    proper = (IsNumber-decimal 10 (omega arith), long-names second_reserve second-are-names);
    depth = omega arith;
    passes = passes-reserve (first_line ∷ []) (codes "10") second_reserve (omega arith) (omega arith)
        second-are-short second-differ second-are-known;
  }

  -- the draft of all lines makes a contract of a sample
  all-done : IsDone (reserved (first_line ∷ second_line ∷ []))
  all-done = record {
    whole = record {
      interest = λ none. absurd cc;
      life = omega (arith, count-of-lives LIVES lives alive);
      pay = omega (arith, are.count_is);
    };
    sample = record {
      lives = count-of-lives LIVES lives alive;
      pays = are.count_is;
      premium = λ none. absurd cc;
      reserves = refl;
    };
  }

  -- so the last lines have no fault
  pub ends-last : Ends (drawn_tables sample) (drafted rates lives pays) last_drawn
  unfolding with_line
  ends-last =
      let tables = drawn_tables sample in
      let done = ends-none tables (reserved (first_line ∷ second_line ∷ [])) all-done in
      ends-line tables (drafted rates lives pays) (premium premium_body) _ good-premium
      (ends-line tables (reserved []) (reserve (codes "5") first_reserve) _ good-first
      (ends-line tables (reserved (first_line ∷ [])) (reserve (codes "10") second_reserve) [] good-second done))

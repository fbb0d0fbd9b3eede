-- Drafts, line by line: what holds of the names of their lives, and which lines are written for them.
use Rattle.std.proofs.Common.{◌≡◌, ◌≢◌, ℕ, ◌<◌, List, [], ◌∷◌, ◌++◌, append_assoc, append-nil, Option, Some, None, length, map, get_or, ap, sym, ◌∙◌, refl, arith, inl, inr}
use Rattle.std.specs.Prelude.{Contains}
use Rattle.std.specs.Fmt.{decimal}
use Rattle.std.proofs.lemmas.Bool.{cases_lt}
use Rattle.std.proofs.lemmas.List.{get_or_append_left, length_push, map_push}
use Rattle.std.proofs.Math.Seq.{get_or-append_seam}
use Rattle.std.proofs.lemmas.List.Elements.{All-nil, All-push}
use Rattle.halo_text.specs.Number.{number}
use Rattle.halo_contract.specs.Premium.{premium_pay}
use Rattle.halo_symbol.specs.Proper.{IsPlainName}
use Rattle.halo_symbol.specs.Symbol.{Symbol}
use Rattle.halo_symbol.specs.Tree.{Body}
use Rattle.halo_symbol.specs.StatusOf.{tree_of_body}
use Rattle.halo_table.specs.DecrementTable.{TableFile, names_of}
use Rattle.halo_check.specs.Checks.{AreDifferent, PassesAll}
use Rattle.halo_check.specs.Draft.{Draft, mask_of_names, pay_written, place_of, rate_from, with_line}
use Rattle.halo_contract.specs.PlainContract.{life_names}
use Rattle.halo_syntax.specs.Forms.{place_of_form}
use Rattle.halo_check.specs.FormOrder.{CameBefore, IsInOrder}
use Rattle.halo_check.specs.Limits.{IsShortName}
use Rattle.halo_syntax.specs.Line.{LaterRate, Line, interest, life, pay, premium, reserve, ties}
use Rattle.halo_syntax.specs.ProperLine.{IsProperLine}
use Rattle.halo_contract.specs.declared.contract.LifeLine.{LifeLine}
use Rattle.halo_check.specs.declared.fault.ContractKind.TheVariants as kind
use Rattle.halo_syntax.specs.declared.form.Form.{Form}
use Rattle.halo_syntax.specs.declared.form.Form.TheVariants as form
use Rattle.halo_contract.specs.declared.ties.Ties.TheVariants as rule
use Rattle.halo_check.proofs.Places.{among_at}
use Rattle.halo_spell.specs.ContractText.{canonical_rate, life_line, pay_line, premium_line, reserve_line}
use Rattle.halo_spell.proofs.Brief.{lines_for}
use Rattle.halo_spell.proofs.SpelledLines.{IsNamed}

-- one more name, which is none of those before it
different_push : (names : List (List ℕ)) (name : List ℕ) → AreDifferent names → (Contains names name → ⊥)
    → AreDifferent (names ++ name ∷ [])
different_push names name different new i j order lt same =
    let count = length_push names name in
    let first : get_or (names ++ name ∷ []) i [] ≡ get_or names i [] =
    get_or_append_left names (name ∷ []) [] i (omega arith) in
    elim (cases_lt j (length names)) [
      | inl before ↦
          different i j order before (sym first ∙ same ∙ get_or_append_left names (name ∷ []) [] j before)
      | inr last ↦
          let at : j ≡ length names = omega arith in
          let is_last = ap (λ n. get_or (names ++ name ∷ []) n []) at ∙ get_or-append_seam names name [] [] in
          new (among_at names name i (omega arith) (sym first ∙ same ∙ is_last))
    ]

pub named_at_first : IsNamed []
named_at_first = record {
  plain = All-nil IsPlainName;
  short = All-nil IsShortName;
  different = λ i j order lt. absurd (omega arith);
}

-- the names stay such with a line that passes all checks
pub named_by_line : (tables : TableFile) (d : Draft) (l : Line) → IsProperLine l → PassesAll tables d l
    → IsNamed (life_names d.lives) → IsNamed (life_names (with_line tables d l).lives)
unfolding with_line
named_by_line tables d (interest p q rates) proper passes named = named
named_by_line tables d (life name table age) proper passes named =
    let declared : LifeLine = record {
      name = name;
      life = record { table = place_of (names_of tables.tables) table; age = number age };
    } in
    let names = life_names d.lives in
    rw (map_push (λ (line : LifeLine). line.name) d.lives declared) (record {
      plain = All-push IsPlainName names name named.plain proper.0;
      short = All-push IsShortName names name named.short (passes kind.Magnitude).0;
      different = different_push names name named.different (passes kind.Twice);
    })
named_by_line tables d (ties r) proper passes named = named
named_by_line tables d (pay amount s) proper passes named = named
named_by_line tables d (premium body) proper passes named = named
named_by_line tables d (reserve time names) proper passes named = named

-- a form that comes later has not come
not_later : (d : Draft) (f later : Form) → IsInOrder d f → place_of_form f < place_of_form later
    → CameBefore d later → ⊥
not_later d f later order behind came = let before = order later came in omega arith

none_of : {X : Type 0} (xs : List X) → (0 < length xs → ⊥) → xs ≡ []
none_of [] none = refl
none_of (x ∷ xs) none = absurd (none (omega arith))

pub nothing_in : {X : Type 0} (o : Option X) → (o ≢ None → ⊥) → o ≡ None
nothing_in None none = refl
nothing_in (Some x) none = absurd (none (λ e. cc))

module _ (tables : TableFile) (d : Draft) where
  no_lives : (f : Form) → IsInOrder d f → place_of_form f < 1 → d.lives ≡ []
  no_lives f order before = none_of d.lives (not_later d f form.Life order before)

  no_ties : (f : Form) → IsInOrder d f → place_of_form f < 2 → d.ties ≡ None
  no_ties f order before = nothing_in d.ties (not_later d f form.Ties order before)

  no_pays : (f : Form) → IsInOrder d f → place_of_form f < 3 → d.pays ≡ []
  no_pays f order before = none_of d.pays (not_later d f form.Pay order before)

  no_premium : (f : Form) → IsInOrder d f → place_of_form f < 4 → d.premium ≡ None
  no_premium f order before = nothing_in d.premium (not_later d f form.Premium order before)

  no_reserves : (f : Form) → IsInOrder d f → place_of_form f < 5 → d.reserves ≡ []
  no_reserves f order before = none_of d.reserves (not_later d f form.Reserve order before)

  -- the lines for a draft with one line more are those for the draft, and this one
  abbrev pub AddsLine : Line → Line → Type 0
  AddsLine l again = lines_for tables (with_line tables d l) ≡ lines_for tables d ++ again ∷ []

  pub interest_last : (p q : List ℕ) (rates : List LaterRate) → PassesAll tables d (interest p q rates)
      → AddsLine (interest p q rates)
      (interest (decimal (number p)) (decimal (number q)) (map canonical_rate (map rate_from rates)))
  unfolding with_line
  interest_last p q rates passes =
      let order = passes kind.Order in
      rw (
        nothing_in d.interest (passes kind.Twice),
        no_lives form.Interest order (omega arith),
        no_ties form.Interest order (omega arith),
        no_pays form.Interest order (omega arith),
        no_premium form.Interest order (omega arith),
        no_reserves form.Interest order (omega arith),
      ) refl

  pub life_last : (name table age : List ℕ) → PassesAll tables d (life name table age)
      → AddsLine (life name table age) (life_line tables (record {
        name = name;
        life = record { table = place_of (names_of tables.tables) table; age = number age };
      }))
  unfolding with_line
  life_last name table age passes =
      let order = passes kind.Order in
      rw (
        no_ties form.Life order (omega arith),
        no_pays form.Life order (omega arith),
        no_premium form.Life order (omega arith),
        no_reserves form.Life order (omega arith),
      ) (simp (append-nil, map_push, append_assoc))

  pub ties_last : PassesAll tables d (ties rule.Even) → AddsLine (ties rule.Even) (ties rule.Even)
  unfolding with_line
  ties_last passes =
      let order = passes kind.Order in
      rw (
        nothing_in d.ties (passes kind.Twice),
        no_pays form.Ties order (omega arith),
        no_premium form.Ties order (omega arith),
        no_reserves form.Ties order (omega arith),
      ) (simp (append-nil, append_assoc))

  -- but the rule that holds without a line has none
  pub declared_last : PassesAll tables d (ties rule.Declared)
      → lines_for tables (with_line tables d (ties rule.Declared)) ≡ lines_for tables d
  unfolding with_line
  declared_last passes = rw (nothing_in d.ties (passes kind.Twice)) refl

  pub pay_last : (amount : List ℕ) (s : Symbol) → PassesAll tables d (pay amount s)
      → AddsLine (pay amount s)
      (pay_line (life_names d.lives) tables.causes (pay_written (life_names d.lives) tables.causes amount s))
  unfolding with_line
  pay_last amount s passes =
      let order = passes kind.Order in
      rw (no_premium form.Pay order (omega arith), no_reserves form.Pay order (omega arith))
      (simp (append-nil, map_push, append_assoc))

  pub premium_last : (body : Body) → PassesAll tables d (premium body)
      → AddsLine (premium body)
      (premium_line (life_names d.lives) (premium_pay (tree_of_body (place_of (life_names d.lives)) body)))
  unfolding with_line
  premium_last body passes =
      let order = passes kind.Order in
      rw (nothing_in d.premium (passes kind.Twice), no_reserves form.Premium order (omega arith))
      (simp (append-nil, append_assoc))

  pub reserve_last : (time : List ℕ) (alive : List (List ℕ)) → PassesAll tables d (reserve time alive)
      → AddsLine (reserve time alive) (reserve_line (life_names d.lives) (record {
        time = number time;
        alive = mask_of_names (life_names d.lives) alive;
      }))
  unfolding with_line
  reserve_last time alive passes = simp (map_push, append_assoc)

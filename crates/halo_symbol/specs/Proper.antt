-- What the parts of symbols and statuses have to be: names are names, numbers are numbers, and
-- causes and marks stand where
-- they may.
use Rattle.std.specs.Prelude.{◌≡◌, ◌≢◌, ◌<◌, ℕ, List, All, Option, IfSome, ⊤}
use Rattle.halo_text.specs.Number.{IsNumber}
use Rattle.halo_lex.specs.Lexeme.{IsLongName}
use Rattle.halo_status.specs.declared.pay.Kind.{Kind}
use Rattle.halo_status.specs.declared.pay.Kind.TheVariants.{Insurance}
use Rattle.halo_symbol.specs.Characters.{bar_text}
use Rattle.halo_symbol.specs.Tree.{Node, life, term, last, at_least, exactly, group, Members, one, and, Body, list, reversion, member_count}
use Rattle.halo_symbol.specs.Symbol.{Vary, level, increasing, decreasing, Names, Mark, Symbol}

-- a name of any length other than `bar`
abbrev pub IsPlainName : List ℕ → Type 0
IsPlainName name = IsLongName name × (name ≢ bar_text)

abbrev mutual
  -- a member whose names and numbers are such
  pub IsProper : Node → Type 0
  IsProper (life name) = IsPlainName name
  IsProper (term years) = IsNumber years
  IsProper (last ms) = AreProper ms
  IsProper (at_least rank ms) = IsNumber rank × AreProper ms
  IsProper (exactly rank ms) = IsNumber rank × AreProper ms
  IsProper (group body) = IsProperBody body

  -- a list of such members
  pub AreProper : Members → Type 0
  AreProper (one m) = IsProper m
  AreProper (and m ms) = IsProper m × AreProper ms

  -- a body of such members
  pub IsProperBody : Body → Type 0
  IsProperBody (list ms) = AreProper ms
  IsProperBody (reversion ms ns) = AreProper ms × AreProper ns

-- a decreasing head has a number
abbrev pub IsProperVary : Vary → Type 0
IsProperVary level = ⊤
IsProperVary increasing = ⊤
IsProperVary (decreasing count) = IsNumber count

-- each of the names is one
abbrev pub AreProperNames : Names → Type 0
AreProperNames names = IsPlainName names.first × All IsPlainName names.others

-- only an insurance has causes
abbrev pub MayHaveCauses : Kind → Option Names → Type 0
MayHaveCauses kind causes = IfSome causes (λ _. kind ≡ Insurance)

-- the place of a mark is that of a member of a body that is one list
abbrev pub StandsIn : Mark → Body → Type 0
StandsIn mark (list ms) = mark.member < member_count ms
StandsIn mark (reversion ms ns) = ⊥

-- only an insurance has a mark, on a member of its body
abbrev pub MayHaveMark : Kind → Option Mark → Body → Type 0
MayHaveMark kind mark body = IfSome mark (λ mark. (kind ≡ Insurance) × StandsIn mark body)

-- a decreasing head has a number, and causes and a mark stand where they may
pub record IsAllowed (s : Symbol) : Type 0 where
  pub vary : IsProperVary s.vary
  pub causes : MayHaveCauses s.kind s.causes
  pub mark : MayHaveMark s.kind s.mark s.body

-- such a symbol whose names are names and whose numbers are numbers
pub record IsProperSymbol (s : Symbol) : Type 0 where
  pub allowed : IsAllowed s
  pub defer : IfSome s.defer IsNumber
  pub causes : IfSome s.causes AreProperNames
  pub body : IsProperBody s.body
  pub mark : IfSome s.mark (λ mark. IsNumber mark.rank)

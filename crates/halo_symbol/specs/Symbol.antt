-- Symbols as they are written: a head, perhaps a deferral and causes, and a body.
use Rattle.std.specs.Prelude.{ℕ, List, Option}
use Rattle.halo_status.specs.declared.pay.Kind.{Kind}
use Rattle.halo_symbol.specs.Tree.{Body}

-- how the head says that the payments vary
pub data Vary : Type 0 where
  -- by no letter: the same each time
  level : Vary
  -- by `I`
  increasing : Vary
  -- by `D` and the digits of a number
  decreasing : List ℕ → Vary

-- one or more names between `{` and `}`
pub record Names : Type 0 where
  pub first : List ℕ
  pub others : List (List ℕ)

-- `^r` behind a member
pub record Mark : Type 0 where
  -- the place of the member, from 0
  pub member : ℕ
  -- the digits of r
  pub rank : List ℕ

-- a symbol; of `10|D5A{death}[x^1:y]` the deferral is `10`, the variation is `D5`, the kind is that
-- of `A`, and so on
pub record Symbol : Type 0 where
  -- the digits of the deferral
  pub defer : Option (List ℕ)
  pub vary : Vary
  pub kind : Kind
  -- the names of causes
  pub causes : Option Names
  pub body : Body
  -- the mark on a member of the body
  pub mark : Option Mark

-- What a word says: which symbol, or which status.
use Rattle.std.specs.Prelude.{◌≡◌, ℕ, List}
use Rattle.halo_symbol.specs.Tree.{Body}
use Rattle.halo_symbol.specs.Symbol.{Symbol}
use Rattle.halo_symbol.specs.Bytes.{body_bytes, symbol_bytes}
use Rattle.halo_symbol.specs.Proper.{IsProperBody, IsProperSymbol}

-- the word is this symbol, all of it
pub record SpellsSymbol (word : List ℕ) (symbol : Symbol) : Type 0 where
  pub proper : IsProperSymbol symbol
  pub bytes : word ≡ symbol_bytes symbol

-- the word is this status, all of it
pub record SpellsStatus (word : List ℕ) (body : Body) : Type 0 where
  pub proper : IsProperBody body
  pub bytes : word ≡ body_bytes body

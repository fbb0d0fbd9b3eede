-- Laws of words.
use Rattle.std.specs.Prelude.{◌≡◌, ◌⊎◌, ℕ, List}
use Rattle.halo_symbol.specs.Tree.{Body}
use Rattle.halo_symbol.specs.Symbol.{Symbol}
use Rattle.halo_symbol.specs.Spells.{SpellsStatus, SpellsSymbol}

-- a word spells at most one symbol
abbrev pub SymbolIsOne : Type 0
SymbolIsOne =
    (word : List ℕ) (symbol other : Symbol) → SpellsSymbol word symbol → SpellsSymbol word other
    → symbol ≡ other

-- a word spells at most one status
abbrev pub StatusIsOne : Type 0
StatusIsOne =
    (word : List ℕ) (body other : Body) → SpellsStatus word body → SpellsStatus word other
    → body ≡ other

-- a word spells a symbol, or it spells none
abbrev pub SymbolOrNone : Type 0
SymbolOrNone =
    (word : List ℕ)
    → ((symbol : Symbol) × SpellsSymbol word symbol)
    ⊎ ((symbol : Symbol) → SpellsSymbol word symbol → ⊥)

-- a word spells a status, or it spells none
abbrev pub StatusOrNone : Type 0
StatusOrNone =
    (word : List ℕ)
    → ((body : Body) × SpellsStatus word body) ⊎ ((body : Body) → SpellsStatus word body → ⊥)

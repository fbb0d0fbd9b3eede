-- A word spells a symbol or none, and a status or none.
use Rattle.std.proofs.Common.{◌≡◌, ◌⊎◌, ℕ, List, [], ◌∷◌, length, map, ap, arith, inl, inr, refl, sym, ◌∙◌}
use Rattle.halo_lex.specs.Lexeme as lexeme
use Rattle.halo_lex.specs.Lexeme.{Lexeme, texts}
use Rattle.halo_lex.specs.Cut.{lexeme_of}
use Rattle.halo_lex.proofs.Cutting.{cut_or_stuck}
use Rattle.halo_lex.proofs.Lexing.{cut_not_stuck}
use Rattle.halo_symbol.specs.Characters.{bar_text}
use Rattle.halo_symbol.specs.Piece.{Piece, name, bar, number, byte, as_lexeme, IsPieceOf}
use Rattle.halo_symbol.specs.Tree.{Body}
use Rattle.halo_symbol.specs.Symbol.{Symbol}
use Rattle.halo_symbol.specs.Pieces.{body_pieces, symbol_pieces}
use Rattle.halo_symbol.specs.Absent.{NoBody, NoSymbol}
use Rattle.halo_symbol.specs.Spells.{SpellsStatus, SpellsSymbol}
use Rattle.halo_symbol.proofs.Lengths.{body_pieces-longer, symbol_pieces-longer}
use Rattle.halo_symbol.proofs.Unique.{body_unique}
use Rattle.halo_symbol.proofs.Symbols.{symbol_one}
use Rattle.halo_symbol.proofs.Cuts.{ArePiecesOf, pieces_are, pieces_lexemes, lexemes_are}
use Rattle.halo_symbol.proofs.Words.{ArePiecesIn, spelled_pieces, pieces_spelled, spells_symbol, status_pieces, pieces_status, spells_status, ends_nothing}
use Rattle.halo_symbol.proofs.HeadChoices.{same_text}
use Rattle.halo_symbol.proofs.BodyChoices.{ABody, body_to}
use Rattle.halo_symbol.proofs.SymbolChoices.{ASymbol, symbol_to}

-- the piece of a lexeme
piece_for : (l : Lexeme) → (p : Piece) × IsPieceOf l p
piece_for (lexeme.name text) = elim (same_text text bar_text) [
  | inl same ↦ (bar, record { same = ap lexeme.name (sym same); apart = λ e. absurd cc })
  | inr differ ↦ (name text, record { same = refl; apart = λ e. differ cc })
]
piece_for (lexeme.number digits) = (number digits, record { same = refl; apart = λ e. absurd cc })
piece_for (lexeme.byte b) = (byte b, record { same = refl; apart = λ e. absurd cc })

-- those of lexemes
pieces_for : (ls : List Lexeme) → (ps : List Piece) × ArePiecesOf ls ps
pieces_for [] = ([], tt)
pieces_for (l ∷ ls) =
    let first = piece_for l in
    let rest = pieces_for ls in
    (first.0 ∷ rest.0, (first.1, rest.1))

-- a word has pieces or has none
pieces_choice : (word : List ℕ)
    → ((ps : List Piece) × ArePiecesIn word ps) ⊎ ((ps : List Piece) → ArePiecesIn word ps → ⊥)
pieces_choice word = elim (cut_or_stuck word) [
  | inl cut ↦
      let lexemes = cut.1.lexemes in
      let found = pieces_for (map (lexeme_of word) cut.0) in
      inl (
        found.0,
        record {
          each = pieces_are _ _ lexemes.each found.1;
          whole = ap texts (pieces_lexemes _ _ found.1) ∙ lexemes.whole;
        },
      )
  | inr stuck ↦
      inr (λ ps are. cut_not_stuck word (map as_lexeme ps) stuck.0 (record {
        each = lexemes_are ps are.each;
        whole = are.whole;
      }) stuck.1)
]

-- all pieces are read or some are left
nothing_left : (rest : List Piece) → (rest ≡ []) ⊎ (rest ≡ [] → ⊥)
nothing_left [] = inl refl
nothing_left (p ∷ rest) = inr (λ e. absurd cc)

status_by : (word : List ℕ) (ps : List Piece) → ArePiecesIn word ps → ABody (length ps) ps ⊎ NoBody (length ps) ps
    → ((body : Body) × SpellsStatus word body) ⊎ ((body : Body) → SpellsStatus word body → ⊥)
unfolding NoBody
status_by word ps are (inr none) = inr (λ body spells.
    let reads = pieces_status word ps body are spells in
    none body [] (omega (arith, body_pieces-longer body [], ap length reads)) (ends_nothing body) reads)
status_by word ps are (inl read) = elim (nothing_left read.rest) [
  | inl nothing ↦ inl (read.body, spells_status word ps read.body are (read.reads ∙ ap (body_pieces read.body) nothing))
  | inr some ↦
      inr (λ body spells. some (body_unique read.body body read.rest [] read.ends (ends_nothing body)
      (sym read.reads ∙ pieces_status word ps body are spells)).1)
]

-- a word spells a status or none
pub status_or_none : (word : List ℕ)
    → ((body : Body) × SpellsStatus word body) ⊎ ((body : Body) → SpellsStatus word body → ⊥)
status_or_none word = elim (pieces_choice word) [
  | inl cut ↦ status_by word cut.0 cut.1 (body_to (length cut.0) cut.0)
  | inr none ↦ inr (λ body spells. none (body_pieces body []) (status_pieces word body spells))
]

symbol_by : (word : List ℕ) (ps : List Piece) → ArePiecesIn word ps → ASymbol (length ps) ps ⊎ NoSymbol (length ps) ps
    → ((s : Symbol) × SpellsSymbol word s) ⊎ ((s : Symbol) → SpellsSymbol word s → ⊥)
unfolding NoSymbol
symbol_by word ps are (inr none) = inr (λ s spells.
    let reads = pieces_spelled word ps s are spells in
    none s [] spells.proper.allowed (omega (arith, symbol_pieces-longer s [], ap length reads)) reads)
symbol_by word ps are (inl read) = elim (nothing_left read.rest) [
  | inl nothing ↦
      inl (
        read.symbol,
        spells_symbol word ps read.symbol are read.allowed
            (read.reads ∙ ap (symbol_pieces read.symbol) nothing),
      )
  | inr some ↦
      inr (λ s spells. some (symbol_one read.symbol s read.rest [] read.allowed spells.proper.allowed
      (sym read.reads ∙ pieces_spelled word ps s are spells)).1)
]

-- a word spells a symbol or none
pub symbol_or_none : (word : List ℕ) → ((s : Symbol) × SpellsSymbol word s) ⊎ ((s : Symbol) → SpellsSymbol word s → ⊥)
symbol_or_none word = elim (pieces_choice word) [
  | inl cut ↦ symbol_by word cut.0 cut.1 (symbol_to (length cut.0) cut.0)
  | inr none ↦ inr (λ s spells. none (symbol_pieces s []) (spelled_pieces word s spells))
]

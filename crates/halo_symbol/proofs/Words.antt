-- What words spell, by their pieces.
use Rattle.std.proofs.Common.{◌≡◌, ℕ, List, [], sym, ap, subst, ◌∙◌}
use Rattle.halo_symbol.specs.Piece.{Piece, ArePieces, piece_texts}
use Rattle.halo_symbol.specs.Tree.{Body, list, reversion}
use Rattle.halo_symbol.specs.Symbol.{Symbol}
use Rattle.halo_symbol.specs.Proper.{IsAllowed}
use Rattle.halo_symbol.specs.Pieces.{body_pieces, symbol_pieces}
use Rattle.halo_symbol.specs.Next.{Ends}
use Rattle.halo_symbol.specs.Spells.{SpellsStatus, SpellsSymbol}
use Rattle.halo_symbol.proofs.Unique.{body_unique}
use Rattle.halo_symbol.proofs.Symbols.{symbol_one}
use Rattle.halo_symbol.proofs.Cuts.{pieces_one}
use Rattle.halo_symbol.proofs.Texts.{body_texts, symbol_texts}
use Rattle.halo_symbol.proofs.Then.{body_alone, symbol_alone}
use Rattle.halo_symbol.proofs.Cutting.{body_are, body_proper}
use Rattle.halo_symbol.proofs.SymbolCutting.{symbol_are, symbol_proper}

-- these pieces are those of the word
pub record ArePiecesIn (word : List ℕ) (pieces : List Piece) : Type 0 where
  pub each : ArePieces pieces
  pub whole : piece_texts pieces ≡ word

-- the pieces of a symbol are those of the word that spells it
pub spelled_pieces : (word : List ℕ) (s : Symbol) → SpellsSymbol word s → ArePiecesIn word (symbol_pieces s [])
spelled_pieces word s spells =
    record { each = symbol_are s [] spells.proper tt; whole = symbol_texts s [] ∙ symbol_alone s ∙ sym spells.bytes }

-- and there are no others
pub pieces_spelled : (word : List ℕ) (ps : List Piece) (s : Symbol) → ArePiecesIn word ps → SpellsSymbol word s
    → ps ≡ symbol_pieces s []
pieces_spelled word ps s are spells =
    let of = spelled_pieces word s spells in
    pieces_one ps (symbol_pieces s []) are.each of.each (are.whole ∙ sym of.whole)

-- a word with the pieces of a symbol spells it
pub spells_symbol : (word : List ℕ) (ps : List Piece) (s : Symbol) → ArePiecesIn word ps → IsAllowed s
    → ps ≡ symbol_pieces s [] → SpellsSymbol word s
spells_symbol word ps s are allowed e =
    record {
      proper = symbol_proper s [] allowed (subst ArePieces e are.each);
      bytes = sym are.whole ∙ ap piece_texts e ∙ symbol_texts s [] ∙ symbol_alone s;
    }

-- the pieces of a status are those of the word that spells it
pub status_pieces : (word : List ℕ) (body : Body) → SpellsStatus word body → ArePiecesIn word (body_pieces body [])
status_pieces word body spells =
    record { each = body_are body [] spells.proper tt tt; whole = body_texts body [] ∙ body_alone body ∙ sym spells.bytes }

-- and there are no others
pub pieces_status : (word : List ℕ) (ps : List Piece) (body : Body) → ArePiecesIn word ps → SpellsStatus word body
    → ps ≡ body_pieces body []
pieces_status word ps body are spells =
    let of = status_pieces word body spells in
    pieces_one ps (body_pieces body []) are.each of.each (are.whole ∙ sym of.whole)

-- a word with the pieces of a status spells it
pub spells_status : (word : List ℕ) (ps : List Piece) (body : Body) → ArePiecesIn word ps → ps ≡ body_pieces body []
    → SpellsStatus word body
spells_status word ps body are e =
    record {
      proper = (body_proper body [] (subst ArePieces e are.each)).0;
      bytes = sym are.whole ∙ ap piece_texts e ∙ body_texts body [] ∙ body_alone body;
    }

-- a body ends where nothing follows
pub ends_nothing : (body : Body) → Ends body []
ends_nothing (list ms) = (λ rest e. absurd cc, λ rest e. absurd cc)
ends_nothing (reversion ms ns) = λ rest e. absurd cc

-- a word spells at most one symbol
pub symbol_unique : (word : List ℕ) (s t : Symbol) → SpellsSymbol word s → SpellsSymbol word t → s ≡ t
symbol_unique word s t one other =
    (symbol_one s t [] [] one.proper.allowed other.proper.allowed
    (pieces_spelled word (symbol_pieces s []) t (spelled_pieces word s one) other)).0

-- a word spells at most one status
pub status_unique : (word : List ℕ) (b c : Body) → SpellsStatus word b → SpellsStatus word c → b ≡ c
status_unique word b c one other =
    (body_unique b c [] [] (ends_nothing b) (ends_nothing c)
    (pieces_status word (body_pieces b []) c (status_pieces word b one) other)).0

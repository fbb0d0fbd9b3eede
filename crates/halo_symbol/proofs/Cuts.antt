-- Words are cut into pieces in one way, as they are cut into lexemes.
use Rattle.std.proofs.Common.{◌≡◌, ◌≤◌, ◌<◌, ℕ, true, get_or, length, arith, List, [], ◌∷◌, ◌++◌, map, refl, sym, ap, ap₂, subst}
use Rattle.std.proofs.lemmas.List.Elements.{All-cons, All-nil}
use Rattle.halo_text.specs.Name.{is_name_byte}
use Rattle.halo_lex.specs.Lexeme as lexeme
use Rattle.halo_lex.specs.Lexeme.{Lexeme, AreLexemes, IsLexeme, texts}
use Rattle.halo_lex.specs.Cut.{IsCut}
use Rattle.halo_lex.specs.declared.token.Token.{Token}
use Rattle.halo_lex.specs.declared.token.TokenKind.TheVariants as kind
use Rattle.halo_lex.proofs.Tiling.{tile_within}
use Rattle.halo_lex.proofs.Lexing.{told_by_texts}
use Rattle.halo_symbol.specs.Piece.{Piece, name, bar, number, byte, as_lexeme, IsPiece, IsPieceOf, ArePieces, piece_texts}

-- these pieces are those of the lexemes, one of each
abbrev pub ArePiecesOf : List Lexeme → List Piece → Type 0
ArePiecesOf [] [] = Unit {0}
ArePiecesOf [] (p ∷ ps) = ⊥
ArePiecesOf (l ∷ ls) [] = ⊥
ArePiecesOf (l ∷ ls) (p ∷ ps) = IsPieceOf l p × ArePiecesOf ls ps

-- one more of each
pub pieces_more : (ls : List Lexeme) (ps : List Piece) (l : Lexeme) (p : Piece) → ArePiecesOf ls ps → IsPieceOf l p
    → ArePiecesOf (ls ++ l ∷ []) (ps ++ p ∷ [])
pieces_more [] [] l p are is = (is, tt)
pieces_more [] (q ∷ ps) l p are is = absurd are
pieces_more (k ∷ ls) [] l p are is = absurd are
pieces_more (k ∷ ls) (q ∷ ps) l p are is = (are.0, pieces_more ls ps l p are.1 is)

-- the lexemes that they are
pub pieces_lexemes : (ls : List Lexeme) (ps : List Piece) → ArePiecesOf ls ps → map as_lexeme ps ≡ ls
pieces_lexemes [] [] are = refl
pieces_lexemes [] (p ∷ ps) are = absurd are
pieces_lexemes (l ∷ ls) [] are = absurd are
pieces_lexemes (l ∷ ls) (p ∷ ps) are =
    ap₂ (λ (k : Lexeme) (ks : List Lexeme). k ∷ ks) are.0.same (pieces_lexemes ls ps are.1)

-- the piece of a lexeme is a piece
piece_is : (l : Lexeme) (p : Piece) → IsLexeme l → IsPieceOf l p → IsPiece p
piece_is l (name text) good is = (subst IsLexeme (sym is.same) good, λ same. is.apart (ap name same))
piece_is l bar good is = tt
piece_is l (number digits) good is = subst IsLexeme (sym is.same) good
piece_is l (byte b) good is = subst IsLexeme (sym is.same) good

-- the pieces of lexemes that are taken as long as they go are pieces that are
pub pieces_are : (ls : List Lexeme) (ps : List Piece) → AreLexemes ls → ArePiecesOf ls ps → ArePieces ps
pieces_are [] [] good are = tt
pieces_are [] (p ∷ ps) good are = absurd are
pieces_are (l ∷ ls) [] good are = absurd are
pieces_are (l ∷ ls) (p ∷ ps) good are =
    let follows = subst (λ (k : Lexeme). lexeme.Follows k (texts ls)) (sym are.0.same) good.1 in (
      piece_is l p good.0 are.0,
      subst (λ ks. lexeme.Follows (as_lexeme p) (texts ks)) (sym (pieces_lexemes ls ps are.1))
          follows,
      pieces_are ls ps good.2 are.1,
    )

-- the lexeme of a piece is one
lexeme_is : (p : Piece) → IsPiece p → IsLexeme (as_lexeme p)
lexeme_is (name text) is = is.0
lexeme_is bar is =
    let InName : ℕ → Type 0 = λ b. is_name_byte b ≡ true in
    (refl, All-cons InName 97 (114 ∷ []) refl (All-cons InName 114 [] refl (All-nil InName)))
lexeme_is (number digits) is = is
lexeme_is (byte b) is = is

-- the lexemes of pieces are lexemes
pub lexemes_are : (ps : List Piece) → ArePieces ps → AreLexemes (map as_lexeme ps)
lexemes_are [] are = tt
lexemes_are (p ∷ ps) are = (lexeme_is p are.0, are.1, lexemes_are ps are.2)

-- a piece is told by its lexeme
piece_one : (p q : Piece) → IsPiece p → IsPiece q → as_lexeme p ≡ as_lexeme q → p ≡ q
piece_one (name a) (name b) is other e = cc
piece_one (name a) bar is other e = absurd (is.1 cc)
piece_one bar (name b) is other e = absurd (other.1 cc)
piece_one bar bar is other e = refl
piece_one (number a) (number b) is other e = cc
piece_one (byte a) (byte b) is other e = cc
piece_one p q is other e = absurd cc

-- pieces are told by their lexemes
all_one : (ps qs : List Piece) → ArePieces ps → ArePieces qs → map as_lexeme ps ≡ map as_lexeme qs → ps ≡ qs
all_one [] [] are others e = refl
all_one [] (q ∷ qs) are others e = absurd cc
all_one (p ∷ ps) [] are others e = absurd cc
all_one (p ∷ ps) (q ∷ qs) are others e =
    ap₂ (λ (x : Piece) (xs : List Piece). x ∷ xs) (piece_one p q are.0 others.0 cc) (all_one ps qs are.2 others.2 cc)

-- a word is cut into pieces in one way
pub pieces_one : (ps qs : List Piece) → ArePieces ps → ArePieces qs → piece_texts ps ≡ piece_texts qs → ps ≡ qs
pieces_one ps qs are others e =
    all_one ps qs are others (told_by_texts (map as_lexeme ps) (map as_lexeme qs) (lexemes_are ps are)
    (lexemes_are qs others) e)

-- what stands where there is no token
abbrev pub no_token : Token
no_token = record { kind = kind.Name; from = 0; to = 0 }

-- a token of a word lies within it
pub token_within : (word : List ℕ) (tokens : List Token) (i : ℕ) → IsCut word tokens → i < length tokens
    → ((get_or tokens i no_token).from ≤ (get_or tokens i no_token).to) × ((get_or tokens i no_token).to ≤ length word)
token_within word tokens i cut lt =
    let within = tile_within 0 tokens (length word) cut.tile i no_token lt in
    (omega arith, within.1)

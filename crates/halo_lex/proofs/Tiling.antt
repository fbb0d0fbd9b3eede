-- The tokens of a word are told by their lexemes, and lie within it.
use Rattle.std.proofs.Common.{◌≡◌, ℕ, ◌<◌, ◌≤◌, List, [], ◌∷◌, ap, ap₂, arith, length, map, refl, sym, ◌∙◌}
use Rattle.std.specs.Prelude.{All}
use Rattle.std.proofs.lemmas.List.Edits.{length-between}
use Rattle.std.proofs.lemmas.List.Elements.{All-cons, All-head, All-nil, All-tail}
use Rattle.halo_lex.specs.Cut.{IsCut, HasItsText, Tile, lexeme_of, lexeme_with}
use Rattle.halo_lex.specs.Lexeme.{Lexeme, texts}
use Rattle.halo_lex.specs.declared.token.Token.{Token}
use Rattle.halo_lex.specs.declared.token.TokenKind.{TokenKind}
use Rattle.halo_lex.specs.declared.token.TokenKind.TheVariants as kind
use Rattle.halo_lex.proofs.Lexing.{told_by_texts}

-- a token has at least one byte, and ends no later than this place
abbrev EndsBy : ℕ → Token → Type 0
EndsBy end token = (token.from < token.to) × (token.to ≤ end)

-- tokens without gap end no earlier than they begin
tile_forth : (from : ℕ) (tokens : List Token) (to : ℕ) → Tile from tokens to → from ≤ to
tile_forth from [] to tile = omega arith
tile_forth from (token ∷ tokens) to tile =
    let first = tile.0 in
    let some = tile.1 in
    let rest = tile_forth token.to tokens to tile.2 in
    omega arith

-- tokens without gap end no later than the last
pub tile_within : (from : ℕ) (tokens : List Token) (to : ℕ) → Tile from tokens to → All (EndsBy to) tokens
tile_within from [] to tile = All-nil (EndsBy to)
tile_within from (token ∷ tokens) to tile =
    All-cons (EndsBy to) token tokens (tile.1, tile_forth token.to tokens to tile.2)
    (tile_within token.to tokens to tile.2)

-- the kind of a token is told by its lexeme
kind_one : (k other : TokenKind) (text more : List ℕ) → lexeme_with k text ≡ lexeme_with other more → k ≡ other
kind_one kind.Name kind.Name text more e = refl
kind_one kind.Name kind.Number text more e = absurd cc
kind_one kind.Name (kind.Byte b) text more e = absurd cc
kind_one kind.Number kind.Name text more e = absurd cc
kind_one kind.Number kind.Number text more e = refl
kind_one kind.Number (kind.Byte b) text more e = absurd cc
kind_one (kind.Byte a) kind.Name text more e = absurd cc
kind_one (kind.Byte a) kind.Number text more e = absurd cc
kind_one (kind.Byte a) (kind.Byte b) text more e = let same : a ≡ b = cc in ap kind.Byte same

-- two tokens with equal fields are one
token_one : (token other : Token) → token.kind ≡ other.kind → token.from ≡ other.from → token.to ≡ other.to
    → token ≡ other
token_one token other k e f =
    let with_to : TokenKind → ℕ → ℕ → Token = λ kind from to. record { kind = kind; from = from; to = to } in
    ap (λ g. g token.to) (ap₂ with_to k e) ∙ ap (with_to other.kind other.from) f

-- a token is told by its place and its lexeme
next_one : (word : List ℕ) (token other : Token) → token.from ≡ other.from → EndsBy (length word) token
    → EndsBy (length word) other → HasItsText word token → HasItsText word other
    → lexeme_of word token ≡ lexeme_of word other → token ≡ other
next_one word token other from a b part more e =
    let count = ap length (sym part ∙ ap (λ (l : Lexeme). texts (l ∷ [])) e ∙ more) in
    let n = length-between word token.from token.to a.1 in
    let m = length-between word other.from other.to b.1 in
    let some = a.0 in
    let other_some = b.0 in
    token_one token other (kind_one token.kind other.kind _ _ e) from (omega arith)

-- tokens without gap are told by their lexemes
tokens_one : (word : List ℕ) (from : ℕ) (tokens others : List Token) → Tile from tokens (length word)
    → Tile from others (length word) → All (HasItsText word) tokens → All (HasItsText word) others
    → map (lexeme_of word) tokens ≡ map (lexeme_of word) others → tokens ≡ others
tokens_one word from [] [] s t a b e = refl
tokens_one word from [] (other ∷ others) s t a b e = absurd cc
tokens_one word from (token ∷ tokens) [] s t a b e = absurd cc
tokens_one word from (token ∷ tokens) (other ∷ others) s t a b e =
    let lexemes : (lexeme_of word token ≡ lexeme_of word other)
    × (map (lexeme_of word) tokens ≡ map (lexeme_of word) others) =
    (cc, cc) in
    let ends = All-head (EndsBy (length word)) token tokens (tile_within from (token ∷ tokens) (length word) s) in
    let other_ends = All-head (EndsBy (length word)) other others (tile_within from (other ∷ others) (length word) t) in
    let first =
    next_one word token other (s.0 ∙ sym t.0) ends other_ends (All-head (HasItsText word) token tokens a)
    (All-head (HasItsText word) other others b) lexemes.0 in
    let to = ap (λ (x : Token). x.to) first in
    let rest =
    tokens_one word other.to tokens others (rw to at s.2) t.2 (All-tail (HasItsText word) token tokens a)
    (All-tail (HasItsText word) other others b) lexemes.1 in
    ap₂ (λ (x : Token) (xs : List Token). x ∷ xs) first rest

-- a word is cut into tokens in at most one way
pub cut_one : (word : List ℕ) (tokens others : List Token) → IsCut word tokens → IsCut word others → tokens ≡ others
cut_one word tokens others a b =
    tokens_one word 0 tokens others a.tile b.tile a.parts b.parts
    (told_by_texts (map (lexeme_of word) tokens) (map (lexeme_of word) others) a.lexemes.each b.lexemes.each
    (a.lexemes.whole ∙ sym b.lexemes.whole))

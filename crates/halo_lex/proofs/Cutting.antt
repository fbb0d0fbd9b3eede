-- A word is cut into tokens one after the other, up to its end or to a byte that begins none.
use Rattle.std.proofs.Common.{◌≡◌, ◌⊎◌, ℕ, zero, suc, ◌+◌, ◌-◌, ◌<◌, ◌≤◌, List, [], ◌∷◌, ◌++◌, ap, ap₂, arith, drop, get_or, inl, inr, length, map, refl, subst, sym, ◌∙◌}
use Rattle.std.specs.Prelude.{All}
use Rattle.std.proofs.lemmas.Bool.{cases_lt}
use Rattle.std.proofs.lemmas.List.{append_assoc, drop-drop, drop_all, drop_more, length-append, length-drop, map_push, take-append-drop}
use Rattle.std.proofs.lemmas.List.Elements.{All-nil, All-push}
use Rattle.halo_lex.specs.Cut.{BeginsNoLexeme, IsCut, IsNextToken, IsStuckAt, HasItsText, Tile, lexeme_of}
use Rattle.halo_lex.specs.Lexeme.{AreLexemesBefore, Follows, IsLexeme, Lexeme, name, number, byte, text_before, texts, texts_before}
use Rattle.halo_lex.specs.declared.token.Token.{Token}
use Rattle.halo_lex.proofs.Next.{next_or_none}

-- the text of a lexeme and then two lists of bytes
text_before-append : (lexeme : Lexeme) (more rest : List ℕ)
    → text_before lexeme (more ++ rest) ≡ text_before lexeme more ++ rest
text_before-append (name text) more rest = sym (append_assoc text more rest)
text_before-append (number text) more rest = sym (append_assoc text more rest)
text_before-append (byte b) more rest = refl

-- the texts of lexemes and then other bytes
texts_before-append : (lexemes : List Lexeme) (rest : List ℕ) → texts_before lexemes rest ≡ texts lexemes ++ rest
texts_before-append [] rest = refl
texts_before-append (lexeme ∷ lexemes) rest =
    ap (text_before lexeme) (texts_before-append lexemes rest) ∙ text_before-append lexeme (texts lexemes) rest

-- from the place of a token on the word is its text and then what stands behind it
next_reads : (word : List ℕ) (place : ℕ) (token : Token) → IsNextToken word place token
    → drop place word ≡ text_before (lexeme_of word token) (drop token.to word)
next_reads word place token next =
    let from = next.from in
    let some = next.some in
    let split = take-append-drop (token.to - token.from) (drop token.from word) in
    let behind : drop (token.to - token.from) (drop token.from word) ≡ drop token.to word =
    drop-drop (token.to - token.from) token.from word ∙ ap (λ n. drop n word) (omega arith) in
    ap (λ n. drop n word) (sym from) ∙ sym split ∙ ap₂ (λ (xs ys : List ℕ). xs ++ ys) (sym next.part) behind
    ∙ sym (text_before-append (lexeme_of word token) [] (drop token.to word))

-- the texts of lexemes and of one more
texts_before-push : (lexemes : List Lexeme) (lexeme : Lexeme) (rest : List ℕ)
    → texts_before (lexemes ++ lexeme ∷ []) rest ≡ texts_before lexemes (text_before lexeme rest)
texts_before-push [] lexeme rest = refl
texts_before-push (first ∷ lexemes) lexeme rest = ap (text_before first) (texts_before-push lexemes lexeme rest)

-- lexemes that are taken as long as they go, and one more behind them
lexemes_push : (lexemes : List Lexeme) (lexeme : Lexeme) (rest : List ℕ) → IsLexeme lexeme → Follows lexeme rest
    → AreLexemesBefore lexemes (text_before lexeme rest) → AreLexemesBefore (lexemes ++ lexeme ∷ []) rest
lexemes_push [] lexeme rest is follows before = (is, follows, tt)
lexemes_push (first ∷ lexemes) lexeme rest is follows before = (
  before.0,
  subst (Follows first) (sym (texts_before-push lexemes lexeme rest)) before.1,
  lexemes_push lexemes lexeme
      rest is follows before.2,
)

-- tokens without gap, and one more behind them
tile_push : (from : ℕ) (tokens : List Token) (token : Token) → Tile from tokens token.from → token.from < token.to
    → Tile from (tokens ++ token ∷ []) token.to
tile_push from [] token tile some = (sym tile, some, refl)
tile_push from (first ∷ tokens) token tile some = (tile.0, tile.1, tile_push first.to tokens token tile.2 some)

-- up to a place a word is cut into these tokens
pub record CutsUpTo (word : List ℕ) (tokens : List Token) (place : ℕ) : Type 0 where
  pub within : place ≤ length word
  pub tile : Tile 0 tokens place
  pub parts : All (HasItsText word) tokens
  pub lexemes : AreLexemesBefore (map (lexeme_of word) tokens) (drop place word)
  pub reads : texts_before (map (lexeme_of word) tokens) (drop place word) ≡ word

-- no token is cut yet
pub cuts_none : (word : List ℕ) → CutsUpTo word [] 0
cuts_none word =
    record { within = omega arith; tile = refl; parts = All-nil (HasItsText word); lexemes = tt; reads = refl }

-- a word is cut one token further
pub cuts_more : (word : List ℕ) (tokens : List Token) (place : ℕ) (token : Token) → CutsUpTo word tokens place
    → IsNextToken word place token → CutsUpTo word (tokens ++ token ∷ []) token.to
cuts_more word tokens place token cuts next =
    let step = next_reads word place token next in
    let more = map_push (lexeme_of word) tokens token in
    let before = map (lexeme_of word) tokens in
    let some = next.some in
    let from = next.from in
    record {
      within = next.within;
      tile = tile_push 0 tokens token (rw from cuts.tile) (omega arith);
      parts = All-push (HasItsText word) tokens token cuts.parts next.part;
      lexemes =
          rw more (lexemes_push before (lexeme_of word token) (drop token.to word) next.lexeme next.follows
          (rw step at cuts.lexemes));
      reads =
          rw more (texts_before-push before (lexeme_of word token) (drop token.to word)
          ∙ sym (ap (texts_before before) step) ∙ cuts.reads);
    }

-- tokens up to the end of a word are those of the word
pub cuts_all : (word : List ℕ) (tokens : List Token) (place : ℕ) → length word ≤ place → CutsUpTo word tokens place
    → IsCut word tokens
cuts_all word tokens place le cuts =
    let within = cuts.within in
    let same : place ≡ length word = omega arith in
    let none = drop_all place word le in
    record {
      tile = rw same at cuts.tile;
      parts = cuts.parts;
      lexemes = record { each = rw none at cuts.lexemes; whole = rw none at cuts.reads };
    }

-- a word whose byte at a place begins no lexeme is stuck there, where tokens stand before
pub cuts_stuck : (word : List ℕ) (tokens : List Token) (place : ℕ) → place < length word → CutsUpTo word tokens place
    → BeginsNoLexeme (get_or word place 0) → IsStuckAt word place
cuts_stuck word tokens place lt cuts none =
    let before = map (lexeme_of word) tokens in
    let split = drop_more word place 0 lt in
    let whole = ap length (sym (texts_before-append before (drop place word)) ∙ cuts.reads) in
    record {
      before = before;
      first = get_or word place 0;
      rest = drop (place + 1) word;
      reads = sym cuts.reads ∙ ap (texts_before before) split;
      at = omega (arith, whole, length-append (texts before) (drop place word), length-drop place word);
      lexemes = rw split at cuts.lexemes;
      none = none;
    }

-- from a place on a word is cut to its end, or stuck; the number is at least that of the bytes left
cut_on : (left : ℕ) (word : List ℕ) (tokens : List Token) (place : ℕ) → length word - place ≤ left
    → CutsUpTo word tokens place → ((tokens : List Token) × IsCut word tokens) ⊎ ((place : ℕ) × IsStuckAt word place)
cut_on zero word tokens place le cuts = inl (tokens, cuts_all word tokens place (omega arith) cuts)
cut_on (suc left) word tokens place le cuts = elim (cases_lt place (length word)) [
  | inl lt ↦ elim (next_or_none word place lt) [
    | inl next ↦
        let some = next.1.some in
        cut_on left word (tokens ++ next.0 ∷ []) next.0.to (omega arith)
        (cuts_more word tokens place next.0 cuts next.1)
    | inr none ↦ inr (place, cuts_stuck word tokens place lt cuts none)
  ]
  | inr end ↦ inl (tokens, cuts_all word tokens place end cuts)
]

-- a word is cut into tokens, or stuck at some place
pub cut_or_stuck : (word : List ℕ) → ((tokens : List Token) × IsCut word tokens) ⊎ ((place : ℕ) × IsStuckAt word place)
cut_or_stuck word = cut_on (length word) word [] 0 (omega arith) (cuts_none word)

use Rattle.std.proofs.Common.{◌≡◌, ◌∷◌, List, [], rules, ap, sym, map, subst, subst₂, take, ◌∙◌}
use Rattle.std.proofs.lemmas.List.{map-append, take_all, take_more}
use Rattle.halo_lex.specs.Lexeme.{texts}
use Rattle.halo_lex.specs.Cut.{IsCut, IsTold, lexeme_of}
use Rattle.halo_lex.specs.declared.token.Token.{Token}
use Rattle.halo_lex.proofs.Lexing.{cut_not_stuck}
use Rattle.halo_symbol.specs.Piece.{as_lexeme}
use Rattle.halo_symbol.specs.PieceView.{plain_piece}
use Rattle.halo_symbol.proofs.Cuts.{no_token, token_within, lexemes_are, ArePiecesOf, pieces_more, pieces_are, pieces_lexemes}
use Rattle.halo_symbol.proofs.piece.pieces.Goals as goal

pub returns-in-Err-NotToken-clause-syntax : goal.returns-in-Err-NotToken-clause-syntax
returns-in-Err-NotToken-clause-syntax c failed ps are whole =
    let stuck = subst (IsTold c.args.word.now) c.in-Err-NotToken.field-0-is c.in-Err-NotToken.ensures.err in
    cut_not_stuck _ (map as_lexeme ps) _ (record { each = lexemes_are ps are; whole = whole }) stuck

pub piece_at-requires : goal.piece_at-requires
piece_at-requires c =
    let cut = subst (IsCut c.args.word.now) (sym c.deref-token-items.ensures.value) c.in-Ok.ensures.ok in
    let within =
    token_within c.args.word.now c.deref-token-items.result.now c.loop-token.token-index cut c.loop-token-test.true
    in
    record { order = within.0; within = within.1 }

pub loop-token-preserved : goal.loop-token-preserved
loop-token-preserved c =
    let more_tokens =
    ap (map (lexeme_of c.args.word.now)) (take_more c.deref-token-items.result.now c.loop-token.token-index no_token
    c.loop-token-test.true) ∙ map-append (lexeme_of c.args.word.now) _ _ in
    let more_pieces =
    ap (map plain_piece) c.in_ok-push.ensures.items
    ∙ map-append plain_piece c.loop-token.found.items (c.piece_at.result ∷ []) in
    subst₂ ArePiecesOf (sym more_tokens) (sym more_pieces)
    (pieces_more _ _ _ _ c.loop-token.invariant c.piece_at.ensures)

pub returns : goal.returns
returns c =
    let all : take c.loop-token.token-index c.deref-token-items.result.now ≡ c.in-Ok.tokens.items =
    take_all _ _ c.loop-token-test.false ∙ c.deref-token-items.ensures.value in
    let are : ArePiecesOf (map (lexeme_of c.args.word.now) c.in-Ok.tokens.items)
    (map plain_piece c.loop-token.found.items) =
    subst (λ (tokens : List Token). ArePiecesOf (map (lexeme_of c.args.word.now) tokens)
    (map plain_piece c.loop-token.found.items)) all c.loop-token.invariant in
    let lexemes = c.in-Ok.ensures.ok.lexemes in
    record {
      ok = pieces_are _ _ lexemes.each are;
      whole = ap texts (pieces_lexemes _ _ are) ∙ lexemes.whole;
      syntax = search rules;
    }

use Rattle.std.proofs.Common.{◌∷◌, List, refl, sym, ap, ◌∙◌, arith}
use Rattle.halo_symbol.specs.Characters.{square_open}
use Rattle.halo_symbol.specs.Piece.{Piece, byte}
use Rattle.halo_symbol.specs.Absent.{NoDefer, NoCauses, NoContent}
use Rattle.halo_symbol.specs.SymbolView.{plain_vary}
use Rattle.halo_symbol.proofs.Symbols.{text_one}
use Rattle.halo_symbol.proofs.RefusedSymbols.{head_read, no_defer, no_head, no_causes, no_brackets, no_content, no_square_close}
use Rattle.halo_symbol.proofs.word.symbol.Goals as goal

pub returns-in_err-defer-clause-syntax : goal.returns-in_err-defer-clause-syntax
returns-in_err-defer-clause-syntax c failed =
    let none : NoDefer c.args.reader.now = grind arith in
    no_defer _ _ none

pub returns-in_err-name-clause-syntax : goal.returns-in_err-name-clause-syntax
returns-in_err-name-clause-syntax c failed =
    no_head _ _ _ _ c.in_ok-defer.ensures.ends c.in_ok-defer.ensures.ok
    (λ v k rest proper e. c.in_err-name.ensures.1 _ _ e)

pub returns-in_default-clause-syntax : goal.returns-in_default-clause-syntax
returns-in_default-clause-syntax c failed =
    no_head _ _ _ _ c.in_ok-defer.ensures.ends c.in_ok-defer.ensures.ok
    (λ v k rest proper e. c.in_default.ensures.none v k proper (text_one (sym c.in_ok-name.ensures ∙ e)))

pub returns-in_err-causes-clause-syntax : goal.returns-in_err-causes-clause-syntax
returns-in_err-causes-clause-syntax c failed =
    let v = plain_vary c.in-Some.head.vary in
    let k = c.in-Some.head.kind in
    let none : NoCauses k c.name.new.self = grind arith in
    let read =
    head_read _ _ v k _ _ _ _ c.in_ok-defer.ensures.ok c.in_ok-name.ensures c.in-Some.ensures.text
    c.in-Some.ensures.proper refl in
    no_causes _ v k _ _ read none

pub returns-in_err-expect-clause-syntax : goal.returns-in_err-expect-clause-syntax
returns-in_err-expect-clause-syntax c failed =
    let v = plain_vary c.in-Some.head.vary in
    let k = c.in-Some.head.kind in
    let read =
    head_read _ _ v k _ _ _ _ c.in_ok-defer.ensures.ok c.in_ok-name.ensures c.in-Some.ensures.text
    c.in-Some.ensures.proper c.in_ok-causes.ensures.ok in
    no_brackets _ v k _ _ _ read c.in_ok-causes.ensures.ends
    (λ s rest allowed kind deep e. c.in_err-expect.ensures.1 _ e)

pub returns-in_err-content-clause-syntax : goal.returns-in_err-content-clause-syntax
returns-in_err-content-clause-syntax c failed =
    let v = plain_vary c.in-Some.head.vary in
    let k = c.in-Some.head.kind in
    let none : NoContent k c.args.depth c.expect.new.self = grind arith in
    let read =
    head_read _ _ v k _ _ _ _ c.in_ok-defer.ensures.ok c.in_ok-name.ensures c.in-Some.ensures.text
    c.in-Some.ensures.proper c.in_ok-causes.ensures.ok in
    no_content _ v k _ _ _ _ read c.in_ok-causes.ensures.ends c.in_ok-expect.ensures none

pub returns-in_err-expect-2-clause-syntax : goal.returns-in_err-expect-2-clause-syntax
returns-in_err-expect-2-clause-syntax c failed =
    let v = plain_vary c.in-Some.head.vary in
    let k = c.in-Some.head.kind in
    let read =
    head_read _ _ v k _ _ _ _ c.in_ok-defer.ensures.ok c.in_ok-name.ensures c.in-Some.ensures.text
    c.in-Some.ensures.proper c.in_ok-causes.ensures.ok in
    let opens = c.in_ok-expect.ensures ∙ ap (λ (ps : List Piece). byte square_open ∷ ps) c.in_ok-content.ensures.ok in
    no_square_close _ v k _ _ _ _ _ _ read c.in_ok-causes.ensures.ends opens c.in_ok-content.ensures.allowed
    c.in_ok-content.ensures.ends c.in_err-expect-2.ensures.1

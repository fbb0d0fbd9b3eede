use Rattle.std.proofs.Common.{◌≡◌, [], ap, map, sym, subst, ◌∙◌, arith}
use Rattle.halo_symbol.specs.PieceView.{plain_piece}
use Rattle.halo_symbol.specs.Pieces.{symbol_pieces}
use Rattle.halo_symbol.specs.Absent.{NoSymbol}
use Rattle.halo_symbol.specs.SymbolView.{plain_symbol}
use Rattle.halo_symbol.proofs.Symbols.{symbol_one}
use Rattle.halo_symbol.proofs.Words.{ArePiecesIn, spelled_pieces, pieces_spelled, spells_symbol}
use Rattle.halo_symbol.proofs.word.read_symbol.Goals as goal

pub returns-in_err-pieces-clause-syntax : goal.returns-in_err-pieces-clause-syntax
returns-in_err-pieces-clause-syntax c failed s deep spells =
    let of = spelled_pieces c.args.word.now s spells in
    c.in_err-pieces.ensures.syntax (grind arith) (symbol_pieces s []) of.each of.whole

pub returns-in_err-symbol-clause-syntax : goal.returns-in_err-symbol-clause-syntax
unfolding NoSymbol
returns-in_err-symbol-clause-syntax c failed s deep spells =
    let ps = map plain_piece c.in_ok-pieces.pieces.items in
    let are : ArePiecesIn c.args.word.now ps =
    record { each = c.in_ok-pieces.ensures.ok; whole = c.in_ok-pieces.ensures.whole } in
    let same : c.new-reader.result ≡ ps = grind arith in
    let failed_there : NoSymbol 16 c.new-reader.result = grind arith in
    let none : NoSymbol 16 ps = subst (NoSymbol 16) same failed_there in
    none s [] spells.proper.allowed deep (pieces_spelled c.args.word.now ps s are spells)

pub returns-in_err-end-clause-syntax : goal.returns-in_err-end-clause-syntax
returns-in_err-end-clause-syntax c failed s deep spells =
    let ps = map plain_piece c.in_ok-pieces.pieces.items in
    let are : ArePiecesIn c.args.word.now ps =
    record { each = c.in_ok-pieces.ensures.ok; whole = c.in_ok-pieces.ensures.whole } in
    let same : c.new-reader.result ≡ ps = grind arith in
    c.in_err-end.ensures.1 (symbol_one (plain_symbol c.in_ok-symbol.symbol) s _ [] c.in_ok-symbol.ensures.allowed
    spells.proper.allowed (sym c.in_ok-symbol.ensures.ok ∙ same ∙ pieces_spelled c.args.word.now ps s are spells)).1

pub returns-clause-spelled : goal.returns-clause-spelled
returns-clause-spelled c =
    let ps = map plain_piece c.in_ok-pieces.pieces.items in
    let are : ArePiecesIn c.args.word.now ps =
    record { each = c.in_ok-pieces.ensures.ok; whole = c.in_ok-pieces.ensures.whole } in
    let same : c.new-reader.result ≡ ps = grind arith in
    spells_symbol c.args.word.now ps (plain_symbol c.in_ok-symbol.symbol) are c.in_ok-symbol.ensures.allowed
    (sym same ∙ c.in_ok-symbol.ensures.ok ∙ ap (symbol_pieces (plain_symbol c.in_ok-symbol.symbol))
    c.in_ok-end.ensures)

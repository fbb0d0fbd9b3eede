use Rattle.std.proofs.Common.{◌≡◌, [], ap, map, sym, subst, ◌∙◌, arith}
use Rattle.halo_symbol.specs.PieceView.{plain_piece}
use Rattle.halo_symbol.specs.Pieces.{body_pieces}
use Rattle.halo_symbol.specs.Absent.{NoBody}
use Rattle.halo_symbol.specs.View.{plain_body}
use Rattle.halo_symbol.proofs.Unique.{body_unique}
use Rattle.halo_symbol.proofs.Words.{ArePiecesIn, status_pieces, pieces_status, spells_status, ends_nothing}
use Rattle.halo_symbol.proofs.word.read_status.Goals as goal

pub returns-in_err-pieces-clause-syntax : goal.returns-in_err-pieces-clause-syntax
returns-in_err-pieces-clause-syntax c failed body deep spells =
    let of = status_pieces c.args.word.now body spells in
    c.in_err-pieces.ensures.syntax (grind arith) (body_pieces body []) of.each of.whole

pub returns-in_err-status-clause-syntax : goal.returns-in_err-status-clause-syntax
unfolding NoBody
returns-in_err-status-clause-syntax c failed body deep spells =
    let ps = map plain_piece c.in_ok-pieces.pieces.items in
    let are : ArePiecesIn c.args.word.now ps =
    record { each = c.in_ok-pieces.ensures.ok; whole = c.in_ok-pieces.ensures.whole } in
    let same : c.new-reader.result ≡ ps = grind arith in
    let failed_there : NoBody 16 c.new-reader.result = grind arith in
    let none : NoBody 16 ps = subst (NoBody 16) same failed_there in
    none body [] deep (ends_nothing body) (pieces_status c.args.word.now ps body are spells)

pub returns-in_err-end-clause-syntax : goal.returns-in_err-end-clause-syntax
returns-in_err-end-clause-syntax c failed body deep spells =
    let ps = map plain_piece c.in_ok-pieces.pieces.items in
    let are : ArePiecesIn c.args.word.now ps =
    record { each = c.in_ok-pieces.ensures.ok; whole = c.in_ok-pieces.ensures.whole } in
    let same : c.new-reader.result ≡ ps = grind arith in
    c.in_err-end.ensures.1 (body_unique (plain_body c.in_ok-status.status) body _ [] c.in_ok-status.ensures.ends
    (ends_nothing body) (sym c.in_ok-status.ensures.ok ∙ same ∙ pieces_status c.args.word.now ps body are spells)).1

pub returns-clause-spelled : goal.returns-clause-spelled
returns-clause-spelled c =
    let ps = map plain_piece c.in_ok-pieces.pieces.items in
    let are : ArePiecesIn c.args.word.now ps =
    record { each = c.in_ok-pieces.ensures.ok; whole = c.in_ok-pieces.ensures.whole } in
    let same : c.new-reader.result ≡ ps = grind arith in
    spells_status c.args.word.now ps (plain_body c.in_ok-status.status) are
    (sym same ∙ c.in_ok-status.ensures.ok ∙ ap (body_pieces (plain_body c.in_ok-status.status)) c.in_ok-end.ensures)

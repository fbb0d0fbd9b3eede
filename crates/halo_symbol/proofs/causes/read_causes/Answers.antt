use Rattle.std.proofs.Common.{◌≡◌, [], ◌∷◌, ◌++◌, List, ℕ, map, subst, sym, ap, ◌∙◌, arith}
use Rattle.std.specs.Borrow.{Bor}
use Rattle.std.proofs.lemmas.List.{map-append}
use Rattle.halo_symbol.specs.Characters.{comma, brace_open, brace_close}
use Rattle.halo_symbol.specs.Piece.{Piece, name, byte}
use Rattle.halo_symbol.specs.Pieces.{other_names_pieces}
use Rattle.halo_symbol.specs.Next.{NotNext}
use Rattle.halo_symbol.proofs.Unique.{behind}
use Rattle.halo_symbol.proofs.Sets.{no_set, no_name, no_brace, other_names_pieces-push}
use Rattle.halo_symbol.proofs.causes.read_causes.Goals as goal

pub returns-then-ne-clause-syntax : goal.returns-then-ne-clause-syntax
returns-then-ne-clause-syntax c failed =
    no_set _ _ _ (c.takes.ensures.yes c.if-not-takes.false) (λ names rest allowed e. absurd (grind (arith, allowed)))

pub returns-in_err-first-clause-syntax : goal.returns-in_err-first-clause-syntax
returns-in_err-first-clause-syntax c failed =
    no_set _ _ _ (c.takes.ensures.yes c.if-not-takes.false) (λ names rest allowed e. c.in_err-first.ensures.1 _ _ e)

pub returns-in_err-other-clause-syntax : goal.returns-in_err-other-clause-syntax
returns-in_err-other-clause-syntax c failed =
    let opened = c.takes.ensures.yes c.if-not-takes.false in
    let read = c.takes-in-loop-reader.ensures.yes c.loop-reader-test.true in
    let so_far = behind (sym opened ∙ c.loop-reader.invariant) in
    no_set _ _ _ opened (λ names rest allowed e.
    no_name _ names.others _ rest c.in_err-other.ensures.1
    (ap (other_names_pieces _) (sym read) ∙ behind (sym so_far ∙ e)))

pub loop-reader-preserved : goal.loop-reader-preserved
loop-reader-preserved c =
    let read = c.takes-in-loop-reader.ensures.yes c.loop-reader-test.true in
    let now : Bor (List ℕ) → List ℕ = λ other. other.now in
    let more : map now c.push.new.self.items ≡ map now c.loop-reader.others.items ++ c.in_ok-other.other.now ∷ [] =
    ap (map now) c.in_ok-push.ensures.items ∙ map-append now c.loop-reader.others.items (c.in_ok-other.other ∷ []) in
    let step : other_names_pieces (map now c.loop-reader.others.items) c.loop-reader.reader
    ≡ other_names_pieces (map now c.push.new.self.items) c.name-in-loop-reader.new.self =
    ap (other_names_pieces (map now c.loop-reader.others.items))
    (read ∙ ap (λ (ps : List Piece). byte comma ∷ ps) c.in_ok-other.ensures)
    ∙ sym (ap (λ (names : List (List ℕ)). other_names_pieces names c.name-in-loop-reader.new.self) more
    ∙ other_names_pieces-push _ _ _) in
    c.loop-reader.invariant ∙ ap (λ (ps : List Piece). byte brace_open ∷ name c.in_ok-first.first.now ∷ ps) step

pub returns-in_err-expect-clause-syntax : goal.returns-in_err-expect-clause-syntax
returns-in_err-expect-clause-syntax c failed =
    let opened = c.takes.ensures.yes c.if-not-takes.false in
    let stopped = c.takes-in-loop-reader.ensures.no c.loop-reader-test.false in
    let so_far = behind (sym opened ∙ c.loop-reader.invariant) in
    no_set _ _ _ opened (λ names rest allowed e.
    no_brace _ names.others _ rest stopped.1 (subst (NotNext brace_close) stopped.0 c.in_err-expect.ensures.1)
    (behind (sym so_far ∙ e)))

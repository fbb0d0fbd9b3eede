-- The words of the line, with a space between each two.
use Rattle.std.specs.Fmt.{decimal}
use Rattle.std.proofs.lemmas.Result.{IfOk-equal}
use Rattle.halo_contract.specs.PlainContract.{life_names}
use Rattle.halo_spell.specs.Canonical.{names_in}
use Rattle.halo_spell.proofs.LinesLeft.{join_words, reserve_written}
use Rattle.halo_spell.proofs.lines.write_reserve.Goals as goal

pub returns : goal.returns
returns c =
    let words =
    join_words (decimal c.args.reserve.now.time) (names_in (life_names c.args.lives.now) c.args.reserve.now.alive)
    in
    let time = rw c.from.ensures at c.in_ok-write_number.ensures in
    IfOk-equal _ _ _ _ c.write_bytes-2.ensures
    (reserve_written _ _ _ _ _ _ _ c.in_ok-write_bytes.ensures time c.in_ok-write_names.ensures words)

-- The first fraction and those behind it make the line.
use Rattle.std.proofs.Common.{◌≤◌, [], arith, length}
use Rattle.std.proofs.lemmas.List.{drop_all}
use Rattle.std.proofs.lemmas.Result.{IfOk-equal}
use Rattle.halo_spell.proofs.LinesLeft.{interest_text, interest_written}
use Rattle.halo_spell.proofs.interest.write_interest.Goals as goal

pub returns : goal.returns
returns c =
    let rates = c.args.interest.now in
    let past : length rates ≤ c.loop-place.place =
    omega (arith, c.loop-place-test.false, c.fractions-count.ensures.value) in
    let none = drop_all c.loop-place.place rates past in
    let later = rw none at c.loop-place.invariant in
    let first = rw (c.fraction-p.ensures.p, c.fraction-p.ensures.q) at c.in_ok-write_fraction.ensures in
    IfOk-equal _ _ _ _ c.write_bytes-2.ensures
    (interest_written _ _ _ _ [] _ _ _ c.in_ok-write_bytes.ensures first later
    (interest_text rates c.fractions-count.ensures.interest.some))

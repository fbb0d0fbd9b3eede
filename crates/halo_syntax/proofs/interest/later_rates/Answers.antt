use Rattle.std.proofs.Common.{◌≡◌, ◌-◌, ◌<◌, ◌++◌, ap, sym, ◌∙◌, subst, arith, drop, length, map, take}
use Rattle.std.specs.Prelude.{All}
use Rattle.std.proofs.lemmas.Bool.Decides.{nat_tests}
use Rattle.std.proofs.lemmas.List.{length-map, map_push}
use Rattle.std.proofs.lemmas.List.Elements.{All-push}
use Rattle.halo_syntax.specs.Line.{rate_words}
use Rattle.halo_syntax.specs.LineReading.{NoRates, bytes_of}
use Rattle.halo_syntax.specs.LineView.{plain_rate}
use Rattle.halo_syntax.specs.ProperLine.{IsProperRate}
use Rattle.halo_syntax.proofs.Rates.{no_rates_behind, no_rates_of_one, no_rates_of_two, one_rate_more}
use Rattle.halo_syntax.proofs.Texts.{first_texts}
use Rattle.halo_syntax.proofs.interest.later_rates.Goals as goal

pub returns-in_default-read_rate-clause-syntax : goal.returns-in_default-read_rate-clause-syntax
returns-in_default-read_rate-clause-syntax c = λ _.
    subst NoRates (sym c.loop-left.invariant.read)
    (no_rates_behind _ _ (subst NoRates (sym (first_texts c.loop-left.left.now _ c.in-len2-up.len_at_least))
    (no_rates_of_two _ _ _ c.in_default-read_rate.ensures)))

pub loop-left-preserved : goal.loop-left-preserved
loop-left-preserved c =
    let rates =
    ap (map plain_rate) c.in_ok-push.ensures.items ∙ map_push plain_rate c.loop-left.rates.items c.in-Some.rate in
    let left = c.loop-left.left.now in
    let rest = bytes_of (take (length left - 2) (drop 2 left)) in
    record {
      proper =
          subst (All IsProperRate) (sym rates) (All-push IsProperRate _ _ c.loop-left.invariant.proper
          c.in-Some.ensures.proper);
      read =
          subst (λ rs. bytes_of c.args.words.now ≡ rate_words rs ++ rest) (sym rates)
          (one_rate_more _ _ rest _ _ _ _ c.loop-left.invariant.read (first_texts left _ c.in-len2-up.len_at_least)
          c.in-Some.ensures);
    }

pub returns-clause-syntax : goal.returns-clause-syntax
returns-clause-syntax c = λ _.
    let one : length (bytes_of c.loop-left.left.now) ≡ 1 =
    let some : 0 < length c.loop-left.left.now = grind (arith, nat_tests) in
    omega (arith, length-map c.loop-left.left.now (λ text. text.now)) in
    subst NoRates (sym c.loop-left.invariant.read) (no_rates_behind _ _ (no_rates_of_one _ one))

use Rattle.std.proofs.Common.{◌≡◌, [], ◌∷◌, ◌++◌, arith, subst, sym}
use Rattle.std.proofs.lemmas.Grind.{common_steps}
use Rattle.halo_lex.proofs.Cutting.{CutsUpTo, cuts_more, cuts_stuck}
use Rattle.halo_lex.proofs.cut.symbol_tokens.Goals as goal

pub loop-from-preserved : goal.loop-from-preserved
loop-from-preserved c =
    let token = c.in-Some.token in
    let grown : c.push.new.self.items ≡ c.loop-from.found.items ++ token ∷ [] = grind (arith, common_steps) in
    subst (λ tokens. CutsUpTo c.args.word.now tokens token.to) (sym grown)
    (cuts_more c.args.word.now c.loop-from.found.items c.loop-from.from token c.loop-from.invariant
    c.in-Some.ensures.some)

pub returns-in_default-clause-err : goal.returns-in_default-clause-err
returns-in_default-clause-err c =
    cuts_stuck c.args.word.now c.loop-from.found.items c.loop-from.from c.loop-from-test.true c.loop-from.invariant
    c.in_default.ensures.none

use Rattle.std.proofs.Common.{◌≡◌, true, arith, get_or, sym, ◌∙◌}
use Rattle.std.specs.Char.{is_ascii_alphabetic, is_ascii_digit}
use Rattle.std.proofs.lemmas.Bool.{both_ways}
use Rattle.std.proofs.lemmas.Grind.{common_steps}
use Rattle.halo_lex.specs.Lexeme.{is_symbol_byte}
use Rattle.halo_lex.proofs.Next.{byte_next, digit_passes, name_next, number_next}
use Rattle.halo_lex.proofs.cut.next_token.Goals as goal

pub returns-then-is_ascii_alphabetic-clause-some : goal.returns-then-is_ascii_alphabetic-clause-some
returns-then-is_ascii_alphabetic-clause-some c =
    let letter : is_ascii_alphabetic (get_or c.args.word.now c.args.from 0) ≡ true = grind (arith, common_steps) in
    name_next c.args.word.now c.args.from c.name_end.result c.requires letter c.name_end.ensures

pub returns-then-is_ascii_digit-clause-some : goal.returns-then-is_ascii_digit-clause-some
returns-then-is_ascii_digit-clause-some c =
    let digit : is_ascii_digit (get_or c.args.word.now c.args.from 0) ≡ true = grind (arith, common_steps) in
    number_next c.args.word.now c.args.from c.number_end.result c.requires digit c.number_end.ensures

pub returns-then-contains-clause-some : goal.returns-then-contains-clause-some
unfolding is_symbol_byte
returns-then-contains-clause-some c =
    let symbol : is_symbol_byte (get_or c.args.word.now c.args.from 0) ≡ true =
    sym c.contains.ensures.value ∙ c.if-contains.true in
    byte_next c.args.word.now c.args.from c.requires symbol

pub returns-else-contains-clause-none : goal.returns-else-contains-clause-none
unfolding is_symbol_byte
returns-else-contains-clause-none c = record {
  letter = sym c.is_ascii_alphabetic.ensures.value ∙ c.if-is_ascii_alphabetic.false;
  digit =
      λ d. both_ways (is_ascii_digit (get_or c.args.word.now c.args.from 0))
      (sym c.is_ascii_digit.ensures.value ∙ c.if-is_ascii_digit.false)
      (digit_passes (get_or c.args.word.now c.args.from 0) d);
  symbol = sym c.contains.ensures.value ∙ c.if-contains.false;
}

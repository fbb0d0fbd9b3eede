-- The plain form of a symbol in memory.
use Rattle.std.specs.Prelude.{map}
use Rattle.std.specs.Option.{option_copied, option_map}
use Rattle.halo_symbol.specs.Symbol as plain
use Rattle.halo_symbol.specs.View.{plain_body}
use Rattle.halo_symbol.specs.declared.symbol.Vary.{Vary}
use Rattle.halo_symbol.specs.declared.symbol.Vary.TheVariants as vary
use Rattle.halo_symbol.specs.declared.symbol.Names.{Names}
use Rattle.halo_symbol.specs.declared.symbol.Mark.{Mark}
use Rattle.halo_symbol.specs.declared.symbol.Symbol.{Symbol}

-- how a head says that the payments vary
abbrev pub plain_vary : Vary → plain.Vary
plain_vary vary.Level = plain.level
plain_vary vary.Increasing = plain.increasing
plain_vary (vary.Decreasing count) = plain.decreasing count.now

-- a set of names
abbrev pub plain_names : Names → plain.Names
plain_names names =
    record { first = names.first.now; others = map (λ name. name.now) names.others.items }

-- a mark
abbrev pub plain_mark : Mark → plain.Mark
plain_mark mark = record { member = mark.member; rank = mark.rank.now }

-- a symbol
abbrev pub plain_symbol : Symbol → plain.Symbol
plain_symbol s = record {
  defer = option_copied s.defer;
  vary = plain_vary s.vary;
  kind = s.kind;
  causes = option_map plain_names s.causes;
  body = plain_body s.body;
  mark = option_map plain_mark s.mark;
}

-- The plain forms of lines in memory.
use Rattle.std.specs.Prelude.{map}
use Rattle.halo_symbol.specs.View.{plain_body}
use Rattle.halo_symbol.specs.SymbolView.{plain_symbol}
use Rattle.halo_syntax.specs.Line as plain
use Rattle.halo_syntax.specs.declared.line.LaterRate.{LaterRate}
use Rattle.halo_syntax.specs.declared.line.Line.{Line}
use Rattle.halo_syntax.specs.declared.line.Line.TheVariants as line

-- a fraction from a year on
abbrev pub plain_rate : LaterRate → plain.LaterRate
plain_rate rate = record { year = rate.year.now; p = rate.p.now; q = rate.q.now }

-- a line
abbrev pub plain_line : Line → plain.Line
plain_line (line.Interest p q later) = plain.interest p.now q.now (map plain_rate later.items)
plain_line (line.Life name table age) = plain.life name.now table.now age.now
plain_line (line.Ties rule) = plain.ties rule
plain_line (line.Pay amount symbol) = plain.pay amount.now (plain_symbol symbol)
plain_line (line.Premium body) = plain.premium (plain_body body)
plain_line (line.Reserve time names) = plain.reserve time.now (map (λ name. name.now) names.items)

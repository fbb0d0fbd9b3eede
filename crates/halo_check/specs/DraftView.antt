-- The plain form of a draft in memory.
use Rattle.std.specs.Prelude.{map}
use Rattle.std.specs.Option.{option_map}
use Rattle.halo_status.specs.Pay.{pay_of}
use Rattle.halo_check.specs.Draft as plain
use Rattle.halo_check.specs.declared.draft.Draft.{Draft}

-- a draft
abbrev pub draft_of : Draft → plain.Draft
draft_of d = record {
  interest = d.interest;
  lives = d.lives.items;
  ties = d.ties;
  pays = map pay_of d.pays.items;
  premium = option_map pay_of d.premium;
  reserves = d.reserves.items;
}

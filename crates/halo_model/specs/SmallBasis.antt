-- A basis of small tables, whose values come out by computation.
use Rattle.std.specs.Prelude.{◌≡◌, ℕ, ◌*◌, List, [], ◌∷◌, Some, None}
use Rattle.halo_status.specs.Tree.{Tree, Trees, none, more}
use Rattle.halo_status.specs.Pay.{PlainPay}
use Rattle.halo_status.specs.declared.pay.Kind.{Kind}
use Rattle.halo_status.specs.declared.pay.Kind.TheVariants.{Insurance}
use Rattle.halo_status.specs.declared.pay.Vary.TheVariants.{Level}
use Rattle.halo_table.specs.DecrementTable.{DecrementRow, TableFile}
use Rattle.halo_model.specs.FromTables.{life_of}
use Rattle.halo_contract.specs.declared.ties.Ties.TheVariants.{Declared}
use Rattle.halo_model.specs.Basis.{Basis}
use Rattle.halo_contract.specs.Premium.{all_lives}
use Rattle.halo_model.specs.Value.{denominator, numerator}

abbrev pub row : ℕ → List ℕ → DecrementRow
row survivors leavers = record { survivors = survivors; leavers = leavers }

-- a file of one table: of 4 alive at age 60 leave 2, then 1, then the last one, all by one cause
abbrev pub one_cause : TableFile
one_cause = record {
  causes = [] ∷ [];
  tables = record {
    name = [];
    first_age = 60;
    rows = row 4 (2 ∷ []) ∷ row 2 (1 ∷ []) ∷ row 1 (1 ∷ []) ∷ [];
  } ∷ [];
}

-- a file of one table with two causes: of 4 alive at age 60 one leaves by each, then of 2 one by
-- each
abbrev pub two_causes : TableFile
two_causes = record {
  causes = [] ∷ [] ∷ [];
  tables = record {
    name = [];
    first_age = 60;
    rows = row 4 (1 ∷ 1 ∷ []) ∷ row 2 (1 ∷ 1 ∷ []) ∷ [];
  } ∷ [];
}

-- three lives aged 60 in the table of a file, at the interest 1/1, up to time 3, when nobody is
-- alive any more
abbrev pub small_basis : TableFile → Basis
small_basis file = record {
  p = λ k. 1;
  q = λ k. 1;
  last_time = 3;
  lives = life_of file 0 60 ∷ life_of file 0 60 ∷ life_of file 0 60 ∷ [];
  ties = Declared;
}

-- a level pay of 1, without deferral, causes or mark
abbrev pub plain : Kind → Tree → PlainPay
plain kind body = record {
  amount = 1;
  vary = Level;
  kind = kind;
  defer = 0;
  causes = None;
  body = body;
  mark = None;
}

-- a contingent insurance of 1 on a marked member at a rank
abbrev pub marked : ℕ → ℕ → Tree → PlainPay
marked member rank body =
    record (plain Insurance body) { mark = Some (record { member = member; rank = rank }) }

-- two statuses as members
abbrev pub both : Tree → Tree → Trees
both s t = more s (more t none)

-- at the start a pay is worth the fraction num / den
abbrev pub IsWorth : Basis → PlainPay → ℕ → ℕ → Type 0
IsWorth b pay num den = numerator b pay 0 all_lives * den ≡ num * denominator b 0 all_lives

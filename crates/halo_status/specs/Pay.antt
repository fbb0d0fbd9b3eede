-- A pay as plain data: what a pay line of a contract promises.
use Rattle.std.specs.Prelude.{ℕ, Option}
use Rattle.halo_status.specs.Tree.{Tree}
use Rattle.halo_status.specs.StatusTree.{tree_of}
use Rattle.halo_status.specs.declared.pay.Kind.{Kind}
use Rattle.halo_status.specs.declared.pay.Vary.{Vary}
use Rattle.halo_status.specs.declared.pay.Mark.{Mark}
use Rattle.halo_status.specs.declared.pay.Pay.{Pay}

-- a pay whose body is a plain tree; its other parts are those of a pay in memory
pub record PlainPay : Type 0 where
  pub amount : ℕ
  pub vary : Vary
  pub kind : Kind
  pub defer : ℕ
  pub causes : Option ℕ
  pub body : Tree
  pub mark : Option Mark

-- the plain form of a pay in memory
abbrev pub pay_of : Pay → PlainPay
pay_of pay = record {
  amount = pay.amount;
  vary = pay.vary;
  kind = pay.kind;
  defer = pay.defer;
  causes = pay.causes;
  body = tree_of pay.body;
  mark = pay.mark;
}

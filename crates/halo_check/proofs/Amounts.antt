-- The amounts of the pays from the front.
use Rattle.std.proofs.Common.{◌≡◌, ◌<◌, ◌≤◌, ◌+◌, ◌∙◌, ℕ, List, length, map, take, get_or, ap}
use Rattle.std.proofs.lemmas.List.{map_more, take-map}
use Rattle.std.proofs.lemmas.List.Sums.{sum_by-take-le, sum_by_push}
use Rattle.halo_status.specs.Pay.{PlainPay, pay_of}
use Rattle.halo_status.specs.declared.pay.Pay.{Pay}
use Rattle.halo_contract.specs.PlainContract.{amount_of_all}

pub amounts_more : (pays : List Pay) (k : ℕ) (d : Pay) → k < length pays
    → amount_of_all (map pay_of (take (k + 1) pays))
    ≡ amount_of_all (map pay_of (take k pays)) + (get_or pays k d).amount
amounts_more pays k d lt =
    ap amount_of_all (map_more pay_of pays k d lt)
    ∙ sum_by_push (λ (pay : PlainPay). pay.amount) (map pay_of (take k pays)) (pay_of (get_or pays k d))

-- those of the first pays are no more than those of all
pub amounts_within : (pays : List Pay) (k : ℕ)
    → amount_of_all (map pay_of (take k pays)) ≤ amount_of_all (map pay_of pays)
amounts_within pays k =
    rw (← take-map pay_of k pays) (sum_by-take-le (λ (pay : PlainPay). pay.amount) (map pay_of pays) k)

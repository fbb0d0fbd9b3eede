use Rattle.halo_check.proofs.AmongNames.{among-Contains}
use Rattle.halo_check.proofs.statuses.is_alive_if_named.Goals as goal

pub returns-then-not-is_among : goal.returns-then-not-is_among
returns-then-not-is_among c =
    let among = rw c.bytes.ensures.same at c.is_among.ensures in (
      λ h named. absurd (cc (c.if-not-is_among.true, among, (among-Contains _ _).1 named)),
      λ h. cc c.if-not-is_among.true,
    )

pub returns-else-not-is_among : goal.returns-else-not-is_among
returns-else-not-is_among c =
    let among = rw c.bytes.ensures.same at c.is_among.ensures in (
      λ h named. c.is_alive_at.ensures.0 h,
      λ alive. c.is_alive_at.ensures.1 (alive ((among-Contains _ _).0 (cc (c.if-not-is_among.false, among)))),
    )

use Rattle.std.proofs.Common.{arith, ◌∙◌, refl}
use Rattle.halo_io.proofs.Front.{front-read, ok-mapped}
use Rattle.halo_io.proofs.loading.load.Goals as goal

pub reads-preserved : goal.reads-preserved
reads-preserved g c =
    let read = c.read_at.ensures in
    let mapped = c.in_ok-count.ensures in
    let count = c.in_ok-count.count in
    let gave = ok-mapped c.read_at.result _ count _ refl mapped.cases mapped.variant in
    let front =
    front-read _ _ c.reads.bytes.items c.read_at.new.into _ _ count _
    (c.reads.invariant.0 c.args.name.now) (c.len-at.ensures ∙ c.reads.bytes.ok.0) gave
    read.bound read.bytes c.reads.invariant.2 in
    let items = rw (← c.in_ok-map_err.ensures.variant) at c.extend_from_slice.ensures.items in (
      (λ n. read.same n ∙ c.reads.invariant.0 n),
      (λ n. omega (arith, read.later n, c.reads.invariant.1 n)),
      rw items front,
    )

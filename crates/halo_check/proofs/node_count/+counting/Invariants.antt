use Rattle.std.proofs.Common.{◌≡◌, min, sum_by, take}
use Rattle.halo_check.specs.Limits.{any_life}
use Rattle.halo_check.proofs.Nodes.{nodes_of}
use Rattle.halo_check.proofs.node_count.+counting.Given as goal

abbrev pub invariant-nodes_of_all-loop-member : goal.invariant-nodes_of_all-loop-member
invariant-nodes_of_all-loop-member l =
    l.count ≡ min (sum_by (nodes_of any_life) (take l.member-index l.members)) 18446744073709551615

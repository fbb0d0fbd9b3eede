-- A status whose ranks are valid asks for some members in each list.
use Rattle.halo_status.specs.Nodes.{AsksForSome, AtEachNode, AtEachNodeIn}
use Rattle.halo_status.specs.Tree.{Tree, Trees, life, term, joint, last, at_least, exactly, after, none, more}
use Rattle.halo_status.specs.ValidPay.{HasRank}

mutual
  pub ranks-ask : (s : Tree) → AtEachNode HasRank s → AtEachNode AsksForSome s
  ranks-ask (life i) h = tt
  ranks-ask (term n) h = tt
  ranks-ask (joint ms) h = (tt, ranks-ask-in ms h.1)
  ranks-ask (last ms) h = (tt, ranks-ask-in ms h.1)
  ranks-ask (at_least r ms) h = (h.0.0, ranks-ask-in ms h.1)
  ranks-ask (exactly r ms) h = (h.0.0, ranks-ask-in ms h.1)
  ranks-ask (after s t) h = (tt, ranks-ask s h.1, ranks-ask t h.2)

  pub ranks-ask-in : (ms : Trees) → AtEachNodeIn HasRank ms → AtEachNodeIn AsksForSome ms
  ranks-ask-in none h = tt
  ranks-ask-in (more s ms) h = (ranks-ask s h.0, ranks-ask-in ms h.1)

use Rattle.std.proofs.Common.{rules, ap, ◌∙◌, ◌↔◌, IsTrue, subst, sym}
use Rattle.halo_symbol.specs.Proper.{IsProper, IsProperBody}
use Rattle.halo_symbol.specs.View.{plain_body, plain_node}
use Rattle.halo_symbol.specs.declared.tree.Body as body
use Rattle.halo_symbol.specs.declared.tree.Node as node
use Rattle.halo_symbol.specs.declared.tree.Members as members
use Rattle.halo_symbol.proofs.Shapes.{plain_body-List, plain_body-Reversion, plain_node-Last, plain_node-AtLeast, plain_node-Exactly}
use Rattle.halo_check.specs.Parts.{AtEach}
use Rattle.halo_check.proofs.BodyParts.{AllHave, AllProper, AreProper-members_of, AtEach-itself, AtEachMember-members_of}
use Rattle.halo_check.proofs.parts.+each_part.Goals as goal

pub body_passes-list_passes-requires : goal.body_passes-list_passes-requires
body_passes-list_passes-requires g t c κs within =
    let proper = subst IsProperBody (ap plain_body c.in-List.is ∙ plain_body-List c.in-List.members) c.requires in
    (search (rules, body.the_lemmas), (search rules, proper))

pub body_passes-list_passes-requires-in-Reversion : goal.body_passes-list_passes-requires-in-Reversion
body_passes-list_passes-requires-in-Reversion g t c κs within =
    let arm = c.in-Reversion in
    let proper = subst IsProperBody (ap plain_body arm.is ∙ plain_body-Reversion arm.first arm.second) c.requires in
    (search (rules, body.the_lemmas, arm.is), (search rules, search (proper.0, proper.1)))

pub body_passes-list_passes-requires-then-list_passes : goal.body_passes-list_passes-requires-then-list_passes
body_passes-list_passes-requires-then-list_passes g t c κs within =
    let arm = c.in-Reversion in
    let proper = subst IsProperBody (ap plain_body arm.is ∙ plain_body-Reversion arm.first arm.second) c.requires in
    (search (rules, body.the_lemmas, arm.is), (search rules, search (proper.0, proper.1)))

pub body_passes-returns-then-list_passes : goal.body_passes-returns-then-list_passes
body_passes-returns-then-list_passes g t c =
    let arm = c.in-Reversion in
    let is = ap plain_body arm.is ∙ plain_body-Reversion arm.first arm.second in
    let one = c.list_passes-in-Reversion.ensures in
    let two = c.list_passes-then-list_passes.ensures in
    rw is ((λ passes. (one.0 c.if-list_passes.true, (two.0 passes).0, (two.0 passes).1)), (λ h. two.1 (h.1, h.2)))

pub members_pass-member_passes-requires : goal.members_pass-member_passes-requires
members_pass-member_passes-requires g t c κs within =
    let first = c.args.members.now.first.value in
    let proper =
    subst (λ m. IsProper (plain_node m)) (sym c.deref.ensures)
    (AreProper-members_of (plain_node first) c.args.members.now.others.items c.requires).0 in
    (search (rules, members.the_lemmas), (search rules, proper))

pub members_pass-all_pass-requires : goal.members_pass-all_pass-requires
members_pass-all_pass-requires g t c κs within =
    let first = c.args.members.now.first.value in
    let proper =
    subst AllProper (sym c.deref-then-member_passes.ensures.value)
    (AreProper-members_of (plain_node first) c.args.members.now.others.items c.requires).1 in
    (search (rules, members.the_lemmas), (search rules, proper))

pub members_pass-returns-then-member_passes : goal.members_pass-returns-then-member_passes
members_pass-returns-then-member_passes g t c =
    let P = g.T.PartTest.member_fact c.args.test.now in
    let Q = g.T.PartTest.list_fact c.args.test.now in
    let whole =
    AtEachMember-members_of P Q (plain_node c.args.members.now.first.value) c.args.members.now.others.items in
    let first =
    subst (λ m. AtEach P Q (plain_node m)) c.deref.ensures (c.member_passes.ensures.0 c.if-member_passes.true) in
    let rest =
    subst (λ ms. IsTrue c.all_pass.result ↔ AllHave P Q ms) c.deref-then-member_passes.ensures.value
    c.all_pass.ensures in
    ((λ passes. whole.1 (first, rest.0 passes)), (λ h. rest.1 (whole.0 h).1))

pub members_pass-returns-else-member_passes : goal.members_pass-returns-else-member_passes
members_pass-returns-else-member_passes g t c =
    let P = g.T.PartTest.member_fact c.args.test.now in
    let Q = g.T.PartTest.list_fact c.args.test.now in
    let whole =
    AtEachMember-members_of P Q (plain_node c.args.members.now.first.value) c.args.members.now.others.items in
    let first =
    subst (λ m. IsTrue c.member_passes.result ↔ AtEach P Q (plain_node m)) c.deref.ensures c.member_passes.ensures
    in
    ((λ passes. cc (passes, c.if-member_passes.false)), (λ h. first.1 (whole.0 h).0))

pub member_passes-list_passes-requires : goal.member_passes-list_passes-requires
member_passes-list_passes-requires g t c κs within =
    let proper = subst IsProper (ap plain_node c.in-Last.is ∙ plain_node-Last c.in-Last.members) c.requires in
    (search (rules, node.the_lemmas), (search rules, proper))

pub member_passes-list_passes-requires-in-AtLeast : goal.member_passes-list_passes-requires-in-AtLeast
member_passes-list_passes-requires-in-AtLeast g t c κs within =
    let arm = c.in-AtLeast in
    let proper = subst IsProper (ap plain_node arm.is ∙ plain_node-AtLeast arm.field-0 arm.members) c.requires in
    (search (rules, node.the_lemmas, arm.is), (search rules, proper.1))

pub member_passes-list_passes-requires-in-Exactly : goal.member_passes-list_passes-requires-in-Exactly
member_passes-list_passes-requires-in-Exactly g t c κs within =
    let arm = c.in-Exactly in
    let proper = subst IsProper (ap plain_node arm.is ∙ plain_node-Exactly arm.field-0 arm.members) c.requires in
    (search (rules, node.the_lemmas, arm.is), (search rules, proper.1))

pub member_passes-returns-in-AtLeast : goal.member_passes-returns-in-AtLeast
member_passes-returns-in-AtLeast g t c =
    let arm = c.in-AtLeast in
    let is = ap plain_node arm.is ∙ plain_node-AtLeast arm.field-0 arm.members in
    let itself = subst (g.T.PartTest.member_fact c.args.test.now) is (c.passes.ensures.0 c.if-passes.true) in
    let within = c.list_passes-in-AtLeast.ensures in
    rw is ((λ passes. (itself, (within.0 passes).0, (within.0 passes).1)), (λ h. within.1 (h.1, h.2)))

pub member_passes-returns-in-Exactly : goal.member_passes-returns-in-Exactly
member_passes-returns-in-Exactly g t c =
    let arm = c.in-Exactly in
    let is = ap plain_node arm.is ∙ plain_node-Exactly arm.field-0 arm.members in
    let itself = subst (g.T.PartTest.member_fact c.args.test.now) is (c.passes.ensures.0 c.if-passes.true) in
    let within = c.list_passes-in-Exactly.ensures in
    rw is ((λ passes. (itself, (within.0 passes).0, (within.0 passes).1)), (λ h. within.1 (h.1, h.2)))

pub member_passes-returns-else-passes : goal.member_passes-returns-else-passes
member_passes-returns-else-passes g t c =
    let itself =
    AtEach-itself (g.T.PartTest.member_fact c.args.test.now) (g.T.PartTest.list_fact c.args.test.now)
    (plain_node c.args.member.now) in
    ((λ passes. cc (passes, c.if-passes.false)), (λ h. c.passes.ensures.1 (itself h)))

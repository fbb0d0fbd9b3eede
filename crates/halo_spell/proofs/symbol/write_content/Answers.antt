-- A joint status is written as a list, with its mark where it has one, and another by itself, where it has none.
use Rattle.std.proofs.Common.{inl}
use Rattle.halo_status.proofs.LivesNamed.{names_below_members}
use Rattle.halo_status.proofs.Shapes.{tree_of-Joint}
use Rattle.halo_spell.proofs.Marks.{no_mark}
use Rattle.halo_spell.proofs.symbol.write_content.Goals as goal

pub write_members-requires : goal.write_members-requires
write_members-requires c = names_below_members _ _ c.in-Joint.members (inl c.in-Joint.is) c.requires.lives

pub returns-in-Joint : goal.returns-in-Joint
returns-in-Joint c = rw (c.in-Joint.is, tree_of-Joint c.in-Joint.members) c.write_members.ensures

pub returns-in-Life : goal.returns-in-Life
returns-in-Life c = rw (no_mark _ _ c.in-Life.is c.requires.mark) c.write_status.ensures

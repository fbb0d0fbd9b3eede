use Rattle.halo_lines.proofs.Room.{values-have-room}
use Rattle.halo_lines.proofs.laws.values_have_room.Goals as goal

pub returns : goal.returns
returns c = values-have-room

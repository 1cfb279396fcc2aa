use Rattle.lists.proofs.Rotations.{turned_right}
use Rattle.lists.proofs.insert_slot.Goals as goal

pub returns : goal.returns
returns g c =
    turned_right c.args.slots.now c.rotate_right.new.self c.args.len c.args.i c.args.x c.requires.0 c.requires.1
    c.rotate_right.ensures.after

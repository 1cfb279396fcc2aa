use Rattle.lists.proofs.Rotations.{turned_left}
use Rattle.lists.proofs.remove_slot.Goals as goal

pub returns : goal.returns
returns g c =
    turned_left c.args.slots.now c.rotate_left.new.self c.args.rest c.args.i c.requires.0 c.requires.1
    c.rotate_left.ensures.after

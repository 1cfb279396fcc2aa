use Rattle.std.proofs.Common.{◌≤◌, sym, subst, rules, arith}
use Rattle.stores.proofs.TableLaws.{drop-sound}
use Rattle.stores.specs.TableSound.{TableSound}
use Rattle.stores.proofs.table.Table.take_out.Goals as goal

pub invariant_of-self : goal.invariant_of-self
invariant_of-self c =
    let did = c.drop_slot-gone.ensures in
    let list = c.drop_slot-gone.new.list in
    let t = c.args.self.now in
    let fewer : list.len ≤ t.len = grind (arith, did.len) in
    record {
      sound =
          subst (TableSound t.number t.clock t.capacity list.len) (sym (search rules))
          (drop-sound t.sound list.len list.slots.now did.room c.args.path c.requires did.held fewer);
    }

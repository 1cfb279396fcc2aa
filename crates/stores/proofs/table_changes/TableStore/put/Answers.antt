use Rattle.std.proofs.Common.{sym, subst, rules}
use Rattle.stores.proofs.TableLaws.{put-sound}
use Rattle.stores.specs.TableSound.{TableSound}
use Rattle.stores.proofs.table_changes.TableStore.put.Goals as goal

pub invariant_of-self : goal.invariant_of-self
invariant_of-self c =
    let did = c.put_slot-put.ensures in
    let list = c.put_slot-put.new.list in
    let t = c.args.self.now in
    record {
      sound =
          subst (TableSound t.number t.clock t.capacity list.len) (sym (search rules))
          (put-sound t.sound list.len list.slots.now did.room c.args.path c.args.entry c.stored_slot.result c.put_slot-put.result
          c.stored_slot.ensures did.answer did.len did.held);
    }

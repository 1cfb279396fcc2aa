use Rattle.std.proofs.Common.{arith}
use Rattle.stores.proofs.TableLaws.{blank-model, blank-sound}
use Rattle.stores.proofs.table.Table.make.Goals as goal

pub returns-clause-model : goal.returns-clause-model
returns-clause-model c =
    blank-model c.args.number c.args.capacity c.args.slots.now c.blank_root.result c.blank_root.ensures (omega arith)

pub invariant_of-result : goal.invariant_of-result
invariant_of-result c =
    record {
      sound =
          blank-sound c.args.number c.args.capacity c.args.slots.now c.blank_root.result c.blank_root.ensures (omega arith)
          (omega arith) (omega arith) (omega arith);
    }

use Rattle.std.proofs.Common.{◌≡◌, ◌++◌, take, drop, subst, arith}
use Rattle.stores.proofs.Slices.{removed, left-held, left-behind}
use Rattle.stores.specs.Slots.{drop as drop_slots, dropped}
use Rattle.stores.proofs.slots.drop_slot.Goals as goal

pub returns-in-Ok-clause-held : goal.returns-in-Ok-clause-held
returns-in-Ok-clause-held c =
    let list = c.args.list.now in
    let sought = rw c.filled.ensures at c.in-Ok.ensures.sought in
    let did = c.remove.ensures in
    let (fewer, held, _) =
    removed list.slots.now list.len c.args.path.number c.in-Ok.i c.requires.0 c.requires.1 sought _ _ _ _ _ did.answer did.len did.slots
    (omega arith) (omega arith) in
    subst (λ k. take k c.remove.new.self.slots.now ≡ drop_slots (take list.len list.slots.now) c.args.path.number) (omega (arith, fewer)) held

pub returns-in-Ok-clause-behind : goal.returns-in-Ok-clause-behind
returns-in-Ok-clause-behind c =
    let list = c.args.list.now in
    let sought = rw c.filled.ensures at c.in-Ok.ensures.sought in
    let did = c.remove.ensures in
    let (fewer, _, behind) =
    removed list.slots.now list.len c.args.path.number c.in-Ok.i c.requires.0 c.requires.1 sought _ _ _ _ _ did.answer did.len did.slots
    (omega arith) (omega arith) in
    subst (λ k. drop k c.remove.new.self.slots.now ≡ dropped (take list.len list.slots.now) c.args.path.number ++ drop list.len list.slots.now)
    (omega (arith, fewer)) behind

pub returns-in-Err-clause-held : goal.returns-in-Err-clause-held
returns-in-Err-clause-held c =
    let sought = rw c.filled.ensures at c.in-Err.ensures.sought in
    left-held c.args.list.now.slots.now c.args.list.now.len c.args.path.number _ sought

pub returns-in-Err-clause-behind : goal.returns-in-Err-clause-behind
returns-in-Err-clause-behind c =
    let sought = rw c.filled.ensures at c.in-Err.ensures.sought in
    left-behind c.args.list.now.slots.now c.args.list.now.len c.args.path.number _ sought

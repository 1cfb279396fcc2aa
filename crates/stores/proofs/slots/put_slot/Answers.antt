use Rattle.std.proofs.Common.{◌≡◌, ap, ◌∙◌, length, take, set, subst, arith}
use Rattle.stores.proofs.Slices.{set-held, set-len, inserted_there}
use Rattle.stores.specs.Slots.{put}
use Rattle.stores.proofs.slots.put_slot.Goals as goal

pub returns-in-Ok-clause-held : goal.returns-in-Ok-clause-held
returns-in-Ok-clause-held c =
    let list = c.args.list.now in
    let sought = rw c.filled.ensures at c.in-Ok.ensures.sought in
    ap (λ n. take n c.set.new.self.slots.now) c.set.ensures.len
    ∙ set-held list.slots.now list.len c.in-Ok.i c.args.slot c.requires.0 (omega arith) sought _
    (c.set.ensures.slots ∙ ap (λ j. set list.slots.now j c.args.slot) (omega arith))

pub returns-in-Ok-clause-len : goal.returns-in-Ok-clause-len
returns-in-Ok-clause-len c =
    let list = c.args.list.now in
    let sought = rw c.filled.ensures at c.in-Ok.ensures.sought in
    c.set.ensures.len ∙ set-len list.slots.now list.len c.in-Ok.i c.args.slot c.requires.0 (omega arith) sought

pub returns-else-list-most-clause-held : goal.returns-else-list-most-clause-held
returns-else-list-most-clause-held c =
    let list = c.args.list.now in
    let sought = rw c.filled.ensures at c.in-Err.ensures.sought in
    let did = c.insert.ensures in
    let (more, held, _) =
    inserted_there list.slots.now list.len c.in-Err.i c.args.slot c.requires.0 (omega arith) sought _ _ _ _ _ did.answer did.len
    did.slots (omega arith) (omega arith) in
    subst (λ k. take k c.insert.new.self.slots.now ≡ put (take list.len list.slots.now) c.args.slot) (omega (arith, more)) held

pub returns-else-list-most-clause-len : goal.returns-else-list-most-clause-len
returns-else-list-most-clause-len c =
    let list = c.args.list.now in
    let sought = rw c.filled.ensures at c.in-Err.ensures.sought in
    let did = c.insert.ensures in
    let (more, _, count) =
    inserted_there list.slots.now list.len c.in-Err.i c.args.slot c.requires.0 (omega arith) sought _ _ _ _ _ did.answer did.len
    did.slots (omega arith) (omega arith) in
    subst (λ k. k ≡ length (put (take list.len list.slots.now) c.args.slot)) (omega (arith, more)) count

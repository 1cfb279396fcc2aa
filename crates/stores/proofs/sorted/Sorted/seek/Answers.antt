use Rattle.std.proofs.Common.{subst, rules}
use Rattle.std.proofs.lemmas.List.Sorted.{answers_always}
use Rattle.stores.specs.declared.entry.Slot.{Slot}
use Rattle.stores.specs.Slots.{Sought}
use Rattle.stores.proofs.Searches.{search_is, sought_tells}
use Rattle.stores.proofs.sorted.Sorted.seek.Goals as goal

pub returns : goal.returns
returns c =
    let es = c.args.self.slots.now in
    let q = c.args.path.number in
    let found =
    search_is es q c.binary_search_by_key.result c.args.self.in_order
    c.binary_search_by_key.ensures.bound
    (c.binary_search_by_key.ensures.position (λ (s : Slot). s.path) (answers_always _ _ _ (λ f a r g h. search rules))) in
    let sought = subst (Sought es q) (search rules) found in record { answer = sought_tells es q _ sought; sought = sought }

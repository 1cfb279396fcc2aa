use Rattle.std.proofs.Common.{leb, ◌∙◌, rules}
use Rattle.std.proofs.lemmas.List.Sorted.{IsPartitionPoint-from_clause, IsPartitionedBy-leb}
use Rattle.stores.specs.Slots.{key}
use Rattle.stores.proofs.Searches.{at_most, keys_rise, next_is, got_mapped}
use Rattle.stores.proofs.sorted.Sorted.next.Goals as goal

pub returns : goal.returns
returns c =
    let es = c.args.self.slots.now in
    let q = c.args.path.number in
    let parted = IsPartitionedBy-leb key es q (keys_rise es c.args.self.in_order) in
    let point =
    IsPartitionPoint-from_clause (λ s. leb (key s) q) _ _ c.partition_point-i.ensures.partitioned parted
    (λ a r f k. search (rules, at_most)) in
    got_mapped es _ (λ s. s.path) c.get.result c.map.result c.get.ensures.lookup.3 c.map.ensures.cases (λ x y k. search rules)
    ∙ next_is es q _ c.partition_point-i.ensures.bound point

use Rattle.std.proofs.Common.{◌≡◌, take, refl, ap, ◌∙◌, rules, tests}
use Rattle.std.specs.List.{fold, prefix_len}
use Rattle.std.proofs.lemmas.Iterator.{YieldsList-from_slice}
use Rattle.std.proofs.lemmas.Iterator.Consumers.{fold_from_yields_List}
use Rattle.std.proofs.lemmas.Iterator.Search.{YieldsList-from_take_while}
use Rattle.paths.specs.Vectors.{lesser, greater}
use Rattle.paths.specs.declared.vector.Bounds.{Bounds}
use Rattle.stores.specs.Meaning.{least_at, greatest_at}
use Rattle.stores.proofs.Runs.{covered, with_slot, with_slot_is, run-join}
use Rattle.stores.proofs.sorted.Sorted.bounds.Goals as goal

pub returns : goal.returns
unfolding least_at greatest_at
returns c =
    let p = c.args.path in
    let es = c.args.self.slots.now in
    let ts = c.iter.result.rest.now in
    let at = c.lower_bound-first.ensures.count in
    let is = c.nearest_vector-nearest.ensures in
    let start : Bounds = record { least = c.nearest_vector-nearest.result; greatest = c.nearest_vector-nearest.result } in
    let folded : c.fold.result ≡ fold with_slot start (take (prefix_len (covered p) ts) ts) =
    fold_from_yields_List _ with_slot _ c.fold.result c.fold.ensures.ran
    (YieldsList-from_take_while _ (covered p) (YieldsList-from_slice ts cc) c.take_while.ensures.closure
    c.take_while.ensures.done (λ x b q k. search (rules, tests)))
    (λ a x b q k. search (rules, with_slot_is)) in
    record {
      least =
          ap (λ (b : Bounds). b.least.places) folded
          ∙ run-join lesser (λ b. b.least.places) (λ b s. refl) p es ts _ start c.args.self.in_order at c.iter.ensures.rest is;
      greatest =
          ap (λ (b : Bounds). b.greatest.places) folded
          ∙ run-join greater (λ b. b.greatest.places) (λ b s. refl) p es ts _ start c.args.self.in_order at c.iter.ensures.rest is;
    }

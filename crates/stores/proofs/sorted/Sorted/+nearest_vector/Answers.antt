use Rattle.std.proofs.Common.{◌≡◌, ℕ, cond, eqb, List, Some, None, sym, ap, ◌∙◌, arith}
use Rattle.paths.specs.Steps.{levels, parent}
use Rattle.paths.specs.declared.path.Path.{Path}
use Rattle.paths.proofs.Values.{path-lawful}
use Rattle.stores.specs.Meaning.{nearest}
use Rattle.stores.specs.Slots.{lookup}
use Rattle.stores.specs.declared.entry.Slot.{Slot}
use Rattle.stores.proofs.Bounds.{nearest-here, nearest_above}
use Rattle.stores.proofs.sorted.Sorted.+nearest_vector.Goals as goal

-- `Path::parent` gives q for p
module _ (p q : Path) (gives : Some q.number ≡ cond (eqb p.number 0) None (Some (parent levels p.number))) where
  told : parent levels p.number ≡ q.number
  told = read p.number (parent levels p.number) q.number gives
    where
      read : (n above q : ℕ) → Some q ≡ cond (eqb n 0) None (Some above) → above ≡ q
      read n above q e = grind arith

  nearest-parent : (es : List Slot) → lookup es p.number ≡ None → nearest es p.number ≡ nearest es q.number
  nearest-parent es none = nearest_above es p.number (path-lawful p) none ∙ ap (nearest es) told

pub returns-in-Some : goal.returns-in-Some
returns-in-Some t c =
    sym
    (nearest-here c.args.self.slots.now c.args.path.number c.in-Some.entry (sym c.in-Some.ensures))

pub returns-in-Some-parent : goal.returns-in-Some-parent
returns-in-Some-parent t c =
    c.nearest_vector.ensures
    ∙ sym
    (nearest-parent c.args.path c.in-Some-parent.above c.in-Some-parent.ensures c.args.self.slots.now
    (sym c.in-None.ensures))

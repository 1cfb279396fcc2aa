-- What is found among the entries that a sync gathers at its candidates.
use Rattle.std.proofs.Common.{◌≡◌, ℕ, Bool, false, cond, ◌||◌, eqb, List, [], ◌∷◌, ◌++◌, is_some, Some, None, Option, sym, refl, ◌∙◌, arith}
use Rattle.std.proofs.lemmas.Bool.{eqb-false, or_parts, true≢false}
use Rattle.paths.specs.declared.path.Path.{Path}
use Rattle.stores.specs.Climb.{first_of}
use Rattle.stores.specs.Meaning.{Model}
use Rattle.stores.specs.Slots.{lookup}
use Rattle.stores.specs.declared.entry.Entry.{Entry}
use Rattle.stores.specs.declared.entry.Slot.{Slot}
use Rattle.engine.specs.Acts.{slot_of}
use Rattle.engine.specs.Syncs.{with_path, with_paths, gather, candidates}

-- whether a path of number q is among these
abbrev pub has : ℕ → List Path → Bool
has q [] = false
has q (p ∷ ps) = eqb p.number q || has q ps

-- those and the inserted ones, and no others
has_with : (p : Path) (ps : List Path) (q : ℕ) → has q (with_path p ps) ≡ (eqb p.number q || has q ps)
has_with p [] q = refl
has_with p (r ∷ ps) q = grind (arith, has_with p ps q)

has_withs : (es : List Slot) (ps : List Path) (q : ℕ) → has q (with_paths es ps) ≡ (is_some (lookup es q) || has q ps)
has_withs [] ps q = refl
has_withs (s ∷ es) ps q = grind (arith, has_with s.path (with_paths es ps) q, has_withs es ps q)

pub not_some : {X : Type 0} (o : Option X) → is_some o ≡ false → o ≡ None
not_some None h = refl
not_some (Some x) h = absurd (true≢false h)

-- what is no candidate is not the path of the call, and is entered on neither side
pub no_candidate :
    (a b : Model) (p : Path) (q : ℕ) → has q (candidates a b p) ≡ false
    → (q ≡ p.number → ⊥) × (lookup a.entries q ≡ None) × (lookup b.entries q ≡ None)
no_candidate a b p q out =
    let on-b : List Path = with_paths b.entries [] in
    let entered : List Path = with_paths a.entries on-b in
    let (other, neither) = or_parts (eqb p.number q) (has q entered) (sym (has_with p entered q) ∙ out) in
    let (not_a, rest) =
    or_parts (is_some (lookup a.entries q)) (has q on-b) (sym (has_withs a.entries on-b q) ∙ neither) in
    let (not-b, _) = or_parts (is_some (lookup b.entries q)) false (sym (has_withs b.entries [] q) ∙ rest) in (
      λ e. eqb-false p.number q other (sym e),
      not_some (lookup a.entries q) not_a,
      not_some (lookup b.entries q) not-b,
    )

-- what is found where a slot may come first
pub lookup_slot :
    (p : Path) (o : Option Entry) (es : List Slot) (q : ℕ)
    → lookup (slot_of p o ++ es) q ≡ cond (eqb p.number q) (first_of o (lookup es q)) (lookup es q)
lookup_slot p None es q = grind arith
lookup_slot p (Some e) es q = refl

-- at a path that is gathered, what f gives there is found, and elsewhere nothing
pub gathered :
    (f : ℕ → Option Entry) (ps : List Path) (q : ℕ) → lookup (gather f ps) q ≡ cond (has q ps) (f q) None
gathered f [] q = refl
gathered f (p ∷ ps) q = lookup_slot p (f p.number) (gather f ps) q ∙ grind (arith, gathered f ps q)

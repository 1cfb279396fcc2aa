-- One panel at one leaf makes an act: what it has then.
use Rattle.std.proofs.Common.{◌≡◌, ◌⊎◌, List, [], ◌∷◌, Some, Option, sym, refl, ap, ◌∙◌, subst, inl, inr}
use Rattle.paths.specs.Values.{GradeParts, StampParts}
use Rattle.history.specs.History.{Act, stamps, with_act}
use Rattle.history.proofs.Reaching.{In, Reached, Overruled, in_front, in_behind, in_either, in_stamps, stamps_in, once-both}
use Rattle.history.proofs.Sides.{Born, EndsBy, Formed, Held}

-- the act of the stamp s, which is new, sets g and overrules the acts xs
module _ (xs : List Act) (s : StampParts) (g : Option GradeParts) (f : Formed xs) (new : Reached s xs → ⊥) where
  abbrev act : Act
  act = record { stamp = s; sets = g; overrules = stamps xs }

  last : In act (with_act xs s g)
  last = in_behind act xs (act ∷ []) (inl refl)

  cases : (x : Act) → In x (with_act xs s g) → In x xs ⊎ (x ≡ act)
  cases x m =
      elim (in_either x xs (act ∷ []) m) [ inl h ↦ inl h | inr (inl e) ↦ inr e | inr (inr h) ↦ absurd h ]

  earlier : (x : Act) → In x xs → In x (with_act xs s g)
  earlier x m = in_front x xs (act ∷ []) m

  not_overruled : Overruled s (with_act xs s g) → ⊥
  not_overruled (x, m, o) =
      elim (cases x m) [
        | inl h ↦ new (f.closed s (x, h, o))
        | inr e ↦ new (in_stamps s xs (subst (λ (t : Act). In s t.overrules) e o))
      ]

  born_later : (t : StampParts) → Born t xs → Born t (with_act xs s g)
  born_later t (y, k, m, e, sets, b) = (y, k, earlier y m, e, sets, b)

  pub act-formed :
      ((k : GradeParts) → g ≡ Some k → (k.stamp ≡ s) × ((k.birth ≡ s) ⊎ Born k.birth xs)) → Formed (with_act xs s g)
  act-formed well =
      record {
        once =
            once-both xs (act ∷ []) f.once ((λ (x, m, e). m), tt)
            (λ z m r. elim m [ inl e ↦ new (subst (λ (t : Act). Reached t.stamp xs) e r) | inr h ↦ h ]);
        closed =
            λ t (x, m, o). elim (cases x m) [
              | inl h ↦ let (y, n, e) = f.closed t (x, h, o) in (y, earlier y n, e)
              | inr is ↦
                  let (y, n, e) = in_stamps t xs (subst (λ (w : Act). In t w.overrules) is o) in (y, earlier y n, e)
            ];
        formed =
            λ x k m sets. elim (cases x m) [
              | inl h ↦ let (e, born) = f.formed x k h sets in (e, born_later k.birth born)
              | inr is ↦ of_act x k is sets
            ];
      }
    where
      of_act :
          (x : Act) (k : GradeParts) → x ≡ act → x.sets ≡ Some k → (k.stamp ≡ x.stamp) × Born k.birth (with_act xs s g)
      of_act x k is sets =
          let at : g ≡ Some k = sym (ap (λ (t : Act). t.sets) is) ∙ sets in
          let (e, birth) = well k at in (
            e ∙ sym (ap (λ (t : Act). t.stamp) is),
            elim birth [
              | inl b ↦ (act, k, last, sym b, at, refl)
              | inr born ↦ born_later k.birth born
            ],
          )

  -- what holds of g whichever birth it has
  others : (x : Act) (k : GradeParts) → In x (with_act xs s g) → x.sets ≡ Some k → (g ≡ Some k) ⊎ Overruled x.stamp (with_act xs s g)
  others x k m sets =
      elim (cases x m) [
        | inl h ↦ inr (act, last, stamps_in x xs h)
        | inr is ↦ inl (sym (ap (λ (t : Act). t.sets) is) ∙ sets)
      ]

  set_by :
      (k : GradeParts) → g ≡ Some k
      → (x : Act) × In x (with_act xs s g) × (x.sets ≡ Some k) × (Overruled x.stamp (with_act xs s g) → ⊥)
  set_by k is = (act, last, is, not_overruled)

  -- an act that carries no birth on: a removal, a choice, a write on an empty leaf
  pub ending_held : EndsBy g s → Held (with_act xs s g) g
  ending_held ends =
      record {
        others = others;
        set_by = set_by;
        alive =
            λ k is (x, m, _, o). not_overruled
            (x, m, subst (λ t. In t x.overrules) (subst (λ w. EndsBy w s) is ends) o);
        carried =
            λ t (y, k, m, e, sets, b). elim (cases y m) [
              | inl h ↦ inr (act, last, ends, subst (λ w. In w (stamps xs)) e (stamps_in y xs h))
              | inr is ↦ inl (k, sym (ap (λ (w : Act). w.sets) is) ∙ sets, b)
            ];
      }

  -- a write that carries on the birth of the grade j that is held
  pub carrying_held :
      (j k : GradeParts) → Held xs (Some j) → g ≡ Some k → k.birth ≡ j.birth → Held (with_act xs s g) g
  carrying_held j k held is birth =
      record {
        others = others;
        set_by = set_by;
        alive =
            λ l at (x, m, ends, o). elim (cases x m) [
              | inl h ↦ held.alive j refl (x, h, ends, subst (λ t. In t x.overrules) (same l at) o)
              | inr e ↦
                  let by : EndsBy g s = subst (λ (w : Act). EndsBy w.sets w.stamp) e ends in
                  old (sym (same l at) ∙ subst (λ w. EndsBy w s) at by)
            ];
        carried =
            λ t (y, l, m, e, sets, b). elim (cases y m) [
              | inl h ↦
                  elim (held.carried t (y, l, h, e, sets, b)) [
                    | inl (n, at, p) ↦ inl (k, is, birth ∙ ap (λ (w : GradeParts). w.birth) (some_same at) ∙ p)
                    | inr (x, v, ends, o) ↦ inr (x, earlier x v, ends, o)
                  ]
              | inr at ↦ inl (l, sym (ap (λ (w : Act). w.sets) at) ∙ sets, b)
            ];
      }
    where
      some_same : {X : Type 0} {x y : X} → Some x ≡ Some y → x ≡ y
      some_same e = cc

      same : (l : GradeParts) → g ≡ Some l → l.birth ≡ j.birth
      same l at = ap (λ (w : GradeParts). w.birth) (some_same (sym at ∙ is)) ∙ birth

      -- the birth that is carried on is older than the act
      old : j.birth ≡ s → ⊥
      old e =
          let (x, m, sets, _) = held.set_by j refl in
          let (y, _, n, p, _, _) = (f.formed x j m sets).1 in new (y, n, p ∙ e)

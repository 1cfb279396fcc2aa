-- What a panel knows and holds at one leaf after an act that was accepted.
use Rattle.std.proofs.Common.{◌≡◌, ℕ, ◌+◌, ◌-◌, ◌≤◌, max, Bool, true, false, cond, not, eqb, List, Some, None, Ok, Option, unwrap_or, sym, refl, ap, ◌∙◌, subst, arith}
use Rattle.std.specs.Option.{option_map}
use Rattle.std.proofs.lemmas.Bool.{and_parts, cond-true, cond-false, eq-eqb, ne_eqb, not-false}
use Rattle.paths.proofs.Places.{at_most_at, joined_at, put_at-at}
use Rattle.paths.specs.Parts.{stamp_parts, grade_parts, lawful_setting}
use Rattle.paths.specs.Steps.{levels, covers}
use Rattle.paths.specs.Vectors.{place, with_place, greater, at_most, same_places}
use Rattle.paths.specs.declared.fault.Fault.{Fault}
use Rattle.paths.specs.Values.{Grade, GradeParts, SettingParts}
use Rattle.paths.specs.declared.path.Path.{Path}
use Rattle.stores.proofs.Kept.{lawful-put, lawful_tick}
use Rattle.stores.specs.Climb.{first_of}
use Rattle.stores.specs.Meaning.{Model, Lawful, is_leaf, is_full, at_last, nearest, tick_model}
use Rattle.engine.proofs.Acting.{write_settles, remove_settles}
use Rattle.engine.proofs.ActsKeeping.{acts_keep_lawful}
use Rattle.engine.specs.Acts.{filled, next_stamp, written, removed_count, Writes, Removes}
use Rattle.engine.specs.Knowledge.{own, vector_at, grade_at, refuse_if}
use Rattle.engine.specs.declared.answers.Removal.{Removal}
use Rattle.history.specs.History.{written_grade}
use Rattle.history.specs.Law.{held, Leaf}

-- up to which time the acts of panel k are known at a path
abbrev pub known_at : Model → ℕ → ℕ → ℕ
known_at m q k = place (vector_at m q) k

-- a place of a vector with one place replaced
pub place_with :
    (v : List ℕ) (n x k : ℕ) → 1 ≤ n → 1 ≤ k → place (with_place v n x) k ≡ cond (eqb k n) x (place v k)
place_with v n x k hn hk = put_at-at v (n - 1) x (k - 1) ∙ ap (λ b. cond b x (place v k)) (grind arith)

pub own-place : (m : Model) (q : ℕ) → known_at m q m.number.number ≡ m.clock
unfolding vector_at
own-place m q =
    place_with (nearest m.entries q) m.number.number m.clock m.number.number m.number.low
    m.number.low
    ∙ cond-true (eqb m.number.number m.number.number) _ _ (eq-eqb m.number.number m.number.number refl)

pub same_place : (v w : List ℕ) (k : ℕ) → same_places v w ≡ true → place v k ≡ place w k
same_place v w k h =
    let (le, ge) = and_parts (at_most v w) (at_most w v) h in
    omega (arith, at_most_at v w le (k - 1), at_most_at w v ge (k - 1))

-- the greater of both vectors, with the panel's clock in its own place
pub own-greater :
    (m : Model) (v w : List ℕ) (k : ℕ) → 1 ≤ k
    → place (own m (greater v w)) k ≡ cond (eqb k m.number.number) m.clock (max (place v k) (place w k))
own-greater m v w k hk =
    place_with (greater v w) m.number.number m.clock k m.number.low hk
    ∙ ap (cond (eqb k m.number.number) m.clock) (joined_at max refl v w (k - 1))

-- the panel m, which becomes n, has made an act; at q it knew up to v before the tick, and now holds g
pub record Acted (m n : Model) (q : ℕ) (v : ℕ → ℕ) (g : Option GradeParts) : Type 0 where
  pub own : known_at n q m.number.number ≡ m.clock + 1
  pub rest : (k : ℕ) → 1 ≤ k → (k ≡ m.number.number → ⊥) → known_at n q k ≡ v k
  pub holds : held n q ≡ g

-- the store after it
pub record Ticked (m n : Model) : Type 0 where
  pub number : n.number ≡ m.number
  pub clock : n.clock ≡ m.clock + 1
  pub lawful : Lawful n

-- a tick moves the own place only
pub tick_acted :
    (m n : Model) (q : ℕ) (v : List ℕ) (g : Option GradeParts) → n.number ≡ m.number → n.clock ≡ m.clock
    → at_last m ≡ false → same_places (vector_at n q) v ≡ true → held n q ≡ g
    → Acted m (tick_model n) q (place v) g
unfolding vector_at
tick_acted m n q v g number clock early same holds =
    record {
      own =
          subst (λ (k : ℕ). known_at (tick_model n) q k ≡ m.clock + 1) (ap (λ p. p.number) number)
          (own-place (tick_model n) q ∙ cond-false (at_last n) _ _ (ap (λ c. eqb c 1000000) clock ∙ early)
          ∙ ap (λ c. c + 1) clock);
      rest =
          λ k hk other. (let off : eqb k n.number.number ≡ false =
          ne_eqb k n.number.number (λ e. other (e ∙ ap (λ p. p.number) number)) in
          place_with (nearest n.entries q) n.number.number _ k n.number.low hk ∙ cond-false _ _ _ off
          ∙ sym
          (place_with (nearest n.entries q) n.number.number n.clock k n.number.low hk
          ∙ cond-false _ _ _ off)
          ∙ same_place (vector_at n q) v k same);
      holds = holds;
    }

pub tick_ticked :
    (m n : Model) → n.number ≡ m.number → n.clock ≡ m.clock → at_last m ≡ false → Lawful n → Ticked m (tick_model n)
tick_ticked m n number clock early law =
    record {
      number = number;
      clock =
          cond-false (at_last n) _ _ (ap (λ c. eqb c 1000000) clock ∙ early) ∙ ap (λ c. c + 1) clock;
      lawful = lawful_tick n law;
    }

-- what a chain of refusals that gives none tells
none_first : (b : Bool) (f : Fault) (o : Option Fault) → first_of (refuse_if b f) o ≡ None → (b ≡ false) × (o ≡ None)
none_first true f o h = grind arith
none_first false f o h = (refl, h)

none_of_two :
    (a b : Bool) (e f : Fault) → first_of (refuse_if a e) (refuse_if b f) ≡ None → (a ≡ false) × (b ≡ false)
none_of_two a b e f h =
    let (first, rest) = none_first a e (refuse_if b f) h in (first, (none_first b f None (alone b rest)).0)
  where
    alone : (b : Bool) → refuse_if b f ≡ None → first_of (refuse_if b f) None ≡ None
    alone true h = h
    alone false h = h

pub none_of_four :
    (a b c d : Bool) (e f g i : Fault)
    → first_of (refuse_if a e) (first_of (refuse_if b f) (first_of (refuse_if c g) (refuse_if d i))) ≡ None
    → (a ≡ false) × (b ≡ false) × (c ≡ false) × (d ≡ false)
none_of_four a b c d e f g i h =
    let (first, rest) = none_first a e (first_of (refuse_if b f) (first_of (refuse_if c g) (refuse_if d i))) h in
    let (second, last) = none_first b f (first_of (refuse_if c g) (refuse_if d i)) rest in
    let (third, fourth) = none_of_two c d g i last in (first, second, third, fourth)

pub mapped_cond :
    (b : Bool) (x y : Option Grade) → option_map grade_parts (cond b x y) ≡ cond b (option_map grade_parts x) (option_map grade_parts y)
mapped_cond true x y = refl
mapped_cond false x y = refl

-- the grade that a write sets, by what was held
written_is : (m : Model) (p : ℕ) (k : SettingParts) → written m p k ≡ written_grade (held m p) k (next_stamp m)
written_is m p k =
    ap (λ s. record { knobs = filled k; stamp = next_stamp m; birth = s }) (go (grade_at m p))
  where
    go :
        (o : Option Grade)
        → unwrap_or (option_map (λ g. stamp_parts g.birth) o) (next_stamp m)
        ≡ unwrap_or (option_map (λ g. g.birth) (option_map grade_parts o)) (next_stamp m)
    go None = refl
    go (Some g) = refl

module _ (m : Model) (p : Path) (k : SettingParts) (clock : ℕ) (n : Model) (law : Lawful m) (w : Writes m p k (Ok clock) n) where
  accepts :
      (not (is_leaf p.number) ≡ false) × (not (lawful_setting k) ≡ false) × (is_full m p.number ≡ false)
      × (at_last m ≡ false)
  accepts =
      none_of_four (not (is_leaf p.number)) (not (lawful_setting k)) (is_full m p.number) (at_last m) _ _ _ _ w.0

  pub write_ticked : Ticked m n
  write_ticked =
      let (g, _, is) = w.2 in
      subst (Ticked m) (sym is) (tick_ticked m _ refl refl accepts.3 (lawful-put m p _ law))

  pub write_acted :
      (q : ℕ) → Leaf q
      → Acted m n q (known_at m q) (cond (eqb p.number q) (Some (written_grade (held m p.number) k (next_stamp m))) (held m q))
  write_acted q leaf =
      let (g, parts, is) = w.2 in
      let settles = write_settles m p g q law (not-false (is_leaf p.number) accepts.0) accepts.2 leaf.0 in
      subst (λ t. Acted m t q (known_at m q) (cond (eqb p.number q) (Some (written_grade (held m p.number) k (next_stamp m))) (held m q)))
      (sym is)
      (tick_acted m _ q (vector_at m q) _ refl refl accepts.3 settles.vector
      (ap (option_map grade_parts) settles.grade ∙ mapped_cond (eqb p.number q) (Some g) (grade_at m q)
      ∙ ap (λ x. cond (eqb p.number q) (Some x) (held m q)) (parts ∙ written_is m p.number k)))

module _ (m : Model) (p : Path) (r : Removal) (n : Model) (law : Lawful m) (w : Removes m p (Ok r) n) where
  remove-time : at_last m ≡ false
  remove-time = (none_of_two (eqb (removed_count p.number m.entries) 0) (at_last m) _ _ w.0).1

  pub remove_ticked : Ticked m n
  remove_ticked =
      subst (Ticked m) (sym w.2)
      (tick_ticked m _ refl refl remove-time ((acts_keep_lawful m law).removal p.number))

  pub remove_acted :
      (q : ℕ) → Leaf q → Acted m n q (known_at m q) (cond (covers levels p.number q) None (held m q))
  remove_acted q leaf =
      let settles = remove_settles m p.number q law leaf.0 in
      subst (λ t. Acted m t q (known_at m q) (cond (covers levels p.number q) None (held m q))) (sym w.2)
      (tick_acted m _ q (vector_at m q) _ refl refl remove-time settles.vector
      (ap (option_map grade_parts) settles.grade ∙ mapped_cond (covers levels p.number q) None (grade_at m q)))

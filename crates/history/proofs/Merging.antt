-- What a sync makes of one leaf: the leaf rule decides it, or a folder above it was passed by, or it is not covered.
use Rattle.std.proofs.Common.{◌≡◌, ℕ, zero, suc, Bool, true, false, cond, not, ◌&&◌, ◌||◌, eqb, List, [], ◌∷◌, ◌++◌, is_some, Some, None, Option, sym, refl, ap, ◌∙◌, subst, arith}
use Rattle.std.proofs.lemmas.Bool.{and_parts, and_from, and_left, cond-true, cond-false, eqb-true, both_ways}
use Rattle.paths.proofs.Levels.{covering, parents}
use Rattle.paths.specs.Steps.{levels, is_number, covers, parent}
use Rattle.paths.specs.Vectors.{greater, at_most, same_places}
use Rattle.paths.specs.declared.path.Path.{Path}
use Rattle.stores.specs.Climb.{first_of, climb, climb_by}
use Rattle.stores.specs.Meaning.{Model, Lawful, is_leaf, with_entries}
use Rattle.engine.proofs.Acting.{settled-grade}
use Rattle.engine.proofs.Gathered.{has, no_candidate}
use Rattle.engine.proofs.Passing.{passed_is_known}
use Rattle.engine.proofs.Settling.{leaf_empty, entry_touched, entry_kept, sync_settles}
use Rattle.engine.specs.Knowledge.{own, vector_at, grade_of, grade_at, outcome_at, is_conflict}
use Rattle.engine.specs.Syncs.{grade_after, passed, below_passed, touched, leaf_outcome, vector_after, candidates, entries_after, report_of, reports, conflicts_of}
use Rattle.engine.specs.declared.answers.Reported.{Reported}
use Rattle.engine.specs.declared.leaf.Outcome.{Outcome}
use Rattle.engine.specs.declared.leaf.Outcome.TheVariants.{Kept, Taken, Removed, Conflict}
use Rattle.history.specs.History.{is_among}
use Rattle.history.specs.Runs.{leaves_of}

-- what a climb finds covers the path it starts from
climbed :
    {X : Type 0} (f : ℕ → Option X) (n p : ℕ) → is_number levels p ≡ true → is_some (climb_by n f p) ≡ true
    → (r : ℕ) × (is_number levels r ≡ true) × (covers levels r p ≡ true) × (is_some (f r) ≡ true)
unfolding climb_by
climbed f zero p lawful h = (p, lawful, (covering levels).itself p, h)
climbed f (suc n) p lawful h = go (f p) refl h (climbed f n (parent levels p) ((parents levels).parent_lawful p lawful))
  where
    go :
        (o : Option _) → f p ≡ o → is_some (first_of o (climb_by n f (parent levels p))) ≡ true
        → (is_some (climb_by n f (parent levels p)) ≡ true
        → (r : ℕ) × (is_number levels r ≡ true) × (covers levels r (parent levels p) ≡ true) × (is_some (f r) ≡ true))
        → (r : ℕ) × (is_number levels r ≡ true) × (covers levels r p ≡ true) × (is_some (f r) ≡ true)
    go None is some above =
        let (r, k, over, found) = above some in
        (r, k, (covering levels).through r (parent levels p) p over ((parents levels).parent_covers p lawful), found)
    go (Some x) is some above = (p, lawful, (covering levels).itself p, ap is_some is)

module _ (a b : Model) (top : ℕ) (q : ℕ) (lawful : is_number levels q ≡ true) where
  -- below a folder that is passed by, the destination knows all that the source knows
  below-known : below_passed a b top q ≡ true → at_most (vector_at a q) (vector_at b q) ≡ true
  unfolding below_passed climb
  below-known h =
      let (_, some) = and_parts (not (eqb q 0)) _ h in
      let (r, k, over, found) =
      climbed (λ p. cond (passed a b top p) (Some (tt {0})) None) levels (parent levels q)
      ((parents levels).parent_lawful q lawful) some in
      (passed_is_known a b top r q k lawful (mark (passed a b top r) found)
      ((covering levels).through r (parent levels q) q over ((parents levels).parent_covers q lawful))).known
    where
      mark : (b : Bool) → is_some (cond b (Some (tt {0})) None) ≡ true → b ≡ true
      mark b h = grind arith

  -- what is covered and not touched is below such a folder
  not_touched : covers levels top q ≡ true → touched a b top q ≡ false → below_passed a b top q ≡ true
  unfolding touched
  not_touched over t = go (below_passed a b top q) refl
    where
      go : (c : Bool) → below_passed a b top q ≡ c → below_passed a b top q ≡ true
      go true is = is
      go false is = absurd (both_ways (touched a b top q) t (and_from (covers levels top q) _ over (ap not is)))

  module _ (leaf : is_leaf q ≡ true) where
    -- a leaf is no folder that is passed by
    leaf-not_passed : passed a b top q ≡ false
    unfolding passed
    leaf-not_passed = grind (arith, leaf)

    outcome-touched : touched a b top q ≡ true → leaf_outcome a b top q ≡ outcome_at a b q
    unfolding leaf_outcome
    outcome-touched t = cond-true (touched a b top q && is_leaf q) _ None (and_from (touched a b top q) (is_leaf q) t leaf)

    outcome-apart : touched a b top q ≡ false → leaf_outcome a b top q ≡ None
    unfolding leaf_outcome
    outcome-apart t = cond-false (touched a b top q && is_leaf q) _ None (and_left (touched a b top q) (is_leaf q) t)

    vector-touched :
        touched a b top q ≡ true
        → vector_after a b top q
        ≡ cond (is_conflict (outcome_at a b q)) (vector_at b q) (own b (greater (vector_at a q) (vector_at b q)))
    unfolding vector_after
    vector-touched t =
        (λ i. cond (t i && not (leaf-not_passed i) && not (is_conflict (outcome-touched t i)))
        (own b (greater (vector_at a q) (vector_at b q))) (vector_at b q))
        ∙ turn (is_conflict (outcome_at a b q))
      where
        turn :
            (c : Bool)
            → cond (not c) (own b (greater (vector_at a q) (vector_at b q))) (vector_at b q)
            ≡ cond c (vector_at b q) (own b (greater (vector_at a q) (vector_at b q)))
        turn true = refl
        turn false = refl

    vector-apart : touched a b top q ≡ false → vector_after a b top q ≡ vector_at b q
    unfolding vector_after
    vector-apart t =
        λ i. cond (t i && not (passed a b top q) && not (is_conflict (leaf_outcome a b top q)))
        (own b (greater (vector_at a q) (vector_at b q))) (vector_at b q)

-- which leaves are reported
reported-one :
    (q : ℕ) (p : Path) (o : Option Outcome) (rs : List Reported)
    → is_among q (leaves_of (report_of p o ++ rs)) ≡ ((eqb p.number q && is_conflict o) || is_among q (leaves_of rs))
reported-one q p None rs = grind arith
reported-one q p (Some Kept) rs = grind arith
reported-one q p (Some Taken) rs = grind arith
reported-one q p (Some Removed) rs = grind arith
reported-one q p (Some (Conflict k)) rs = grind arith

reported-all :
    (f : ℕ → Option Outcome) (q : ℕ) (ps : List Path)
    → is_among q (leaves_of (reports f ps)) ≡ (has q ps && is_conflict (f q))
reported-all f q [] = refl
reported-all f q (p ∷ ps) =
    reported-one q p (f p.number) (reports f ps)
    ∙ ap (λ t. (eqb p.number q && is_conflict (f p.number)) || t) (reported-all f q ps)
    ∙ go (eqb p.number q) refl
  where
    go :
        (b : Bool) → eqb p.number q ≡ b
        → ((b && is_conflict (f p.number)) || (has q ps && is_conflict (f q))) ≡ ((b || has q ps) && is_conflict (f q))
    go true e =
        ap (λ r. is_conflict (f r) || (has q ps && is_conflict (f q))) (eqb-true p.number q e) ∙ grind arith
    go false e = refl

pub reported_is :
    (a b : Model) (top : Path) (q : ℕ)
    → is_among q (leaves_of (conflicts_of a b top)) ≡ is_conflict (leaf_outcome a b top.number q)
reported_is a b top q =
    reported-all (leaf_outcome a b top.number) q (candidates a b top) ∙ go (has q (candidates a b top)) refl
  where
    go :
        (b' : Bool) → has q (candidates a b top) ≡ b'
        → (b' && is_conflict (leaf_outcome a b top.number q)) ≡ is_conflict (leaf_outcome a b top.number q)
    go true is = refl
    go false is =
        let (_, none-a, none-b) = no_candidate a b top q is in
        sym (ap is_conflict (leaf_empty a b top.number q none-a none-b))

-- what a sync does at one leaf, and whether it reports it
pub data Merged (a b after : Model) (q : ℕ) (reported : Bool) : Type 0 where
  judged :
      reported ≡ is_conflict (outcome_at a b q)
      → grade_at after q ≡ grade_after (outcome_at a b q) (grade_at a q) (grade_at b q)
      → same_places (vector_at after q)
      (cond (is_conflict (outcome_at a b q)) (vector_at b q) (own b (greater (vector_at a q) (vector_at b q))))
      ≡ true
      → Merged a b after q reported
  passed_by :
      reported ≡ false → grade_at after q ≡ grade_at b q → same_places (vector_at after q) (vector_at b q) ≡ true
      → at_most (vector_at a q) (vector_at b q) ≡ true → Merged a b after q reported

module _
    (a b : Model) (top : Path) (lawful-b : Lawful b) (q : ℕ) (lawful : is_number levels q ≡ true)
    (leaf : is_leaf q ≡ true) where
  abbrev synced : Model
  synced = with_entries b (entries_after a b top)

  -- an entry that stays
  stays :
      touched a b top.number q ≡ false
      → (is_among q (leaves_of (conflicts_of a b top)) ≡ false) × (grade_at synced q ≡ grade_at b q)
      × (same_places (vector_at synced q) (vector_at b q) ≡ true)
  stays t = (
    reported_is a b top q ∙ ap is_conflict (outcome-apart a b top.number q lawful leaf t),
    ap grade_of ((sync_settles a b top q lawful-b lawful).found ∙ entry_kept a b top.number q t),
    subst (λ v. same_places (vector_at synced q) v ≡ true) (vector-apart a b top.number q lawful leaf t)
        (sync_settles a b top q lawful-b lawful).vector,
  )

  pub merged : covers levels top.number q ≡ true → Merged a b synced q (is_among q (leaves_of (conflicts_of a b top)))
  merged over = go (touched a b top.number q) refl
    where
      go : (t : Bool) → touched a b top.number q ≡ t → Merged a b synced q (is_among q (leaves_of (conflicts_of a b top)))
      go true t =
          let is = outcome-touched a b top.number q lawful leaf t in
          judged (reported_is a b top q ∙ ap is_conflict is)
          (ap grade_of ((sync_settles a b top q lawful-b lawful).found ∙ entry_touched a b top.number q t)
          ∙ settled-grade b q (vector_after a b top.number q) _ _
          ∙ ap (λ o. grade_after o (grade_at a q) (grade_at b q)) is)
          (subst (λ v. same_places (vector_at synced q) v ≡ true) (vector-touched a b top.number q lawful leaf t)
          (sync_settles a b top q lawful-b lawful).vector)
      go false t =
          let (r, g, v) = stays t in passed_by r g v (below-known a b top.number q lawful (not_touched a b top.number q lawful over t))

  -- a leaf that is not covered
  pub apart :
      covers levels top.number q ≡ false
      → (is_among q (leaves_of (conflicts_of a b top)) ≡ false) × (grade_at synced q ≡ grade_at b q)
      × (same_places (vector_at synced q) (vector_at b q) ≡ true)
  unfolding touched
  apart out = stays (and_left (covers levels top.number q) (not (below_passed a b top.number q)) out)

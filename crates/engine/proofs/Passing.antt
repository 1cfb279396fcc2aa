-- A folder that is passed by holds nothing new.
use Rattle.std.proofs.Common.{◌≡◌, ℕ, ◌-◌, true, not, ◌&&◌, List, ap}
use Rattle.std.proofs.lemmas.Bool.{and_parts, and_from}
use Rattle.paths.proofs.Levels.{covering}
use Rattle.paths.proofs.Places.{at_most_through, put_at_most}
use Rattle.paths.specs.Steps.{levels, covers}
use Rattle.paths.specs.Vectors.{at_most}
use Rattle.stores.proofs.Bounds.{bounds}
use Rattle.stores.specs.Meaning.{Model, is_leaf, nearest, least_at, greatest_at}
use Rattle.engine.specs.Knowledge.{own, vector_at}
use Rattle.engine.specs.SyncLaws.{PassedIsKnown}
use Rattle.engine.specs.Syncs.{passed}

own-at_most : (m : Model) (v w : List ℕ) → at_most v w ≡ true → at_most (own m v) (own m w) ≡ true
own-at_most m v w h = put_at_most v w (m.number.number - 1) m.clock h

-- A's bound above and B's bound below, with a step on either side
between :
    (a b : Model) (u v w x : List ℕ) → at_most u v ≡ true → at_most (own a v) (own b w) ≡ true → at_most w x ≡ true
    → at_most (own a u) (own b x) ≡ true
between a b u v w x low mid high =
    at_most_through (own a u) (own b w) (own b x)
    (at_most_through (own a u) (own a v) (own b w) (own-at_most a u v low) mid) (own-at_most b w x high)

pub passed_is_known : PassedIsKnown
unfolding passed vector_at
passed_is_known a b top p q lawful-p lawful-q pass over =
    let (here, least-most) = and_parts (covers levels top p && not (is_leaf p)) _ pass in
    let (covered, folder) = and_parts (covers levels top p) (not (is_leaf p)) here in
    let in-a = bounds a.entries p q lawful-p lawful-q over in
    let in_b = bounds b.entries p q lawful-p lawful-q over in
    record {
      known =
          between a b (nearest a.entries q) (greatest_at a.entries p) (least_at b.entries p)
          (nearest b.entries q) in-a.greatest least-most in_b.least;
      inherited =
          λ folder-q. and_from (covers levels top q && not (is_leaf q)) _
          (and_from (covers levels top q) (not (is_leaf q)) ((covering levels).through top p q covered over) (ap not folder-q))
          (between a b (greatest_at a.entries q) (greatest_at a.entries p) (least_at b.entries p)
          (least_at b.entries q) in-a.greatest_narrows least-most in_b.least_narrows);
    }

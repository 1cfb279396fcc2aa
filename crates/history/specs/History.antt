-- The causal history of a run of calls: which acts have reached which panel at which leaf. It is told each call's
-- arguments, whether the call was accepted, and the leaves that a sync reports, and nothing of a store.
use Rattle.std.specs.Prelude.{ℕ, ◌+◌, Bool, true, false, cond, not, ◌&&◌, ◌||◌, List, [], ◌∷◌, ◌++◌, is_some, Some, None, filter, Option, ◌==◌}
use Rattle.std.specs.Option.{option_map, unwrap_or}
use Rattle.paths.specs.Steps.{levels, covers}
use Rattle.paths.specs.Values.{GradeParts, KnobsParts, SettingParts, StampParts}
use Rattle.paths.specs.declared.path.Path.{Path}
use Rattle.engine.specs.Acts.{filled}
use Rattle.engine.specs.LeafRule.{same_stamp}
use Rattle.engine.specs.declared.answers.Choice.{Choice}
use Rattle.engine.specs.declared.answers.Choice.TheVariants.{Ours, Theirs, Third}
use Rattle.engine.specs.declared.answers.Conflict.{Conflict}

-- an act as it is noted at a leaf: its stamp, the grade that it set there or none, and the acts that it overrules
pub record Act : Type 0 where
  pub stamp : StampParts
  pub sets : Option GradeParts
  pub overrules : List StampParts

abbrev pub among : StampParts → List StampParts → Bool
among s [] = false
among s (t ∷ ts) = same_stamp s t || among s ts

abbrev pub stamps : List Act → List StampParts
stamps [] = []
stamps (x ∷ xs) = x.stamp ∷ stamps xs

-- the act of a stamp is noted
unfoldable pub reached : StampParts → List Act → Bool
reached s xs = among s (stamps xs)

-- a noted act overrules the act of a stamp
unfoldable pub overruled : StampParts → List Act → Bool
overruled s [] = false
overruled s (x ∷ xs) = among s x.overrules || overruled s xs

-- an act that set a grade and that none of xs overrules
abbrev pub stands : List Act → Act → Bool
stands xs x = is_some x.sets && not (overruled x.stamp xs)

unfoldable pub standing : List Act → List Act
standing xs = filter (stands xs) xs

abbrev pub first_set : List Act → Option GradeParts
first_set [] = None
first_set (x ∷ xs) = x.sets

-- a side: the grade of the earliest act that set one and that none overrules
unfoldable pub side : List Act → Option GradeParts
side xs = first_set (standing xs)

-- two sides differ unless both are empty or have one stamp
abbrev pub differ : Option GradeParts → Option GradeParts → Bool
differ None None = false
differ None (Some h) = true
differ (Some g) None = true
differ (Some g) (Some h) = not (same_stamp g.stamp h.stamp)

-- a grade, if there is one, is overruled
abbrev pub is_overruled : Option GradeParts → List Act → Bool
is_overruled None xs = true
is_overruled (Some g) xs = overruled g.stamp xs

abbrev pub not_overruled : Option GradeParts → List Act → Bool
not_overruled None xs = true
not_overruled (Some g) xs = not (overruled g.stamp xs)

-- a side's birth, if it has one, is the other's too or has not reached the other's panel, whose acts are ys
abbrev pub birth_shared : Option GradeParts → Option GradeParts → List Act → Bool
birth_shared None h ys = true
birth_shared (Some g) None ys = not (reached g.birth ys)
birth_shared (Some g) (Some h) ys = same_stamp g.birth h.birth || not (reached g.birth ys)

-- the side g of a panel with the acts xs prevails over the side h of one with ys: the other's grade is overruled on its
-- own panel, its own is not on the other's, and its birth is shared or new there
abbrev pub prevails_over : Option GradeParts → List Act → Option GradeParts → List Act → Bool
prevails_over g xs h ys = is_overruled h xs && not_overruled g ys && birth_shared g h ys

unfoldable pub prevails : List Act → List Act → Bool
prevails xs ys = prevails_over (side xs) xs (side ys) ys

pub record History : Type 0 where
  -- how many acts each panel has made
  pub acts : ℕ → ℕ
  -- the acts that reached a panel at a leaf, by the numbers of both
  pub notes : ℕ → ℕ → List Act

-- before any call
abbrev pub unwritten : History
unwritten = record { acts = λ k. 0; notes = λ k q. [] }

-- the acts xs of another panel arrive after ys, but for those that are there
unfoldable pub arrived : List Act → List Act → List Act
arrived ys xs = ys ++ filter (λ x. not (reached x.stamp ys)) xs

-- an act of this stamp and grade is noted; it overrules what was noted before
abbrev pub with_act : List Act → StampParts → Option GradeParts → List Act
with_act xs s g = xs ++ (record { stamp = s; sets = g; overrules = stamps xs } ∷ [])

-- the stamp of a panel's next act: the panel, and its acts counted up to this one
abbrev pub next_act : History → ℕ → StampParts
next_act h k = record { panel = k; time = h.acts k + 1 }

-- the panel k makes an act, after which it has these notes
abbrev pub act_on : History → ℕ → (ℕ → List Act) → History
act_on h k notes =
    record {
      acts = λ j. cond (j == k) (h.acts k + 1) (h.acts j);
      notes = λ j q. cond (j == k) (notes q) (h.notes j q);
    }

-- a write keeps the birth of the side before it
abbrev pub written_grade : Option GradeParts → SettingParts → StampParts → GradeParts
written_grade before k s =
    record { knobs = filled k; stamp = s; birth = unwrap_or (option_map (λ g. g.birth) before) s }

abbrev pub note_write : History → ℕ → Path → SettingParts → History
note_write h k p knobs =
    act_on h k
    (λ q. cond (p.number == q) (with_act (h.notes k q) (next_act h k) (Some (written_grade (side (h.notes k q)) knobs (next_act h k))))
    (h.notes k q))

-- a removal touches the covered leaves whose side is a grade
abbrev pub note_removal : History → ℕ → Path → History
note_removal h k p =
    act_on h k
    (λ q. cond (covers levels p.number q && is_some (side (h.notes k q))) (with_act (h.notes k q) (next_act h k) None)
    (h.notes k q))

abbrev pub is_among : ℕ → List ℕ → Bool
is_among q [] = false
is_among q (r ∷ rs) = q == r || is_among q rs

-- an accepted sync brings over what the source has, at each covered leaf that is not reported
abbrev pub note_sync : History → (source destination : ℕ) → Path → List ℕ → History
note_sync h a b p reported =
    record {
      acts = h.acts;
      notes =
          λ j q. cond (j == b && covers levels p.number q && not (is_among q reported))
          (arrived (h.notes b q) (h.notes a q)) (h.notes j q);
    }

abbrev pub picked : Choice → (theirs ours : Option GradeParts) → Option KnobsParts
picked Ours theirs ours = option_map (λ g. g.knobs) ours
picked Theirs theirs ours = option_map (λ g. g.knobs) theirs
picked (Third k) theirs ours = Some (filled k)

-- a chosen grade has the stamp of the choice as its birth
abbrev pub chosen_grade : Option KnobsParts → StampParts → Option GradeParts
chosen_grade k s = option_map (λ knobs. record { knobs = knobs; stamp = s; birth = s }) k

-- a choice goes by the sides before it; what the source has arrives first
abbrev pub note_choice : History → (source destination : ℕ) → Path → Choice → History
note_choice h a b p c =
    act_on h b
    (λ q. cond (p.number == q)
    (with_act (arrived (h.notes b q) (h.notes a q)) (next_act h b)
    (chosen_grade (picked c (side (h.notes a q)) (side (h.notes b q))) (next_act h b)))
    (h.notes b q))

pub data Call : Type 0 where
  write : (panel : ℕ) → Path → SettingParts → Call
  remove : (panel : ℕ) → Path → Call
  -- with the places of the work list and of the report list
  sync : (source destination : ℕ) → Path → (work report : ℕ) → Call
  open_conflict : (source destination : ℕ) → Path → Call
  choose : (source destination : ℕ) → Conflict → Choice → Call
  leave : Conflict → Call

-- a call, whether it was accepted, and the leaves that it reported
pub record Event : Type 0 where
  pub call : Call
  pub accepted : Bool
  pub reported : List ℕ

abbrev pub note_call : Call → List ℕ → History → History
note_call (write k p s) reported h = note_write h k p s
note_call (remove k p) reported h = note_removal h k p
note_call (sync a b p work report) reported h = note_sync h a b p reported
note_call (open_conflict a b p) reported h = h
note_call (choose a b t c) reported h = note_choice h a b t.meeting.path c
note_call (leave t) reported h = h

-- a refused call notes nothing
abbrev pub note : Event → History → History
note e h = cond e.accepted (note_call e.call e.reported h) h

-- the history of calls, the latest first
abbrev pub history : List Event → History
history [] = unwritten
history (e ∷ es) = note e (history es)

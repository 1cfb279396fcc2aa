-- Values of equal numbers are equal: a range has only one proof.
use Rattle.std.proofs.Common.{◌≡◌, ◌≤◌, Bool, true, false, T, refl}
use mathlib.Core.HLevel.{is_prop→PathP}
use native.Mathlib.Bridge.{le_prop}
use lib.Dec.{T_prop}
use Rattle.paths.specs.Steps.{levels, is_number}
use Rattle.paths.specs.declared.path.Path.{Path}
use Rattle.paths.specs.declared.stamp.Panel.{Panel}
use Rattle.paths.specs.declared.stamp.Time.{Time}

-- what a path keeps of its number, as an equation
pub path-lawful : (p : Path) → is_number levels p.number ≡ true
path-lawful p = of_test (is_number levels p.number) p.lawful
  where
    of_test : (b : Bool) → T b → b ≡ true
    of_test true t = refl
    of_test false t = absurd t

pub path_is : (p q : Path) → p.number ≡ q.number → p ≡ q
path_is p q e =
    λ i. record {
      number = e i;
      lawful =
          is_prop→PathP (λ j. T (is_number levels (e j))) (λ j. T_prop (is_number levels (e j))) p.lawful q.lawful i;
    }

pub panel_is : (p q : Panel) → p.number ≡ q.number → p ≡ q
panel_is p q e =
    λ i. record {
      number = e i;
      low = is_prop→PathP (λ j. 1 ≤ e j) (λ j. le_prop) p.low q.low i;
      high = is_prop→PathP (λ j. e j ≤ 8) (λ j. le_prop) p.high q.high i;
    }

pub time_is : (s t : Time) → s.value ≡ t.value → s ≡ t
time_is s t e =
    λ i. record {
      value = e i;
      low = is_prop→PathP (λ j. 1 ≤ e j) (λ j. le_prop) s.low t.low i;
      high = is_prop→PathP (λ j. e j ≤ 1000000) (λ j. le_prop) s.high t.high i;
    }

-- A request makes a run longer, and so the law holds after it.
use Rattle.std.proofs.Common.{◌≡◌, ℕ, zero, suc, ◌+◌, ◌<◌, Bool, true, cond, eqb, ltb, List, [], ◌∷◌, ◌++◌, length, get_or, take, drop, is_ok, Ok, Err, Result, sym, refl, ap, ap₂, ◌∙◌, subst, inl, inr, append_assoc, append-nil, arith, length-append, length-drop}
use Rattle.std.proofs.lemmas.List.{take_more}
use Rattle.std.proofs.lemmas.Bool.{and_parts, cases_eq, ltb-false}
use Rattle.paths.specs.declared.fault.Fault.{Fault}
use Rattle.engine.specs.Syncs.{entries_after, conflicts_of}
use Rattle.engine.specs.declared.answers.Reported.{Reported}
use Rattle.history.specs.History.{Call, write, remove, sync, open_conflict, choose, leave, Event}
use Rattle.history.specs.Requests.{names, all_name, Performs, report_left, calls, Asks, AsksAll, Point, Performed, PerformsAll, Continues}
use Rattle.history.specs.Runs.{Stores, OnlyAt, leaves_of, Does, among_panels, Run}
use Rattle.history.specs.declared.request.Answer.{Answer}
use Rattle.history.specs.declared.request.Request.{Request}
use Rattle.history.specs.declared.request.Request.TheVariants.{Write, Remove, Sync, Inspect, Resolve}
use Rattle.history.proofs.Running.{stores_follow_history}
use Rattle.history.proofs.Ticking.{none_of_four}

-- the calls of a list of requests and of one behind it
asks_behind :
    (work report : ℕ) (qs : List Request) (q : Request) (early late : List Call) → AsksAll work report qs early
    → Asks work report q late → AsksAll work report (qs ++ (q ∷ [])) (late ++ early)
asks_behind work report [] q early late none asked = ([], late, refl, asked, ap (λ cs. late ++ cs) none ∙ append-nil late)
asks_behind work report (p ∷ qs) q early late (later, first, rest, here, is) asked = (
  late ++ later,
  first,
  asks_behind work report qs q later late rest asked,
  here,
  ap (λ cs. late ++ cs) is ∙ sym (append_assoc late later first),
)

module _ (has : ℕ → Bool) where
  -- one call more
  one_more :
      (Asked : List Call → Type 0) (c : Call) (accepted : Bool) (reported : List ℕ) (before after : Stores)
      → Asked (c ∷ []) → among_panels has c ≡ true → Does c accepted reported before after
      → Continues has Asked before after
  one_more Asked c accepted reported before after asked among does es run =
      let e : Event = record { call = c; accepted = accepted; reported = reported } in
      let longer : Run has (e ∷ es) after = (before, run, record { names = among; does = does }) in
      (e ∷ [], asked, longer, stores_follow_history has (e ∷ es) after longer)

  -- two calls more, the first of which changes nothing
  two-more :
      (Asked : List Call → Type 0) (c d : Call) (first second : Bool) (before after : Stores) → Asked (d ∷ (c ∷ []))
      → among_panels has c ≡ true → among_panels has d ≡ true → Does c first [] before before
      → Does d second [] before after → Continues has Asked before after
  two-more Asked c d first second before after asked among-c among-d does-c does-d es run =
      let e : Event = record { call = c; accepted = first; reported = [] } in
      let f : Event = record { call = d; accepted = second; reported = [] } in
      let opened : Run has (e ∷ es) before = (before, run, record { names = among-c; does = does-c }) in
      let longer : Run has (f ∷ (e ∷ es)) after = (before, opened, record { names = among-d; does = does-d }) in
      (f ∷ (e ∷ []), asked, longer, stores_follow_history has (f ∷ (e ∷ es)) after longer)

  unchanged : (k : ℕ) (before after : Stores) → after k ≡ before k → OnlyAt k before after → (j : ℕ) → after j ≡ before j
  unchanged k before after here only j =
      elim (cases_eq j k) [
        | inl e ↦ subst (λ i. after i ≡ before i) (sym e) here
        | inr other ↦ only j other
      ]

  pub continues :
      (work report : ℕ) (q : Request) (before after : Stores) (r : Result Answer Fault) → names has q ≡ true
      → Performs work report q before r after → Continues has (Asks work report q) before after
  continues work report (Write k p s) before after r named ((x, _, w), only) =
      one_more (Asks work report (Write k p s)) (write k.number p s) (is_ok x) [] before after refl named (x, refl, w, only)
  continues work report (Remove k p) before after r named ((x, _, w), only) =
      one_more (Asks work report (Remove k p)) (remove k.number p) (is_ok x) [] before after refl named (x, refl, w, only)
  continues work report (Sync m) before after r named ((x, _, w), only) =
      one_more (Asks work report (Sync m)) (sync m.source.number m.destination.number m.path work report) (is_ok x)
      (cond (is_ok x) (leaves_of (conflicts_of (before m.source.number) (before m.destination.number) m.path)) [])
      before after refl named
      (x, refl, w, only, refl)
  continues work report (Inspect m) before after r named ((Ok t, _, w), each) =
      two-more (Asks work report (Inspect m)) (open_conflict m.source.number m.destination.number m.path) (leave t)
      true true before after (inr (t, refl)) named refl (Ok t, refl, w, λ j. refl) each
  continues work report (Inspect m) before after r named ((Err f, _, w), each) =
      one_more (Asks work report (Inspect m)) (open_conflict m.source.number m.destination.number m.path)
      (is_ok {T = Unit {0}} (Err f)) [] before after (inl refl) named (Err f, refl, w, each)
  continues work report (Resolve m c) before after r named ((x, _, inl (f, w, _, same)), only) =
      one_more (Asks work report (Resolve m c)) (open_conflict m.source.number m.destination.number m.path)
      (is_ok {T = Unit {0}} (Err f)) [] before after (inl refl) named
      (Err f, refl, w, unchanged m.destination.number before after same only)
  continues work report (Resolve m c) before after r named ((x, _, inr (t, w, chosen)), only) =
      two-more (Asks work report (Resolve m c)) (open_conflict m.source.number m.destination.number m.path)
      (choose m.source.number m.destination.number t c) true (is_ok x) before after (inr (t, refl)) named named
      (Ok t, refl, w, λ j. refl) (x, refl, chosen, only)

  -- no request leaves the run as it is
  pub none_asked : (work report : ℕ) (s : Stores) → Continues has (AsksAll work report []) s s
  none_asked work report s es run = ([], refl, run, stores_follow_history has es s run)

  -- one request behind others
  pub asked_more :
      (work report : ℕ) (qs : List Request) (q : Request) (before between after : Stores)
      → Continues has (AsksAll work report qs) before between → Continues has (Asks work report q) between after
      → Continues has (AsksAll work report (qs ++ (q ∷ []))) before after
  asked_more work report qs q before between after first then es run =
      let (fs, asked, longer, _) = first es run in
      let (ks, also, longest, _) = then (fs ++ es) longer in
      let whole : Run has ((ks ++ fs) ++ es) after =
      subst (λ all. Run has all after) (sym (append_assoc ks fs es)) longest in (
        ks ++ fs,
        subst (AsksAll work report (qs ++ (q ∷ []))) (sym (calls-both ks fs))
            (asks_behind work report qs q (calls fs) (calls ks) asked also),
        whole,
        stores_follow_history has ((ks ++ fs) ++ es) after whole,
      )
    where
      calls-both : (ks fs : List Event) → calls (ks ++ fs) ≡ calls ks ++ calls fs
      calls-both [] fs = refl
      calls-both (k ∷ ks) fs = ap (λ cs. k.call ∷ cs) (calls-both ks fs)

  -- the next of the requests, where the lists still have the places that they had
  pub asked_next :
      (work report work' report' : ℕ) (qs : List Request) (i : ℕ) (q : Request) (start before after : Stores)
      → work' ≡ work → report' ≡ report → i < length qs → q ≡ get_or qs i q
      → Continues has (AsksAll work report (take i qs)) start before
      → Continues has (Asks work' report' q) before after
      → Continues has (AsksAll work report (take (i + 1) qs)) start after
  asked_next work report work' report' qs i q start before after w n lt is first then =
      let here : Continues has (Asks work report q) before after =
      subst (λ (t : ℕ × ℕ). Continues has (Asks t.0 t.1 q) before after) (ap₂ (λ a b. (a, b)) w n) then in
      let more : take i qs ++ (q ∷ []) ≡ take (i + 1) qs =
      ap (λ r. take i qs ++ (r ∷ [])) is ∙ sym (take_more qs i q lt) in
      subst (λ rs. Continues has (AsksAll work report rs) start after) more
      (asked_more work report (take i qs) q start before after first here)

-- a request behind others
performs_behind :
    (work report : ℕ) (qs : List Request) (q : Request) (start here after : Point) (r : Result Answer Fault)
    → PerformsAll work report qs start here → Performed work report q here r after
    → PerformsAll work report (qs ++ (q ∷ [])) start after
performs_behind work report [] q start here after r none does =
    (r, after, subst (λ p. Performed work report q p r after) none does, refl)
performs_behind work report (p ∷ qs) q start here after r (x, between, first, rest) does =
    (x, between, first, performs_behind work report qs q between here after r rest does)

-- the next of the requests, where the lists still have the places that they had
pub performed_next :
    (work report work' report' : ℕ) (qs : List Request) (i : ℕ) (q : Request) (start here after : Point)
    (r : Result Answer Fault) → work' ≡ work → report' ≡ report → i < length qs → q ≡ get_or qs i q
    → PerformsAll work report (take i qs) start here → Performed work' report' q here r after
    → PerformsAll work report (take (i + 1) qs) start after
performed_next work report work' report' qs i q start here after r w n lt is first does =
    let does_here : Performed work report q here r after =
    subst (λ (t : ℕ × ℕ). Performed t.0 t.1 q here r after) (ap₂ (λ a b. (a, b)) w n) does in
    let more : take i qs ++ (q ∷ []) ≡ take (i + 1) qs =
    ap (λ t. take i qs ++ (t ∷ [])) is ∙ sym (take_more qs i q lt) in
    subst (λ rs. PerformsAll work report rs start after) more
    (performs_behind work report (take i qs) q start here after r first does_here)

-- each of the requests names panels that take part
pub named_at :
    (has : ℕ → Bool) (qs : List Request) → all_name has qs ≡ true → (i : ℕ) (q : Request) → q ≡ get_or qs i q
    → i < length qs → names has q ≡ true
named_at has [] all i q is lt = absurd (omega arith)
named_at has (p ∷ qs) all zero q is lt =
    subst (λ t. names has t ≡ true) (sym is) (and_parts (names has p) (all_name has qs) all).0
named_at has (p ∷ qs) all (suc i) q is lt =
    named_at has qs (and_parts (names has p) (all_name has qs) all).1 i q is (omega arith)

-- a report list keeps its places
pub report-room :
    (work : ℕ) (q : Request) (before after : Stores) (r : Result Answer Fault) (places : List Reported)
    → Performs work (length places) q before r after → length (report_left q before (is_ok r) places) ≡ length places
report-room work (Write k p s) before after r places done = refl
report-room work (Remove k p) before after r places done = refl
report-room work (Sync m) before after r places ((Err f, is, w), only) =
    ap (λ x. length (report_left (Sync m) before (is_ok x) places)) is
report-room work (Sync m) before after r places ((Ok tally, is, w), only) =
    let conflicts = conflicts_of (before m.source.number) (before m.destination.number) m.path in
    let (_, _, fits, _) =
    none_of_four (eqb (before m.source.number).number.number (before m.destination.number).number.number)
    (ltb work (before m.destination.number).capacity) (ltb (length places) (length conflicts))
    (ltb (before m.destination.number).capacity
    (length (entries_after (before m.source.number) (before m.destination.number) m.path))) _ _ _ _ w.0 in
    ap (λ x. length (report_left (Sync m) before (is_ok x) places)) is
    ∙ length-append conflicts (drop (length conflicts) places)
    ∙ omega (arith, length-drop (length conflicts) places, ltb-false (length places) (length conflicts) fits)
report-room work (Inspect m) before after r places done = refl
report-room work (Resolve m c) before after r places done = refl

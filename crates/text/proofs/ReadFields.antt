-- The fields of a text, read one after the other into an array of blanks.
use Rattle.std.proofs.Common.{◌≡◌, ℕ, suc, ◌+◌, ◌-◌, ◌<◌, ◌≤◌, List, [], ◌∷◌, ◌++◌, length, take, drop, drop-cons, set, replicate, get_or, Some, None, Option, sym, refl, ap, ◌∙◌, subst, add-one, arith, append_assoc, append-nil, length-set}
use Rattle.std.proofs.lemmas.List.{length-replicate, take_more_set, take_all, drop-set-lt}
use Rattle.std.proofs.lemmas.Iterator.Adapters.{option_map_id}
use Rattle.std.specs.Option.{option_map}
use Rattle.text.specs.Fields.{before_first, after_first, FieldsRead}

module _ {X : Type 0} (R : List ℕ → Option X → Type 0) (mark : ℕ) (blank : X) (many : ℕ) where
  -- the first i fields are read, the others are blank, and what is made of what is left of the text tells what of the whole
  pub record Reading (text : List ℕ) (i : ℕ) (fields : List X) (rest : Option (List ℕ)) : Type 0 where
    pub size : length fields ≡ many
    pub blanks : drop i fields ≡ replicate (many - i) blank
    pub whole : (all : Option (List X)) → FieldsRead R mark blank (many - i) rest all
        → FieldsRead R mark blank many (Some text) (option_map (λ xs. take i fields ++ xs) all)

option_map-append :
    {X : Type 0} (xs : List X) (x : X) (o : Option (List X))
    → option_map (λ ys. xs ++ ys) (option_map (λ ys. x ∷ ys) o) ≡ option_map (λ ys. (xs ++ (x ∷ [])) ++ ys) o
option_map-append xs x None = refl
option_map-append xs x (Some ys) = ap Some (sym (append_assoc xs (x ∷ []) ys))

-- the first of the blanks, and those behind it
first_blank :
    {X : Type 0} {blank : X} {many : ℕ} (i : ℕ) (fields : List X) → i < many → length fields ≡ many
    → drop i fields ≡ replicate (many - i) blank → (x : X)
    → (get_or fields i x ≡ blank) × (drop (i + 1) fields ≡ replicate (many - (i + 1)) blank)
first_blank {blank = blank} {many = many} i fields lt size blanks x =
    let more : many - i ≡ suc (many - (i + 1)) = omega arith in
    let all : drop i fields ≡ blank ∷ replicate (many - (i + 1)) blank = blanks ∙ ap (λ n. replicate n blank) more in
    let split : drop i fields ≡ get_or fields i x ∷ drop (suc i) fields = drop-cons fields i x (omega arith) in
    let same : i + 1 ≡ suc i = add-one i in
    (cc, cc)

module _ {X : Type 0} {R : List ℕ → Option X → Type 0} {mark : ℕ} {blank : X} {many : ℕ} where
  pub none_read : (text : List ℕ) → Reading R mark blank many text 0 (replicate many blank) (Some text)
  none_read text =
      let same : many - 0 ≡ many = omega arith in
      record {
        size = length-replicate many blank;
        blanks = ap (λ n. replicate n blank) (sym same);
        whole =
            λ all read.
            subst (FieldsRead R mark blank many (Some text)) (sym (option_map_id all))
            (subst (λ n. FieldsRead R mark blank n (Some text) all) same read);
      }

  -- a field more is x
  more :
      {text : List ℕ} {i : ℕ} {fields fields' : List X} {rest : Option (List ℕ)} (rest' : Option (List ℕ)) (x : X)
      → Reading R mark blank many text i fields rest → i < many
      → ((all : Option (List X)) → FieldsRead R mark blank (many - (i + 1)) rest' all
      → FieldsRead R mark blank (many - i) rest (option_map (λ xs. x ∷ xs) all))
      → fields' ≡ set fields i x → Reading R mark blank many text (i + 1) fields' rest'
  more {text = text} {i = i} {fields = fields} {fields' = fields'} rest' x r lt next put_here =
      let front : take (i + 1) fields' ≡ take i fields ++ (x ∷ []) =
      ap (take (i + 1)) put_here ∙ take_more_set fields i x (omega (arith, r.size)) in
      record {
        size = ap length put_here ∙ length-set fields i x ∙ r.size;
        blanks =
            ap (drop (i + 1)) put_here ∙ drop-set-lt (i + 1) fields i x (omega arith)
            ∙ (first_blank i fields lt r.size r.blanks x).1;
        whole =
            λ all read.
            subst (FieldsRead R mark blank many (Some text))
            (option_map-append (take i fields) x all ∙ ap (λ ys. option_map (λ xs. ys ++ xs) all) (sym front))
            (r.whole (option_map (λ xs. x ∷ xs) all) (next all read));
      }

  -- a field is read
  pub one_more :
      {text u : List ℕ} {i : ℕ} {fields fields' : List X} {rest rest' : Option (List ℕ)} (x : X)
      → Reading R mark blank many text i fields rest → i < many → rest ≡ Some u → R (before_first mark u) (Some x)
      → fields' ≡ set fields i x → rest' ≡ after_first mark u → Reading R mark blank many text (i + 1) fields' rest'
  one_more {i = i} {rest = rest} {rest' = rest'} x r lt is one put_here left =
      let n = many - (i + 1) in
      let here : many - i ≡ suc n = omega arith in
      more rest' x r lt
      (λ all read.
      subst (λ k. FieldsRead R mark blank k rest (option_map (λ xs. x ∷ xs) all)) (sym here)
      (subst (λ o. FieldsRead R mark blank (suc n) o (option_map (λ xs. x ∷ xs) all)) (sym is)
      (Some x, one, (all, subst (λ o. FieldsRead R mark blank n o all) left read, refl))))
      put_here

  -- what stands at a place that is not read yet
  pub unread :
      {text : List ℕ} {i : ℕ} {fields : List X} {rest : Option (List ℕ)}
      → Reading R mark blank many text i fields rest → i < many → (x : X) → get_or fields i x ≡ blank
  unread {i = i} {fields = fields} r lt x = (first_blank i fields lt r.size r.blanks x).0

  -- the text has ended, and a field stays blank
  pub none_more :
      {text : List ℕ} {i : ℕ} {fields fields' : List X} {rest rest' : Option (List ℕ)} (y : X)
      → Reading R mark blank many text i fields rest → i < many → rest ≡ None
      → fields' ≡ set fields i y → y ≡ blank → rest' ≡ rest → Reading R mark blank many text (i + 1) fields' rest'
  none_more {i = i} {fields = fields} {rest = rest} {rest' = rest'} y r lt is put_here none left =
      let n = many - (i + 1) in
      let here : many - i ≡ suc n = omega arith in
      more rest' y r lt
      (λ all read.
      let others : all ≡ Some (replicate n blank) = subst (λ o. FieldsRead R mark blank n o all) (left ∙ is) read in
      subst (λ o. FieldsRead R mark blank (many - i) o (option_map (λ xs. y ∷ xs) all)) (sym is)
      (ap (option_map (λ xs. y ∷ xs)) others
      ∙ ap (λ z. Some (z ∷ replicate n blank)) none
      ∙ ap (λ k. Some (replicate k blank)) (sym here)))
      put_here

  pub all_read :
      {text : List ℕ} {i : ℕ} {fields : List X} {rest : Option (List ℕ)}
      → Reading R mark blank many text i fields rest → many ≤ i → rest ≡ None
      → FieldsRead R mark blank many (Some text) (Some fields)
  all_read {text = text} {i = i} {fields = fields} {rest = rest} r le is =
      let none : many - i ≡ 0 = omega arith in
      subst (FieldsRead R mark blank many (Some text))
      (ap Some (append-nil (take i fields) ∙ take_all i fields (omega (arith, r.size))))
      (r.whole (Some [])
      (subst (λ k. FieldsRead R mark blank k rest (Some [])) (sym none)
      (subst (λ o. FieldsRead R mark blank 0 o (Some [])) (sym is) refl)))

  pub too_many :
      {text u : List ℕ} {i : ℕ} {fields : List X} {rest : Option (List ℕ)}
      → Reading R mark blank many text i fields rest → many ≤ i → rest ≡ Some u
      → FieldsRead R mark blank many (Some text) None
  too_many {i = i} {rest = rest} r le is =
      let none : many - i ≡ 0 = omega arith in
      r.whole None
      (subst (λ k. FieldsRead R mark blank k rest None) (sym none)
      (subst (λ o. FieldsRead R mark blank 0 o None) (sym is) refl))

  pub no_field :
      {text u : List ℕ} {i : ℕ} {fields : List X} {rest : Option (List ℕ)}
      → Reading R mark blank many text i fields rest → i < many → rest ≡ Some u → R (before_first mark u) None
      → FieldsRead R mark blank many (Some text) None
  no_field {i = i} {rest = rest} r lt is missing =
      let n = many - (i + 1) in
      let here : many - i ≡ suc n = omega arith in
      r.whole None
      (subst (λ k. FieldsRead R mark blank k rest None) (sym here)
      (subst (λ o. FieldsRead R mark blank (suc n) o None) (sym is) (None, missing, refl)))

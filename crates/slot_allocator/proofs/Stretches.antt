-- Virtual code as a list of stretches, and the rest of it from a place on.
use Rattle.std.proofs.Common.{◌≡◌, ℕ, ◌^◌, List, [], ◌∷◌, ◌++◌, All, Bool, true, false, Option, Some, refl, sym, ap, ◌∙◌, subst, arith}
use Rattle.std.specs.Prelude.{if◌then◌else◌}
use Rattle.std.proofs.lemmas.Bool.{false≢true}
use Rattle.std.proofs.lemmas.Option.{none-some, same_Some}
use Rattle.std.proofs.lemmas.List.Elements.{All-head, All-tail}
use Rattle.vcode.specs.Machines.{Machine, Kind, Plain, Mark, Load, Store, Copy}
use Rattle.vcode.specs.Execution.{is_mark, code_behind}
use Rattle.vcode.specs.VirtualCode.{among, results, ReadsOnly, Flows, NamesBelow, IsMark, UsesNoSlot, HasNoMark, IsStretch, joined, MCode, IsVirtualCode}

pub names_append : {I : Type 0} (m : Machine I) (limit : ℕ) (xs ys : List I) → NamesBelow m limit xs → NamesBelow m limit ys → NamesBelow m limit (xs ++ ys)
names_append m limit [] ys a b = b
names_append m limit (x ∷ xs) ys a b = (a.0, names_append m limit xs ys a.1 b)

no_slot_append : {I : Type 0} (m : Machine I) (xs ys : List I) → UsesNoSlot m xs → UsesNoSlot m ys → UsesNoSlot m (xs ++ ys)
no_slot_append m [] ys a b = b
no_slot_append m (x ∷ xs) ys a b = (a.0, no_slot_append m xs ys a.1 b)

joined_names : {I : Type 0} (m : Machine I) (ss : List (List I)) → All (IsStretch m) ss → NamesBelow m (2 ^ 31) (joined ss)
joined_names m [] h = tt
joined_names m (s ∷ ss) h = names_append m (2 ^ 31) s (joined ss) (All-head (IsStretch m) s ss h).names (joined_names m ss (All-tail (IsStretch m) s ss h))

joined_no_slot : {I : Type 0} (m : Machine I) (ss : List (List I)) → All (IsStretch m) ss → UsesNoSlot m (joined ss)
joined_no_slot m [] h = tt
joined_no_slot m (s ∷ ss) h = no_slot_append m s (joined ss) (All-head (IsStretch m) s ss h).slots (joined_no_slot m ss (All-tail (IsStretch m) s ss h))

pub names_of_code : {I : Type 0} (m : Machine I) (c : MCode I) → IsVirtualCode m c → NamesBelow m (2 ^ 31) c.code
names_of_code m c h = subst (NamesBelow m (2 ^ 31)) (sym h.code) (joined_names m h.stretches h.each)

pub no_slot_of_code : {I : Type 0} (m : Machine I) (c : MCode I) → IsVirtualCode m c → UsesNoSlot m c.code
no_slot_of_code m c h = subst (UsesNoSlot m) (sym h.code) (joined_no_slot m h.stretches h.each)

same_head : {A : Type 0} (x y : A) (xs ys : List A) → x ∷ xs ≡ y ∷ ys → x ≡ y
same_head x y xs ys e = cc

same_tail : {A : Type 0} (x y : A) (xs ys : List A) → x ∷ xs ≡ y ∷ ys → xs ≡ ys
same_tail x y xs ys e = cc

no_cons : {A : Type 0} (x : A) (xs : List A) → x ∷ xs ≡ [] → ⊥
no_cons x xs e = cc

module _ (I : Type 0) (m : Machine I) where
  -- what is left of a stretch, in which these registers have a value, and stretches behind it
  pub record Rest (known : List ℕ) (is : List I) : Type 0 where
    pub front : List I
    pub more : List (List I)
    pub parts : is ≡ front ++ joined more
    pub flows : Flows m known front
    pub each : All (IsStretch m) more

  pub all_rest : (ss : List (List I)) → All (IsStretch m) ss → Rest [] (joined ss)
  all_rest ss h = record { front = []; more = ss; parts = refl; flows = tt; each = h }

  -- the next instruction reads among some of the registers, and leaves a rest
  pub record Step (known : List ℕ) (i : I) (is : List I) : Type 0 where
    pub used : List ℕ
    pub fewer : (r : ℕ) → among r used ≡ true → among r known ≡ true
    pub reads : ReadsOnly used (m.operands i)
    pub rest : Rest (results (m.operands i) ++ used) is

  in_stretch : (known : List ℕ) (i j : I) (is js : List I) (ss : List (List I)) → i ≡ j → is ≡ js ++ joined ss → Flows m known (j ∷ js) → All (IsStretch m) ss → (used : List ℕ) → ((r : ℕ) → among r known ≡ true → among r used ≡ true) → Step used i is
  in_stretch known i j is js ss ei es flows each used fewer = record {
    used = known;
    fewer = fewer;
    reads = subst (λ x. ReadsOnly known (m.operands x)) (sym ei) flows.0;
    rest = record { front = js; more = ss; parts = es; flows = subst (λ x. Flows m (results (m.operands x) ++ known) js) (sym ei) flows.1; each = each };
  }

  next_stretch : (known : List ℕ) (i : I) (is : List I) (ss : List (List I)) → i ∷ is ≡ joined ss → All (IsStretch m) ss → Step known i is
  next_stretch known i is [] e each = absurd (no_cons i is e)
  next_stretch known i is ([] ∷ ss) e each = let some = (All-head (IsStretch m) [] ss each).some in absurd (omega (arith, some))
  next_stretch known i is ((j ∷ js) ∷ ss) e each =
      let s = All-head (IsStretch m) (j ∷ js) ss each in
      in_stretch [] i j is js ss (same_head i j is (js ++ joined ss) e) (same_tail i j is (js ++ joined ss) e) s.flows (All-tail (IsStretch m) (j ∷ js) ss each) known (λ r a. absurd (false≢true a))

  step_by_parts : (known : List ℕ) (i : I) (is front : List I) (ss : List (List I)) → i ∷ is ≡ front ++ joined ss → Flows m known front → All (IsStretch m) ss → Step known i is
  step_by_parts known i is [] ss e flows each = next_stretch known i is ss e each
  step_by_parts known i is (j ∷ js) ss e flows each =
      in_stretch known i j is js ss (same_head i j is (js ++ joined ss) e) (same_tail i j is (js ++ joined ss) e) flows each known (λ r a. a)

  pub step : (known : List ℕ) (i : I) (is : List I) → Rest known (i ∷ is) → Step known i is
  step known i is r = step_by_parts known i is r.front r.more r.parts r.flows r.each

  no_mark : (k : Kind) (l : ℕ) → (IsMark k → ⊥) → is_mark k l ≡ false
  no_mark Plain l n = refl
  no_mark (Mark k) l n = absurd (n tt)
  no_mark (Load z) l n = refl
  no_mark (Store z) l n = refl
  no_mark Copy l n = refl

  past_stretch : (l : ℕ) (is js : List I) → HasNoMark m is → code_behind m l (is ++ js) ≡ code_behind m l js
  past_stretch l [] js n = refl
  past_stretch l (i ∷ is) js n = rw (no_mark (m.kind i) l n.0) (past_stretch l is js n.1)

  pub mark_bare : (i : I) (k : Kind) (l : ℕ) → m.kind i ≡ k → is_mark k l ≡ true → m.operands i ≡ []
  mark_bare i Plain l e h = absurd (false≢true h)
  mark_bare i (Mark k) l e h = m.mark-bare i k e
  mark_bare i (Load z) l e h = absurd (false≢true h)
  mark_bare i (Store z) l e h = absurd (false≢true h)
  mark_bare i Copy l e h = absurd (false≢true h)

  behind_first : (b : Bool) (l : ℕ) (i : I) (is js : List I) (ss : List (List I)) (x : Option (List I)) → is_mark (m.kind i) l ≡ b → IsStretch m (i ∷ is) → All (IsStretch m) ss → code_behind m l (is ++ joined ss) ≡ x → (x ≡ Some js → Rest [] js) → (if b then Some (is ++ joined ss) else x) ≡ Some js → Rest [] js
  behind_first true l i is js ss x b s each ex go e =
      let bare = mark_bare i (m.kind i) l refl b in
      record {
        front = is;
        more = ss;
        each = each;
        parts = sym (same_Some (is ++ joined ss) js e);
        flows = subst (λ os. Flows m (results os ++ []) is) bare s.flows.1;
      }
  behind_first false l i is js ss x b s each ex go e = go e

  rest_by_label : (l : ℕ) (js : List I) (ss : List (List I)) → All (IsStretch m) ss → code_behind m l (joined ss) ≡ Some js → Rest [] js
  rest_by_label l js [] each e = absurd (none-some js e)
  rest_by_label l js ([] ∷ ss) each e = let some = (All-head (IsStretch m) [] ss each).some in absurd (omega (arith, some))
  rest_by_label l js ((i ∷ is) ∷ ss) each e =
      let s = All-head (IsStretch m) (i ∷ is) ss each in
      let more = All-tail (IsStretch m) (i ∷ is) ss each in
      behind_first (is_mark (m.kind i) l) l i is js ss (code_behind m l (is ++ joined ss)) refl s more refl
      (λ h. rest_by_label l js ss more (sym (past_stretch l is (joined ss) s.marks) ∙ h)) e

  -- behind a label nothing is known
  pub rest_behind : (l : ℕ) (code js : List I) (ss : List (List I)) → code ≡ joined ss → All (IsStretch m) ss → code_behind m l code ≡ Some js → Rest [] js
  rest_behind l code js ss e each h = rest_by_label l js ss each (sym (ap (λ is. code_behind m l is) e) ∙ h)

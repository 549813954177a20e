-- Bindings by the numbers of their names: what a new name, a new binding and a binding taken back leave.
use Rattle.std.proofs.Common.{◌≡◌, ℕ, zero, suc, ◌+◌, ◌-◌, ◌<◌, ◌≤◌, Bool, true, false, cond, eqb, List, [], ◌∷◌, ◌++◌, length, map, reverse, take, drop, get_or, set, Some, refl, sym, ap, subst, ◌∙◌, ⊎_elim, arith}
use Rattle.std.specs.Prelude.{Vec, slice_get}
use Rattle.std.specs.declared.alloc.Global.{Global}
use Rattle.std.proofs.lemmas.List.{append_assoc, map_push, reverse-append, length_push, length-map, take_at, drop-map, drop_more, get_or_append_left, get_or_push, get_or-set_same, get_or-set_other}
use Rattle.std.proofs.lemmas.Option.{get_or_from_slice_get, slice_get-get_or}
use Rattle.std.proofs.lemmas.Bool.{eq-eqb, ne_eqb, eqb-true, cond-true, cond-false, cases_eq, cases_lt}
use Rattle.indexmap.specs.Layout.{set_value_at, length-set_value_at}
use Rattle.c_ast.specs.InForce.{Binding}
use Rattle.names_in_force.specs.declared.bound.Bound.{Bound}
use Rattle.names_in_force.specs.Numbered.{Known, names_in, typedefs_in, named, made, Hide, HaveNames, AreNumbered}

abbrev pub bound_of : ℕ → Bool → Bool → Bound
bound_of number typedef before = record { number = number; typedef = typedef; before = before }

abbrev pub binding : List ℕ → Bool → Binding
binding name typedef = record { name = name; typedef = typedef }

-- ---- which numbers have names

pub have_push : (known : Known) (bs : List Bound) (b : Bound) → HaveNames known bs → b.number < length known → HaveNames known (bs ++ b ∷ [])
have_push known [] b h l = (l, tt)
have_push known (x ∷ bs) b h l = (h.0, have_push known bs b h.1 l)

pub have_front : (known : Known) (bs : List Bound) (b : Bound) → HaveNames known (bs ++ b ∷ []) → HaveNames known bs × (b.number < length known)
have_front known [] b h = (tt, h.0)
have_front known (x ∷ bs) b h = let r = have_front known bs b h.1 in ((h.0, r.0), r.1)

pub have_more : (known more : Known) (bs : List Bound) → length known ≤ length more → HaveNames known bs → HaveNames more bs
have_more known more [] l h = tt
have_more known more (b ∷ bs) l h = (omega (arith, h.0), have_more known more bs l h.1)

pub have_reverse : (known : Known) (bs : List Bound) → HaveNames known bs → HaveNames known (reverse bs)
have_reverse known [] h = tt
have_reverse known (b ∷ bs) h = subst (HaveNames known) (sym (reverse-append (b ∷ []) bs)) (have_push known (reverse bs) b (have_reverse known bs h.1) h.0)

made_none : (known : Known) (bs : List Bound) (n : ℕ) → HaveNames known bs → length known ≤ n → made bs n ≡ false
made_none known [] n h l = refl
made_none known (b ∷ bs) n h l =
    let k : b.number < length known = h.0 in
    ap (λ (c : Bool). cond c b.typedef (made bs n)) (ne_eqb b.number n (λ e. omega arith)) ∙ made_none known bs n h.1 l

-- ---- a new name, which gets the next number

pub names_push : (known : Known) (v : Vec ℕ Global) → names_in (known ++ (v, false) ∷ []) ≡ names_in known ++ v.items ∷ []
names_push known v = map_push (λ (e : Vec ℕ Global × Bool). e.0.items) known (v, false)

typedefs_push : (known : Known) (v : Vec ℕ Global) → typedefs_in (known ++ (v, false) ∷ []) ≡ typedefs_in known ++ false ∷ []
typedefs_push known v = map_push (λ (e : Vec ℕ Global × Bool). e.1) known (v, false)

pub name_new : (known : Known) (v : Vec ℕ Global) → slice_get (names_in (known ++ (v, false) ∷ [])) (length known) ≡ Some v.items
name_new known v =
    let l : length (names_in known) ≡ length known = length-map known (λ (e : Vec ℕ Global × Bool). e.0.items) in
    let n : length (names_in known ++ v.items ∷ []) ≡ length (names_in known) + 1 = length_push (names_in known) v.items in
    ap (λ (ns : List (List ℕ)). slice_get ns (length known)) (names_push known v)
    ∙ slice_get-get_or (names_in known ++ v.items ∷ []) (length known) [] (omega arith)
    ∙ ap (λ (n : List ℕ). Some n) (get_or_push (names_in known) v.items [] (length known) l)

-- the others keep theirs
pub named_new : (known : Known) (v : Vec ℕ Global) (bs : List Bound) → HaveNames known bs → map (named (names_in (known ++ (v, false) ∷ []))) bs ≡ map (named (names_in known)) bs
named_new known v [] h = refl
named_new known v (b ∷ bs) h =
    let k : b.number < length (names_in known) = omega (arith, h.0, length-map known (λ (e : Vec ℕ Global × Bool). e.0.items)) in
    let e : get_or (names_in (known ++ (v, false) ∷ [])) b.number [] ≡ get_or (names_in known) b.number [] = ap (λ (ns : List (List ℕ)). get_or ns b.number []) (names_push known v) ∙ get_or_append_left (names_in known) (v.items ∷ []) [] b.number k in
    ap (λ (n : List ℕ). binding n b.typedef ∷ map (named (names_in (known ++ (v, false) ∷ []))) bs) e
    ∙ ap (λ (rest : List Binding). named (names_in known) b ∷ rest) (named_new known v bs h.1)

pub numbered_new : (known : Known) (v : Vec ℕ Global) (bound kept : List Bound) → AreNumbered known bound kept → AreNumbered (known ++ (v, false) ∷ []) bound kept
numbered_new known v bound kept h =
    let l : length (known ++ (v, false) ∷ []) ≡ length known + 1 = length_push known (v, false) in
    let t : length (typedefs_in known) ≡ length known = length-map known (λ (e : Vec ℕ Global × Bool). e.1) in
    record {
      of_bound = have_more known (known ++ (v, false) ∷ []) bound (omega arith) h.of_bound;
      of_kept = have_more known (known ++ (v, false) ∷ []) kept (omega arith) h.of_kept;
      hidden = h.hidden;
      newest = λ n k. ap (λ (ts : List Bool). get_or ts n false) (typedefs_push known v) ∙ ⊎_elim
          (λ (below : n < length known). get_or_append_left (typedefs_in known) (false ∷ []) false n (omega arith) ∙ h.newest n below)
          (λ (above : length known ≤ n). get_or_push (typedefs_in known) false false n (omega arith) ∙ sym (made_none known (reverse bound) n (have_reverse known bound h.of_bound) above))
          (cases_lt n (length known));
    }

-- ---- a name's value is written

pub names_set : (known : Known) (i : ℕ) (w : Bool) → names_in (set_value_at known i w) ≡ names_in known
names_set [] i w = refl
names_set (e ∷ known) zero w = refl
names_set (e ∷ known) (suc i) w = ap (λ (ns : List (List ℕ)). e.0.items ∷ ns) (names_set known i w)

typedefs_set : (known : Known) (i : ℕ) (w : Bool) → typedefs_in (set_value_at known i w) ≡ set (typedefs_in known) i w
typedefs_set [] i w = refl
typedefs_set (e ∷ known) zero w = refl
typedefs_set (e ∷ known) (suc i) w = ap (λ (ts : List Bool). e.1 ∷ ts) (typedefs_set known i w)

get_set : (ts : List Bool) (i n : ℕ) (w : Bool) → i < length ts → get_or (set ts i w) n false ≡ cond (eqb i n) w (get_or ts n false)
get_set ts i n w l = ⊎_elim
    (λ (e : i ≡ n). subst (λ (k : ℕ). get_or (set ts i w) k false ≡ cond (eqb i k) w (get_or ts k false)) e (get_or-set_same ts i w false l ∙ sym (cond-true (eqb i i) w (get_or ts i false) (eq-eqb i i refl))))
    (λ (d : i ≡ n → ⊥). get_or-set_other ts i n w false (λ e. d (sym e)) ∙ sym (cond-false (eqb i n) w (get_or ts n false) (ne_eqb i n d)))
    (cases_eq i n)

pub value_set : (known : Known) (i n : ℕ) (w : Bool) → i < length known → get_or (typedefs_in (set_value_at known i w)) n false ≡ cond (eqb i n) w (get_or (typedefs_in known) n false)
value_set known i n w l =
    ap (λ (ts : List Bool). get_or ts n false) (typedefs_set known i w)
    ∙ get_set (typedefs_in known) i n w (omega (arith, length-map known (λ (e : Vec ℕ Global × Bool). e.1)))

-- ---- a new binding

-- it comes behind the others
pub named_bound : (known : Known) (number : ℕ) (typedef before : Bool) (bound : List Bound)
    → map (named (names_in (set_value_at known number typedef))) (bound ++ bound_of number typedef before ∷ []) ≡ map (named (names_in known)) bound ++ binding (get_or (names_in known) number []) typedef ∷ []
named_bound known number typedef before bound =
    ap (λ (ns : List (List ℕ)). map (named ns) (bound ++ bound_of number typedef before ∷ [])) (names_set known number typedef)
    ∙ map_push (named (names_in known)) bound (bound_of number typedef before)

pub named_set : (known : Known) (i : ℕ) (w : Bool) (bs : List Bound) → map (named (names_in (set_value_at known i w))) bs ≡ map (named (names_in known)) bs
named_set known i w bs = ap (λ (ns : List (List ℕ)). map (named ns) bs) (names_set known i w)

pub numbered_bound : (known : Known) (number : ℕ) (typedef before : Bool) (bound kept : List Bound) → AreNumbered known bound kept → slice_get (typedefs_in known) number ≡ Some before → number < length known
    → AreNumbered (set_value_at known number typedef) (bound ++ bound_of number typedef before ∷ []) kept
numbered_bound known number typedef before bound kept h at l =
    let b = bound_of number typedef before in
    let new = set_value_at known number typedef in
    let k : length new ≡ length known = length-set_value_at known number typedef in
    let r : reverse (bound ++ b ∷ []) ≡ b ∷ reverse bound = reverse-append bound (b ∷ []) in
    let here : before ≡ made (reverse bound) number = sym (get_or_from_slice_get (typedefs_in known) number before false at) ∙ h.newest number l in
    record {
      of_bound = have_more known new (bound ++ b ∷ []) (omega arith) (have_push known bound b h.of_bound l);
      of_kept = have_more known new kept (omega arith) h.of_kept;
      hidden = subst Hide (sym r) (here, h.hidden);
      newest = λ n below. value_set known number n typedef l ∙ ap (λ (x : Bool). cond (eqb number n) typedef x) (h.newest n (omega arith)) ∙ ap (λ (bs : List Bound). made bs n) (sym r);
    }

-- ---- the newest binding is taken back

taken_back : (number n : ℕ) (typedef before x : Bool) (bs : List Bound) → before ≡ made bs number → x ≡ cond (eqb number n) typedef (made bs n) → cond (eqb number n) before x ≡ made bs n
taken_back number n typedef before x bs hid is = settled (eqb number n) refl is where
  settled : (c : Bool) → eqb number n ≡ c → x ≡ cond c typedef (made bs n) → cond c before x ≡ made bs n
  settled true e i = hid ∙ ap (made bs) (eqb-true number n e)
  settled false e i = i

-- the others are left
take_front : {X : Type 0} (xs : List X) (x : X) → take (length (xs ++ x ∷ []) - 1) (xs ++ x ∷ []) ≡ xs
take_front xs x = take_at xs (x ∷ []) (length (xs ++ x ∷ []) - 1) (omega (arith, length_push xs x))

pub named_unbound : (known : Known) (b : Bound) (bound : List Bound)
    → map (named (names_in (set_value_at known b.number b.before))) bound ≡ take (length (map (named (names_in known)) (bound ++ b ∷ [])) - 1) (map (named (names_in known)) (bound ++ b ∷ []))
named_unbound known b bound =
    named_set known b.number b.before bound
    ∙ sym (ap (λ (bs : List Binding). take (length bs - 1) bs) (map_push (named (names_in known)) bound b) ∙ take_front (map (named (names_in known)) bound) (named (names_in known) b))

pub numbered_unbound : (known : Known) (b : Bound) (bound kept : List Bound) → AreNumbered known (bound ++ b ∷ []) kept → AreNumbered (set_value_at known b.number b.before) bound kept
numbered_unbound known b bound kept h =
    let new = set_value_at known b.number b.before in
    let k : length new ≡ length known = length-set_value_at known b.number b.before in
    let r : reverse (bound ++ b ∷ []) ≡ b ∷ reverse bound = reverse-append bound (b ∷ []) in
    let f = have_front known bound b h.of_bound in
    let hid : Hide (b ∷ reverse bound) = subst Hide r h.hidden in
    record {
      of_bound = have_more known new bound (omega arith) f.0;
      of_kept = have_more known new kept (omega arith) h.of_kept;
      hidden = hid.1;
      newest = λ n below. value_set known b.number n b.before f.1 ∙ taken_back b.number n b.typedef b.before (get_or (typedefs_in known) n false) (reverse bound) hid.0 (h.newest n (omega arith) ∙ ap (λ (bs : List Bound). made bs n) r);
    }

-- ---- what is kept is bound again, one after the other

pub one_of : (names : List (List ℕ)) (kept : List Bound) (place : ℕ) (b : Bound) → place < length kept → b ≡ get_or kept place b → take 1 (drop place (map (named names) kept)) ≡ named names b ∷ []
one_of names kept place b l e =
    ap (take 1) (drop-map (named names) place kept ∙ ap (map (named names)) (drop_more kept place b l))
    ∙ ap (λ (x : Bound). named names x ∷ []) (sym e)

take_one_more : {X : Type 0} (k : ℕ) (xs : List X) → take k xs ++ take 1 (drop k xs) ≡ take (suc k) xs
take_one_more zero xs = refl
take_one_more (suc k) [] = refl
take_one_more (suc k) (x ∷ xs) = ap (λ ys. x ∷ ys) (take_one_more k xs)

pub bound_more : {X : Type 0} (before all bound kept new : List X) (k : ℕ) → bound ≡ before ++ take k all → kept ≡ all → new ≡ bound ++ take 1 (drop k kept) → new ≡ before ++ take (k + 1) all
bound_more before all bound kept new k b s h =
    let n : suc k ≡ k + 1 = omega arith in
    h ∙ ap (λ xs. xs ++ take 1 (drop k kept)) b ∙ ap (λ xs. (before ++ take k all) ++ take 1 (drop k xs)) s
    ∙ append_assoc before (take k all) (take 1 (drop k all))
    ∙ ap (λ xs. before ++ xs) (take_one_more k all ∙ ap (λ m. take m all) n)

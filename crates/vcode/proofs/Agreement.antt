-- The code of a forest's roots does what the roots do: it goes on behind a root, at its caller, or at a label, whose mark
-- stands in the code of the root that is the label.
use Rattle.std.proofs.Common.{◌≡◌, ℕ, zero, suc, ◌==◌, ◌<◌, ◌≤◌, Bool, true, false, Option, Some, None, List, [], ◌∷◌, ◌++◌, length, All, if◌then◌else◌, refl, sym, ap, ◌∙◌, subst, arith, ⊎_elim}
use Rattle.std.specs.List.{AllByRecursion}
use Rattle.std.proofs.lemmas.Bool.{cases_Bool, cond-true, cond-false, false≢true, eq-eqb, eqb-true}
use Rattle.std.proofs.lemmas.List.Elements.{All-head, All-tail}
use Rattle.std.proofs.lemmas.Option.{same_Some}
use Rattle.lburg_model.specs.Derivation.{MDerivation}
use Rattle.op_forest.specs.declared.op.Op.{Op}
use Rattle.op_forest.specs.declared.op.Op.TheVariants as op
use Rattle.op_forest.specs.declared.sym.Sym.{Sym}
use Rattle.op_forest.specs.declared.sym.Sym.TheVariants as symbol
use Rattle.op_forest.specs.Nodes.{Node, Leaf, One, Two, head_of}
use Rattle.op_forest.specs.Labels.{label_by, label_of, behind_by, behind}
use Rattle.forests.specs.Words.{Word}
use Rattle.forests.specs.Worlds.{Point, Next, To, End, Effect, Went, Exits, Unfinished, Stuck, goes, Outcome, Failed}
use Rattle.forests.specs.Actions.{effect_of}
use Rattle.forests.specs.Rows.{leaf_row}
use Rattle.forests.specs.Bodies.{Setting, evaluate, at_label, follow, body_run}
use Rattle.vcode.specs.Machines.{Machine, Kind, Plain, Mark, Load, Store, Copy}
use Rattle.vcode.specs.declared.operand.Operand.{Operand}
use Rattle.vcode.specs.Execution.{State, reads, written, without, by_kind, slots_by, effect, state_by, is_mark, code_behind, at_mark, moved, executed}
use Rattle.vcode.specs.VirtualCode.{IsMark, HasNoMark, MarkedFirst, BeginsWithMark, joined}
use Rattle.vcode.specs.RuleSets.{Rules, Stands, Gets, Obeys, is_label, op_at}
use Rattle.vcode.specs.Roots.{IsQuiet}
use Rattle.vcode.specs.Emission.{Emitted, Emits, EmitsRoots, NoRoot, OneRoot}
use Rattle.vcode.proofs.Registers.{takes}
use Rattle.vcode.proofs.Following.{one_follows}
use Rattle.vcode.proofs.Still.{is_the_label, Rooted, rooted}

-- ---- labels

-- a root that is a label has its symbol
symbol_is : (o : Op) (x : Sym) (l : ℕ) → label_by o x ≡ Some l → (is_label o ≡ true) × (x ≡ symbol.Label l)
symbol_is op.Label (symbol.Label k) l e = (refl, ap symbol.Label (same_label k l e))
  where
    same_label : (k l : ℕ) → Some k ≡ Some l → k ≡ l
    same_label k l e = cc
symbol_is o x l e = absurd (let never : ⊥ = cc in never)

some_none : {A : Type 0} (x : A) → Some x ≡ None → ⊥
some_none x e = cc

-- a quiet root that no jump goes to is no label
unlabelled : (t : Node) → IsQuiet t → label_of t ≡ None → is_label (op_at t) ≡ true → ⊥
unlabelled (Leaf h) q none is =
    let own = (q is).1 in
    some_none own.0 (sym (ap (λ o. label_by o h.sym) (is_the_label h.operator.op is) ∙ ap (label_by op.Label) own.1) ∙ none)
unlabelled (One h a) q none is = absurd (false≢true (sym q.0 ∙ is))
unlabelled (Two h a b) q none is = absurd (false≢true (sym q.0 ∙ is))

no_label : (t : Node) → IsQuiet t → label_of t ≡ None → is_label (op_at t) ≡ false
no_label t q none = ⊎_elim (λ is. absurd (unlabelled t q none is)) (λ no. no) (cases_Bool (is_label (op_at t)))

-- a label does nothing
label_does : (s : Setting) (t : Node) (p : Point) (l : ℕ) → IsQuiet t → label_of t ≡ Some l → evaluate s t p ≡ Went [] p Next
label_does s (Leaf h) p l q e =
    let is = (symbol_is h.operator.op h.sym l e).0 in
    ap (λ o. effect_of s.call (leaf_row s.environment h p.world.objects o h.operator.suffix) p) (is_the_label h.operator.op is)
    ∙ ap (λ x. effect_of s.call (leaf_row s.environment h p.world.objects op.Label x) p) (q is).0
label_does s (One h a) p l q e = absurd (false≢true (sym q.0 ∙ (symbol_is h.operator.op h.sym l e).0))
label_does s (Two h a b) p l q e = absurd (false≢true (sym q.0 ∙ (symbol_is h.operator.op h.sym l e).0))

no_stuck : (p : Point) → Went [] p Next ≡ Stuck → ⊥
no_stuck p e = cc

-- ---- lists

each_of_all : {A : Type 0} (Q : A → Type 0) (xs : List A) → All Q xs → AllByRecursion Q xs
each_of_all Q [] h = tt
each_of_all Q (x ∷ xs) h = (All-head Q x xs h, each_of_all Q xs (All-tail Q x xs h))

parts_of_all : {A : Type 0} (Q : A → Type 0) (xs : List A) (x : A) → AllByRecursion Q (xs ++ x ∷ []) → AllByRecursion Q xs × Q x
parts_of_all Q [] x h = (tt, h.0)
parts_of_all Q (y ∷ xs) x h = let both = parts_of_all Q xs x h.1 in ((h.0, both.0), both.1)

-- ---- marks in code

mark_is : (k : Kind) (l j : ℕ) → k ≡ Mark l → is_mark k j ≡ (l == j)
mark_is k l j e = ap (λ x. is_mark x j) e

unmarked : (k : Kind) (j : ℕ) → (IsMark k → ⊥) → is_mark k j ≡ false
unmarked Plain j h = refl
unmarked (Mark l) j h = absurd (h tt)
unmarked (Load z) j h = refl
unmarked (Store z) j h = refl
unmarked Copy j h = refl

module _ (I P : Type 0) (m : Machine I) (rules : Rules I P) (obeys : Obeys m rules) where
  -- no label is found in code without a mark
  passed : (l : ℕ) (code rest : List I) → HasNoMark m code → code_behind m l (code ++ rest) ≡ code_behind m l rest
  passed l [] rest h = refl
  passed l (i ∷ code) rest h = cond-false (is_mark (m.kind i) l) (Some (code ++ rest)) (code_behind m l (code ++ rest)) (unmarked (m.kind i) l h.0) ∙ passed l code rest h.1

  -- a mark does nothing
  mark_acts : (s : Setting) (i : I) (l : ℕ) (st : State) → m.kind i ≡ Mark l → effect m s i st ≡ Went [] st.point Next
  mark_acts s i l st e = ap (λ k. by_kind k (m.acts s i (reads (m.operands i) st.registers) st.point) (reads (m.operands i) st.registers) st) e

  mark_stays : (i : I) (l : ℕ) (st : State) → m.kind i ≡ Mark l → state_by m i st [] st.point ≡ st
  mark_stays i l st e =
      ap (λ k. state_of (m.operands i) (m.loses i) k) e
      ∙ ap (λ os. state_of os (m.loses i) (Mark l)) (m.mark-bare i l e)
      ∙ ap (λ f. state_of [] f (Mark l)) (m.mark-loses i l e)
    where
      state_of : List Operand → (ℕ → Bool) → Kind → State
      state_of os lost k = record { registers = written os [] (without lost st.registers); slots = slots_by k (reads os st.registers) st.slots; point = st.point }

  -- a quiet root, whose derivation adds the stretch
  pub record IsRooted (t : Node) (code : List I) : Type 0 where
    pub derivation : MDerivation
    pub free : ℕ
    pub added : Emitted I P
    pub low : 64 ≤ free
    pub code_is : added.code ≡ code
    pub emits : Emits rules derivation t free added
    pub quiet : IsQuiet t
    pub some : 1 ≤ length code

  abbrev AreRooted : List Node → List (List I) → Type 0
  AreRooted [] [] = Unit {0}
  AreRooted [] (code ∷ more) = ⊥
  AreRooted (t ∷ ts) [] = ⊥
  AreRooted (t ∷ ts) (code ∷ more) = IsRooted t code × AreRooted ts more

  rooted_more : (ts : List Node) (stretches : List (List I)) (t : Node) (code : List I) → AreRooted ts stretches → IsRooted t code → AreRooted (ts ++ t ∷ []) (stretches ++ code ∷ [])
  rooted_more [] [] t code a h = (h, tt)
  rooted_more [] (c ∷ more) t code a h = absurd a
  rooted_more (u ∷ ts) [] t code a h = absurd a
  rooted_more (u ∷ ts) (c ∷ more) t code a h = (a.0, rooted_more ts more t code a.1 h)

  roots_rooted : {xs : List MDerivation} {ts : List Node} {n : ℕ} {stretches : List (List I)} {next : ℕ} → EmitsRoots rules xs ts n stretches next → 64 ≤ n → AllByRecursion IsQuiet ts → AllByRecursion (λ c. 1 ≤ length c) stretches → (64 ≤ next) × AreRooted ts stretches
  roots_rooted (NoRoot {n}) low quiet some = (low, tt)
  roots_rooted (OneRoot {xs} {ts} {x} {t} {n} {n'} {stretches} {e} before one) low quiet some =
      let quiet_both = parts_of_all IsQuiet ts t quiet in
      let some_both = parts_of_all (λ c. 1 ≤ length c) stretches e.code some in
      let a = roots_rooted before low quiet_both.0 some_both.0 in
      let taken = takes m rules obeys one in
      let first = a.0 in
      let second = taken.low in
      let third = taken.next in
      (omega (arith, first, second, third), rooted_more ts stretches t e.code a.1 (record { derivation = x; free = n'; added = e; low = a.0; code_is = refl; emits = one; quiet = quiet_both.1; some = some_both.1 }))

  marks_of : (t : Node) (code : List I) → IsRooted t code → Rooted m rules obeys t code
  marks_of t code r = subst (Rooted m rules obeys t) r.code_is (rooted m rules obeys r.emits r.quiet)

  -- the stretch of a label: its mark, and no further one
  record IsLabelCode (l : ℕ) (code : List I) : Type 0 where
    pub first : I
    pub behind_it : List I
    pub code_is : code ≡ first ∷ behind_it
    pub mark : m.kind first ≡ Mark l
    pub unmarked : HasNoMark m behind_it

  label_code : (l : ℕ) (code : List I) → BeginsWithMark m l code → MarkedFirst m code → IsLabelCode l code
  label_code l [] b f = absurd b
  label_code l (i ∷ is) b f = record { first = i; behind_it = is; code_is = refl; mark = b; unmarked = f }

  labelled : (t : Node) (code : List I) (l : ℕ) → IsRooted t code → label_of t ≡ Some l → IsLabelCode l code
  labelled t code l r e =
      let marks = marks_of t code r in
      let is = symbol_is (op_at t) (head_of t).sym l e in
      label_code l code (marks.begins l is.0 is.1) marks.first

  -- Where a label is found in the code of roots: behind the mark in the stretch of the first root that it is.
  record IsFound (l : ℕ) (rest : List Node) (code : List I) : Type 0 where
    pub root : Node
    pub stretch : List I
    pub rooted : IsRooted root stretch
    pub label : label_of root ≡ Some l
    pub is : IsLabelCode l stretch
    pub more : List (List I)
    pub others : AreRooted rest more
    pub there : code_behind m l code ≡ Some (is.behind_it ++ joined more)

  found_later : (l : ℕ) (rest : List Node) (code more : List I) → code_behind m l (code ++ more) ≡ code_behind m l more → IsFound l rest more → IsFound l rest (code ++ more)
  found_later l rest code more same f = record { root = f.root; stretch = f.stretch; rooted = f.rooted; label = f.label; is = f.is; more = f.more; others = f.others; there = same ∙ f.there }

  mark_passed : (k l : ℕ) (code more : List I) → IsLabelCode k code → (k == l) ≡ false → code_behind m l (code ++ more) ≡ code_behind m l more
  mark_passed k l code more is other =
      ap (λ c. code_behind m l (c ++ more)) is.code_is
      ∙ cond-false (is_mark (m.kind is.first) l) (Some (is.behind_it ++ more)) (code_behind m l (is.behind_it ++ more)) (mark_is (m.kind is.first) k l is.mark ∙ other)
      ∙ passed l is.behind_it more is.unmarked

  mark_found : (l : ℕ) (code more : List I) (is : IsLabelCode l code) → code_behind m l (code ++ more) ≡ Some (is.behind_it ++ more)
  mark_found l code more is =
      ap (λ c. code_behind m l (c ++ more)) is.code_is
      ∙ cond-true (is_mark (m.kind is.first) l) (Some (is.behind_it ++ more)) (code_behind m l (is.behind_it ++ more)) (mark_is (m.kind is.first) l l is.mark ∙ eq-eqb l l refl)

  found_at : (l : ℕ) (t : Node) (ts : List Node) (code : List I) (more : List (List I)) (rest : List Node) (k : ℕ) (same : Bool) → AreRooted (t ∷ ts) (code ∷ more) → label_of t ≡ Some k → (k == l) ≡ same → (behind l ts ≡ Some rest → IsFound l rest (joined more)) → (if same then Some ts else behind l ts) ≡ Some rest → IsFound l rest (joined (code ∷ more))
  found_at l t ts code more rest k true a own same later e =
      let is_l : label_of t ≡ Some l = own ∙ ap Some (eqb-true k l same) in
      let is = labelled t code l a.0 is_l in
      record {
        root = t;
        stretch = code;
        rooted = a.0;
        label = is_l;
        is = is;
        more = more;
        others = subst (λ us. AreRooted us more) (same_Some ts rest e) a.1;
        there = mark_found l code (joined more) is;
      }
  found_at l t ts code more rest k false a own same later e =
      found_later l rest code (joined more) (mark_passed k l code (joined more) (labelled t code k a.0 own) same) (later e)

  found_by : (l : ℕ) (t : Node) (ts : List Node) (code : List I) (more : List (List I)) (rest : List Node) (own : Option ℕ) → AreRooted (t ∷ ts) (code ∷ more) → label_of t ≡ own → (behind l ts ≡ Some rest → IsFound l rest (joined more)) → behind_by own l ts (behind l ts) ≡ Some rest → IsFound l rest (joined (code ∷ more))
  found_by l t ts code more rest None a own later e =
      found_later l rest code (joined more) (passed l code (joined more) ((marks_of t code a.0).marks (no_label t a.0.quiet own))) (later e)
  found_by l t ts code more rest (Some k) a own later e = found_at l t ts code more rest k (k == l) a own refl later e

  found : (l : ℕ) (ts : List Node) (stretches : List (List I)) (rest : List Node) → AreRooted ts stretches → behind l ts ≡ Some rest → IsFound l rest (joined stretches)
  found l [] stretches rest a e = absurd (let never : ⊥ = cc in never)
  found l (t ∷ ts) [] rest a e = absurd a
  found l (t ∷ ts) (code ∷ more) rest a e = found_by l t ts code more rest (label_of t) a refl (λ k. found l ts more rest a.1 k) e

  -- ---- runs

  module _ (s : Setting) (roots : List Node) (stretches : List (List I)) (are : AreRooted roots stretches) where
    abbrev whole : List I
    whole = joined stretches

    abbrev Follows : ℕ → List Node → List I → State → Type 0
    Follows n ts code st = (body_run s roots n ts st.point ≡ Failed → ⊥) → (k : ℕ) × (n ≤ k) × (executed m s whole k code st ≡ body_run s roots n ts st.point)

    -- from each state the rooted code of the roots does what these do
    abbrev Runs : ℕ → Type 0
    Runs n = (ts : List Node) (more : List (List I)) (st : State) → AreRooted ts more → Follows n ts (joined more) st

    abbrev Stood : {t : Node} {code : List I} → IsRooted t code → (ℕ → Word) → List Word → Type 0
    Stood r f ws = Stands (rules.means s r.added.part f) ws

    -- the code of one root
    root_follows : (t : Node) (code rest : List I) (r : IsRooted t code) (st : State) → (evaluate s t st.point ≡ Stuck → ⊥) → Gets m s whole code rest st (evaluate s t st.point) (Stood r) (λ q. q < r.free)
    root_follows t code rest r st ns =
        subst (λ c. Gets m s whole c rest st (evaluate s t st.point) (Stood r) (λ q. q < r.free)) r.code_is
        (one_follows I P m rules obeys s whole r.emits r.low rest st ns)

    -- a mark takes a step
    mark_step : (i : I) (l j : ℕ) (code : List I) (st : State) → m.kind i ≡ Mark l → executed m s whole (suc j) (i ∷ code) st ≡ executed m s whole j code st
    mark_step i l j code st e =
        ap (λ x. goes x (λ ws p mv. moved m whole code mv p (λ js. executed m s whole j js (state_by m i st ws p)))) (mark_acts s i l st e)
        ∙ ap (λ x. executed m s whole j code x) (mark_stays i l st e)

    past_mark : (l j : ℕ) (code rest : List I) (is : IsLabelCode l code) (st : State) (out : Outcome) → 1 ≤ j → executed m s whole j (code ++ rest) st ≡ out → (k : ℕ) × (j ≡ suc k) × (executed m s whole k (is.behind_it ++ rest) st ≡ out)
    past_mark l zero code rest is st out some e = absurd (omega (arith, some))
    past_mark l (suc j) code rest is st out some e =
        (j, refl, sym (mark_step is.first l j (is.behind_it ++ rest) st is.mark) ∙ ap (λ c. executed m s whole (suc j) (c ++ rest) st) (sym is.code_is) ∙ e)

    -- behind the mark of a label the code does what the roots behind the label do
    mark_runs : (n l : ℕ) (rest : List Node) (f : IsFound l rest whole) (st : State) → Runs n → Follows n rest (f.is.behind_it ++ joined f.more) st
    mark_runs n l rest f st go nf =
        let r = f.rooted in
        let acts = label_does s f.root st.point l r.quiet f.label in
        let g = subst (λ e. Gets m s whole f.stretch (joined f.more) st e (Stood r) (λ q. q < r.free)) acts
        (root_follows f.root f.stretch (joined f.more) r st (λ stuck. no_stuck st.point (sym acts ∙ stuck))) in
        let at : g.state.point ≡ st.point = g.gives.0 in
        let same : body_run s roots n rest g.state.point ≡ body_run s roots n rest st.point = ap (λ y. body_run s roots n rest y) at in
        let a = go rest f.more g.state f.others (λ h. nf (sym same ∙ h)) in
        let b = g.by a.0 in
        let few = b.1 in
        let some = r.some in
        let c = past_mark l b.0 f.stretch (joined f.more) f.is st (body_run s roots n rest st.point) (omega (arith, few, some)) (b.2 ∙ a.2 ∙ same) in
        let is = c.1 in
        let many = a.1 in
        (c.0, omega (arith, is, few, some, many), c.2)

    -- the run behind a root
    abbrev run_behind : ℕ → List Node → Effect → Outcome
    run_behind n ts e = goes e (λ ws p mv. follow roots ts mv p (λ js. body_run s roots n js p))

    jump_runs : (n l : ℕ) (to : Option (List Node)) (st : State) (p : Point) → behind l roots ≡ to → st.point ≡ p → Runs n → (at_label to (λ js. body_run s roots n js p) ≡ Failed → ⊥) → (k : ℕ) × (n ≤ k) × (at_mark (code_behind m l whole) (λ js. executed m s whole k js st) ≡ at_label to (λ js. body_run s roots n js p))
    jump_runs n l None st p is at go nf = absurd (nf refl)
    jump_runs n l (Some rest) st p is at go nf =
        let f = found l roots stretches rest are is in
        let same : body_run s roots n rest st.point ≡ body_run s roots n rest p = ap (λ y. body_run s roots n rest y) at in
        let a = mark_runs n l rest f st go (λ h. nf (sym same ∙ h)) in
        (a.0, a.1, ap (λ o. at_mark o (λ js. executed m s whole a.0 js st)) f.there ∙ a.2 ∙ same)

    root_runs : (n : ℕ) (ts : List Node) (code : List I) (more : List (List I)) (st : State) (e : Effect) (holds : (ℕ → Word) → List Word → Type 0) (kept : ℕ → Type 0) → 1 ≤ length code → Gets m s whole code (joined more) st e holds kept → (run_behind n ts e ≡ Failed → ⊥) → AreRooted ts more → Runs n → (k : ℕ) × (suc n ≤ k) × (executed m s whole k (code ++ joined more) st ≡ run_behind n ts e)
    root_runs n ts code more st (Went ws p Next) holds kept some g nf a go =
        let at : g.state.point ≡ p = g.gives.0 in
        let same : body_run s roots n ts g.state.point ≡ body_run s roots n ts p = ap (λ y. body_run s roots n ts y) at in
        let x = go ts more g.state a (λ h. nf (sym same ∙ h)) in
        let b = g.by x.0 in
        (b.0, omega (arith, x.1, b.1, some), b.2 ∙ x.2 ∙ same)
    root_runs n ts code more st (Went ws p (To l)) holds kept some g nf a go =
        let x = jump_runs n l (behind l roots) g.state p refl g.gives.0 go nf in
        let b = g.by x.0 in
        (b.0, omega (arith, x.1, b.1, some), b.2 ∙ x.2)
    root_runs n ts code more st (Went ws p (End v)) holds kept some g nf a go = let b = g.by n in (b.0, omega (arith, b.1, some), b.2)
    root_runs n ts code more st (Exits status w) holds kept some g nf a go = let b = g.by n in (b.0, omega (arith, b.1, some), b.2)
    root_runs n ts code more st (Unfinished w) holds kept some g nf a go = let b = g.by n in (b.0, omega (arith, b.1, some), b.2)
    root_runs n ts code more st Stuck holds kept some g nf a go = absurd (nf refl)

    runs : (n : ℕ) → Runs n
    runs zero ts more st a nf = (0, omega arith, refl)
    runs (suc n) [] [] st a nf = (suc n, omega arith, refl)
    runs (suc n) [] (code ∷ more) st a nf = absurd a
    runs (suc n) (t ∷ ts) [] st a nf = absurd a
    runs (suc n) (t ∷ ts) (code ∷ more) st a nf =
        root_runs n ts code more st (evaluate s t st.point) (Stood a.0) (λ q. q < a.0.free) a.0.some
        (root_follows t code (joined more) a.0 st (λ h. nf (ap (λ e. run_behind n ts e) h))) nf a.1 (runs n)

pub agrees : {I P : Type 0} (m : Machine I) (rules : Rules I P) (obeys : Obeys m rules) (xs : List MDerivation) (roots : List Node) (stretches : List (List I)) (next : ℕ) → EmitsRoots rules xs roots 64 stretches next → All IsQuiet roots → All (λ c. 1 ≤ length c) stretches → (s : Setting) (n : ℕ) (st : State) → (body_run s roots n roots st.point ≡ Failed → ⊥) → (k : ℕ) × (n ≤ k) × (executed m s (joined stretches) k (joined stretches) st ≡ body_run s roots n roots st.point)
agrees {I} {P} m rules obeys xs roots stretches next emits quiet some s n st nf =
    let are = (roots_rooted I P m rules obeys emits (omega arith) (each_of_all IsQuiet roots quiet) (each_of_all (λ c. 1 ≤ length c) stretches some)).1 in
    runs I P m rules obeys s roots stretches are n roots stretches st are nf

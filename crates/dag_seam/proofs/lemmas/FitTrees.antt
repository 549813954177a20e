-- The trees of a block that fits are well formed.
use Rattle.std.proofs.Common.{◌≡◌, ⊎_elim, ℕ, ◌≤◌, Bool, true, false, Option, Some, None, List, [], ◌∷◌, length, refl, sym, ap, ◌∙◌, subst}
use Rattle.std.specs.Prelude.{slice_get, IsTrue, IsSomeAnd}
use Rattle.std.proofs.lemmas.Bool.{cases_eq}
use Rattle.lcc_base.specs.declared.order.Order.{Order}
use Rattle.op_forest.specs.declared.frame.Slot.{Slot}
use Rattle.op_forest.specs.declared.op.Op.{Op}
use Rattle.op_forest.specs.declared.op.Op.TheVariants as op
use Rattle.op_forest.specs.declared.suffix.Suffix.{Suffix}
use Rattle.op_forest.specs.declared.suffix.Suffix.TheVariants as suffix
use Rattle.op_forest.specs.EachNode.{AtEachNode}
use Rattle.op_forest.specs.Frames.{lowest}
use Rattle.op_forest.specs.Labels.{label_by}
use Rattle.op_forest.specs.Nodes.{Head}
use Rattle.op_forest.specs.Nodes.{head_of as tree_head, kids_of as tree_kids}
use Rattle.op_forest.specs.Nodes.{Node as Tree}
use Rattle.op_forest.specs.Operators.{number}
use Rattle.op_forest.specs.Signature.{takes, gives_value}
use Rattle.forests.specs.Addresses.{Home}
use Rattle.forests.specs.WellFormed.{op_of, HasArity, HasKind, HasPart, HasSlot, IsOperand, AreOperands, LiesInOne, label_in, label_under, label_by_address, target_by}
use Rattle.dag_forest.specs.declared.act.Act.{Act}
use Rattle.dag_forest.specs.declared.act.Act.TheVariants.{Made, Acts}
use Rattle.dag_forest.specs.declared.entry.Entry.{Entry}
use Rattle.dag_forest.specs.declared.key.Key.{Key}
use Rattle.dag_forest.specs.declared.kids.Kids.{Kids}
use Rattle.dag_forest.specs.declared.kids.Kids.TheVariants.{Zero, One, Two}
use Rattle.dag_forest.specs.declared.parts.Parts.{Parts}
use Rattle.dag_forest.specs.Choice.{Room, kind_of}
use Rattle.dag_forest.specs.Emission.{tree_by, tree_at, emitted, emit, Use, Lost, Now, Stable, IsUsable, fade, faded, least, kids_use, read_use, kept_use, IsMade, Takes, HoldsMade, HoldsBehind}
use Rattle.dag_forest.specs.Entries.{is_call, is_read}
use Rattle.dag_forest.specs.Meaning.{is_end, is_handing, Temporary, Keeps}
use Rattle.dag_forest.specs.NewSlots.{offset_below}
use Rattle.dag_forest.specs.Slots.{slot_read, slot_store}
use Rattle.dag_forest.specs.Schedules.{head_of, at}
use Rattle.dag_forest.specs.Split.{temporary_of, kept_by, keeps_of, room_of}
use Rattle.dag_forest.specs.Tally.{keys_of}
use Rattle.dag_seam.specs.Fitting.{Gives, AreGiven, Fits, FitsNode, KeepsNoBlock, IsFitTree, AreFitTrees, address_label, label_below, target_from, target_at}
use Rattle.dag_seam.specs.Rooms.{AreActs}
use Rattle.dag_seam.proofs.lemmas.Acts.{HasParts}
use Rattle.dag_forest.proofs.lemmas.Maps.{at_new, at_old}
use Rattle.dag_seam.proofs.lemmas.RoomCauses.{room_has_kind}
use Rattle.std.proofs.lemmas.Option.{same_Some}
use Rattle.dag_seam.proofs.lemmas.SlotTrees.{IsValueTree, no_void, read_fits, read_no_label, store_fits}

-- ---- the head and the operands of a tree

head_is : (ts : ℕ → Tree) (h : Head) (k : Kids) → tree_head (tree_by ts h k) ≡ h
head_is ts h Zero = refl
head_is ts h (One a) = refl
head_is ts h (Two a c) = refl

kid_trees : (ℕ → Tree) → Kids → List Tree
kid_trees ts Zero = []
kid_trees ts (One a) = ts a ∷ []
kid_trees ts (Two a c) = ts a ∷ ts c ∷ []

kids_are : (ts : ℕ → Tree) (h : Head) (k : Kids) → tree_kids (tree_by ts h k) ≡ kid_trees ts k
unfolding kid_trees
kids_are ts h Zero = refl
kids_are ts h (One a) = refl
kids_are ts h (Two a c) = refl

abbrev pub AllKids : (ℕ → Type 0) → Kids → Type 0
AllKids P Zero = Unit {0}
AllKids P (One a) = P a
AllKids P (Two a c) = P a × P c

each_by : (P : Tree → Type 0) (ts : ℕ → Tree) (h : Head) (k : Kids) → P (tree_by ts h k) → AllKids (λ m. AtEachNode P (ts m)) k → AtEachNode P (tree_by ts h k)
each_by P ts h Zero p q = p
each_by P ts h (One a) p q = (p, q)
each_by P ts h (Two a c) p q = (p, q.0, q.1)

least_usable : (u v : Use) → IsUsable (least u v) → IsUsable u × IsUsable v
least_usable Lost v h = absurd h
least_usable Now Lost h = absurd h
least_usable Now Now h = (tt, tt)
least_usable Now Stable h = (tt, tt)
least_usable Stable v h = (tt, h)

read_usable : (b : Bool) (u : Use) → IsUsable (read_use b u) → IsUsable u
read_usable true Lost h = h
read_usable true Now h = tt
read_usable true Stable h = tt
read_usable false u h = h

faded_usable : (b : Bool) (u : Use) → IsUsable (faded b u) → IsUsable u
faded_usable true Lost h = h
faded_usable true Now h = absurd h
faded_usable true Stable h = tt
faded_usable false u h = h

kids_usable : (uses : ℕ → Use) (k : Kids) → IsUsable (kids_use uses k) → AllKids (λ m. IsUsable (uses m)) k
kids_usable uses Zero h = tt
kids_usable uses (One a) h = h
kids_usable uses (Two a c) h = least_usable (uses a) (uses c) h

all_map : (P Q : ℕ → Type 0) (k : Kids) → ((m : ℕ) → P m → Q m) → AllKids P k → AllKids Q k
all_map P Q Zero f h = tt
all_map P Q (One a) f h = f a h
all_map P Q (Two a c) f h = (f a h.0, f c h.1)

module _ (keys : List Key) (slots : List Slot) where
  -- a node's tree
  pub record IsGoodTree (k : Key) (t : Tree) : Type 0 where
    pub value : IsValueTree slots k.parts.operator.suffix t
    pub address : (l : ℕ) → label_by_address (op_of t) (tree_head t).sym ≡ Some l → label_by_address k.parts.operator.op k.parts.sym ≡ Some l

  abbrev pub Good : Tree → ℕ → Type 0
  Good t m = (k : Key) → slice_get keys m ≡ Some k → IsGoodTree k t

  given_length : (ts : ℕ → Tree) (ss : List Suffix) (k : Kids) → AreGiven keys ss k → length (kid_trees ts k) ≡ length ss
  unfolding kid_trees
  given_length ts [] Zero h = refl
  given_length ts (s ∷ []) (One a) h = refl
  given_length ts (s ∷ t ∷ []) (Two a c) h = refl
  given_length ts ss k h = absurd h

  operand_of : (t : Tree) (s : Suffix) (m : ℕ) → Gives keys s m → Good t m → IsOperand s t
  operand_of t s m g good = subst (λ z. IsOperand z t) g.suffix (good g.key g.is).value.operand

  given_operands : (ts : ℕ → Tree) (ss : List Suffix) (k : Kids) → AreGiven keys ss k → AllKids (λ m. Good (ts m) m) k → AreOperands ss (kid_trees ts k)
  unfolding kid_trees
  given_operands ts [] Zero h g = tt
  given_operands ts (s ∷ []) (One a) h g = (operand_of (ts a) s a h g, tt)
  given_operands ts (s ∷ t ∷ []) (Two a c) h g = (operand_of (ts a) s a h.0 g.0, (operand_of (ts c) t c h.1 g.1, tt))
  given_operands ts ss k h g = absurd h

  -- some key has each operand
  given_keys : (ss : List Suffix) (k : Kids) (P : ℕ → Type 0) (ts : ℕ → Tree) → AreGiven keys ss k → ((m : ℕ) (s : Suffix) → Gives keys s m → Good (ts m) m → P m) → AllKids (λ m. Good (ts m) m) k → AllKids P k
  given_keys [] Zero P ts h f g = tt
  given_keys (s ∷ []) (One a) P ts h f g = f a s h g
  given_keys (s ∷ t ∷ []) (Two a c) P ts h f g = (f a s h.0 g.0, f c t h.1 g.1)
  given_keys ss k P ts h f g = absurd h

  module _ (ts : ℕ → Tree) (x : Parts) (fits : Fits keys slots x) (good : AllKids (λ m. Good (ts m) m) x.kids) where
    abbrev t : Tree
    t = tree_at ts x

    own_arity : HasArity t
    own_arity l = ap length (kids_are ts (head_of x) x.kids) ∙ given_length ts (takes x.operator.op x.operator.suffix) x.kids fits.operands ∙ ap (λ (z : Head). length (takes z.operator.op z.operator.suffix)) (sym (head_is ts (head_of x) x.kids))

    own_kind : HasKind t
    own_kind = record {
      operator = subst (λ (z : Head). 1 ≤ number z.operator.op z.operator.suffix) (sym (head_is ts (head_of x) x.kids)) fits.operator;
      part = subst (λ (z : Head). HasPart z.operator.op z.operator.suffix z.sym z.value) (sym (head_is ts (head_of x) x.kids)) fits.part;
      operands = subst (λ (z : Head). AreOperands (takes z.operator.op z.operator.suffix) (tree_kids (tree_at ts x))) (sym (head_is ts (head_of x) x.kids))
          (subst (λ z. AreOperands (takes x.operator.op x.operator.suffix) z) (sym (kids_are ts (head_of x) x.kids)) (given_operands ts (takes x.operator.op x.operator.suffix) x.kids fits.operands good));
    }

    own_slot : HasSlot slots t
    own_slot = subst (λ (z : Head). z.operator.op ≡ op.Addrl → IsSomeAnd z.value (LiesInOne slots)) (sym (head_is ts (head_of x) x.kids)) fits.local

    pub tree_arities : AtEachNode HasArity (tree_at ts x)
    tree_arities = each_by HasArity ts (head_of x) x.kids own_arity (given_keys (takes x.operator.op x.operator.suffix) x.kids (λ m. AtEachNode HasArity (ts m)) ts fits.operands (λ m s g q. (q g.key g.is).value.arities) good)

    pub tree_kinds : AtEachNode HasKind (tree_at ts x)
    tree_kinds = each_by HasKind ts (head_of x) x.kids own_kind (given_keys (takes x.operator.op x.operator.suffix) x.kids (λ m. AtEachNode HasKind (ts m)) ts fits.operands (λ m s g q. (q g.key g.is).value.kinds) good)

    pub tree_slots : AtEachNode (HasSlot slots) (tree_at ts x)
    tree_slots = each_by (HasSlot slots) ts (head_of x) x.kids own_slot (given_keys (takes x.operator.op x.operator.suffix) x.kids (λ m. AtEachNode (HasSlot slots) (ts m)) ts fits.operands (λ m s g q. (q g.key g.is).value.locals) good)

    pub node_good : IsTrue (gives_value x.operator.op x.operator.suffix) → (n : ℕ) → HasParts keys n x → Good (tree_at ts x) n
    node_good value n has k is =
        let same : k.parts ≡ x = ap (λ (z : Key). z.parts) (same_Some k has.0 (sym is ∙ has.1)) ∙ has.2 in
        record {
          value = record {
            arities = tree_arities;
            kinds = tree_kinds;
            locals = tree_slots;
            operand = subst (λ (z : Head). IsTrue (gives_value z.operator.op z.operator.suffix) × (z.operator.suffix ≡ k.parts.operator.suffix)) (sym (head_is ts (head_of x) x.kids)) (value, ap (λ (z : Parts). z.operator.suffix) (sym same));
          };
          address = λ l e. ap (λ (z : Parts). label_by_address z.operator.op z.sym) same ∙ ap (λ (z : Head). label_by_address z.operator.op z.sym) (sym (head_is ts (head_of x) x.kids)) ∙ e;
        }

    module _ (Is To : ℕ → Type 0) (label : (l : ℕ) → label_by x.operator.op x.sym ≡ Some l → Is l) (target : (l : ℕ) → target_at keys x ≡ Some l → To l) where
      under_is : (ss : List Suffix) (k : Kids) (l : ℕ) → AreGiven keys ss k → AllKids (λ m. Good (ts m) m) k → label_under (tree_by ts (head_of x) k) ≡ Some l → label_below keys k ≡ Some l
      under_is [] Zero l h g e = e
      under_is (s ∷ []) (One a) l h g e = ap address_label h.is ∙ (g h.key h.is).address l e
      under_is (s ∷ u ∷ []) (Two a c) l h g e = e
      under_is ss k l h g e = absurd h

      target_is : (o : Op) (l : ℕ) → target_by o (tree_at ts x) ≡ Some l → target_from keys o x ≡ Some l
      target_is op.Eq l e = ap (λ (z : Head). label_in z.sym) (sym (head_is ts (head_of x) x.kids)) ∙ e
      target_is op.Ne l e = ap (λ (z : Head). label_in z.sym) (sym (head_is ts (head_of x) x.kids)) ∙ e
      target_is op.Lt l e = ap (λ (z : Head). label_in z.sym) (sym (head_is ts (head_of x) x.kids)) ∙ e
      target_is op.Le l e = ap (λ (z : Head). label_in z.sym) (sym (head_is ts (head_of x) x.kids)) ∙ e
      target_is op.Gt l e = ap (λ (z : Head). label_in z.sym) (sym (head_is ts (head_of x) x.kids)) ∙ e
      target_is op.Ge l e = ap (λ (z : Head). label_in z.sym) (sym (head_is ts (head_of x) x.kids)) ∙ e
      target_is op.Jump l e = under_is (takes x.operator.op x.operator.suffix) x.kids l fits.operands good e
      target_is o l e = e

      pub root_fits : IsFitTree slots Is To (tree_at ts x)
      root_fits = record {
        arities = tree_arities;
        kinds = tree_kinds;
        locals = tree_slots;
        label = λ l e. label l (ap (λ (z : Head). label_by z.operator.op z.sym) (sym (head_is ts (head_of x) x.kids)) ∙ e);
        target = λ l e. target l (target_is x.operator.op l (ap (λ (z : Head). target_by z.operator.op (tree_at ts x)) (sym (head_is ts (head_of x) x.kids)) ∙ e));
      }

-- ---- what a block does

module _ (order : Order) (home : Home) (before slots : List Slot) (es : List Entry) (lies : (n : ℕ) (r : Room) → room_of es n ≡ Some r → LiesInOne slots (offset_below (lowest before) r.number)) (none : KeepsNoBlock es) (Is To : ℕ → Type 0) where
  abbrev pub keys : List Key
  keys = keys_of es

  abbrev pub f : Room → Temporary
  f = temporary_of order home before

  abbrev pub keeps : Keeps
  keeps = keeps_of order home before es

  pub record FitsAct (n : ℕ) (x : Parts) : Type 0 where
    pub has : HasParts keys n x
    pub node : FitsNode keys slots x

  pub record FitsActing (x : Parts) : Type 0 where
    pub fits : Fits keys slots x
    pub label : (l : ℕ) → label_by x.operator.op x.sym ≡ Some l → Is l
    pub target : (l : ℕ) → target_at keys x ≡ Some l → To l

  abbrev pub AllGood : (ℕ → Use) → (ℕ → Tree) → Type 0
  AllGood uses ts = (m : ℕ) → IsUsable (uses m) → Good keys slots (ts m) m

  abbrev pub AllFit : List Act → Type 0
  AllFit xs = (uses : ℕ → Use) (ts : ℕ → Tree) → AllGood uses ts → HoldsBehind None keeps xs uses → AreActs FitsAct FitsActing xs → AreFitTrees slots Is To (emit keeps xs ts [])

  -- behind a call that is handed
  abbrev AllTake : List Act → Type 0
  AllTake xs = (n : ℕ) (uses : ℕ → Use) (ts : ℕ → Tree) → AllGood uses ts → Good keys slots (ts n) n → HoldsBehind (Some n) keeps xs uses → AreActs FitsAct FitsActing xs → AreFitTrees slots Is To (emit keeps xs ts [])

  good_more : (n : ℕ) (uses : ℕ → Use) (ts : ℕ → Tree) (b : Bool) (u : Use) (t : Tree) → AllGood uses ts → (IsUsable u → Good keys slots t n) → AllGood (at (λ m. faded b (uses m)) n u) (at ts n t)
  good_more n uses ts b u t good own m us = ⊎_elim
      (λ e. subst (λ z. Good keys slots (at ts n t z) z) (sym e) (subst (λ z. Good keys slots z n) (sym (at_new ts n t)) (own (subst IsUsable (ap (at (λ k. faded b (uses k)) n u) e ∙ at_new (λ k. faded b (uses k)) n u) us))))
      (λ ne. subst (λ z. Good keys slots z m) (sym (at_old ts n t m ne)) (good m (faded_usable b (uses m) (subst IsUsable (at_old (λ k. faded b (uses k)) n u m ne) us))))
      (cases_eq m n)

  good_taken : (n : ℕ) (uses : ℕ → Use) (ts : ℕ → Tree) (t : Tree) → AllGood uses ts → Good keys slots t n → AllGood uses (at ts n t)
  good_taken n uses ts t good own m us = ⊎_elim
      (λ e. subst (λ z. Good keys slots (at ts n t z) z) (sym e) (subst (λ z. Good keys slots z n) (sym (at_new ts n t)) own))
      (λ ne. subst (λ z. Good keys slots z m) (sym (at_old ts n t m ne)) (good m us))
      (cases_eq m n)

  module _ (n : ℕ) (x : Parts) (as' : List Act) (rest : AllFit as') (take : AllTake as') (uses : ℕ → Use) (ts : ℕ → Tree) (good : AllGood uses ts) (act : FitsAct n x) (acts : AreActs FitsAct FitsActing as') where
    no_block : (r : Room) → room_of es n ≡ Some r → x.operator.suffix ≡ suffix.B → ⊥
    no_block r is e = none n r act.has.0 is act.has.1 (ap (λ (z : Parts). z.operator.suffix) act.has.2 ∙ e)

    not_void : x.operator.suffix ≡ suffix.V → ⊥
    not_void e = no_void x.operator.op (subst (λ z. 1 ≤ number x.operator.op z) e act.node.fits.operator) (subst (λ z. gives_value x.operator.op z ≡ true) e act.node.value)

    own : IsUsable (kids_use uses x.kids) → Good keys slots (tree_at ts x) n
    own us = node_good keys slots ts x act.node.fits (all_map (λ m. IsUsable (uses m)) (λ m. Good keys slots (ts m) m) x.kids good (kids_usable uses x.kids us)) act.node.value n act.has

    kind_is : (r : Room) → room_of es n ≡ Some r → r.kind ≡ kind_of x.operator.suffix
    kind_is r is = room_has_kind es n r act.has.0 is act.has.1 ∙ ap (λ (z : Parts). kind_of z.operator.suffix) act.has.2

    read_good : (r : Room) → room_of es n ≡ Some r → Good keys slots (f r).read n
    read_good r is k got =
        let same : k.parts ≡ x = ap (λ (z : Key). z.parts) (same_Some k act.has.0 (sym got ∙ act.has.1)) ∙ act.has.2 in
        subst (λ z. IsGoodTree keys slots k (slot_read z (offset_below (lowest before) r.number))) (sym (kind_is r is))
        (record {
          value = subst (λ z. IsValueTree slots z (slot_read (kind_of x.operator.suffix) (offset_below (lowest before) r.number))) (ap (λ (z : Parts). z.operator.suffix) (sym same)) (read_fits slots (offset_below (lowest before) r.number) (lies n r is) x.operator.suffix (no_block r is) not_void);
          address = λ l e. absurd (read_no_label slots (offset_below (lowest before) r.number) (lies n r is) x.operator.suffix l e);
        })

    store_good : (r : Room) → room_of es n ≡ Some r → IsUsable (kids_use uses x.kids) → IsFitTree slots Is To ((f r).store (tree_at ts x))
    store_good r is us =
        subst (λ z. IsFitTree slots Is To (slot_store z (offset_below (lowest before) r.number) (tree_at ts x))) (sym (kind_is r is))
        (store_fits slots (offset_below (lowest before) r.number) (lies n r is) Is To x.operator.suffix (no_block r is) not_void (tree_at ts x)
        (subst (λ (z : Parts). IsValueTree slots z.operator.suffix (tree_at ts x)) act.has.2 (own us act.has.0 act.has.1).value))

    made_by : (call : Bool) (o : Option Room) → room_of es n ≡ o
        → HoldsMade (is_handing call (kept_by f o)) (IsUsable (kids_use uses x.kids) × HoldsBehind (Some n) keeps as' uses) (IsMade (kids_use uses x.kids) (kept_by f o) × HoldsBehind None keeps as' (at (λ m. faded call (uses m)) n (kept_use (kept_by f o) (read_use (is_read x.operator.op) (kids_use uses x.kids)))))
        → AreFitTrees slots Is To (emitted (kept_by f o) (tree_at ts x) (λ t. emit keeps as' (at ts n t) []))
    made_by true None is holds = take n uses (at ts n (tree_at ts x)) (good_taken n uses ts (tree_at ts x) good (own holds.0)) (subst (λ z. Good keys slots z n) (sym (at_new ts n (tree_at ts x))) (own holds.0)) holds.1 acts
    made_by false None is holds = rest (at (λ m. uses m) n (read_use (is_read x.operator.op) (kids_use uses x.kids))) (at ts n (tree_at ts x)) (good_more n uses ts false (read_use (is_read x.operator.op) (kids_use uses x.kids)) (tree_at ts x) good (λ us. own (read_usable (is_read x.operator.op) (kids_use uses x.kids) us))) holds.1 acts
    made_by true (Some r) is holds = (store_good r is holds.0, rest (at (λ m. fade (uses m)) n Stable) (at ts n (f r).read) (good_more n uses ts true Stable (f r).read good (λ us. read_good r is)) holds.1 acts)
    made_by false (Some r) is holds = (store_good r is holds.0, rest (at (λ m. uses m) n Stable) (at ts n (f r).read) (good_more n uses ts false Stable (f r).read good (λ us. read_good r is)) holds.1 acts)

  root_of : (x : Parts) (ts : ℕ → Tree) → FitsActing x → AllKids (λ m. Good keys slots (ts m) m) x.kids → IsFitTree slots Is To (tree_at ts x)
  root_of x ts act kids = root_fits keys slots ts x act.fits kids Is To act.label act.target

  acts_fit : (x : Parts) (as' : List Act) → AllFit as' → AllFit (Acts x ∷ as')
  acts_fit x as' rest uses ts good holds acts = (
    root_of x ts acts.0 (all_map (λ m. IsUsable (uses m)) (λ m. Good keys slots (ts m) m) x.kids good (kids_usable uses x.kids holds.0)),
    rest (λ m. faded (is_end x) (uses m)) ts (λ m us. good m (faded_usable (is_end x) (uses m) us)) holds.1 acts.1,
  )

  acts_take : (x : Parts) (as' : List Act) → AllFit as' → AllTake (Acts x ∷ as')
  acts_take x as' rest n uses ts good own holds acts = (
    root_of x ts acts.0 (taken x.kids holds.0),
    rest (λ m. faded (is_end x) (at (λ k. fade (uses k)) n Lost m)) ts (λ m us. good m (before_it m (faded_usable (is_end x) (at (λ k. fade (uses k)) n Lost m) us))) holds.1 acts.1,
  )
    where
      taken : (k : Kids) → Takes n uses k → AllKids (λ m. Good keys slots (ts m) m) k
      taken Zero h = absurd h
      taken (One a) h = subst (λ z. Good keys slots (ts z) z) (sym h) own
      taken (Two a c) h = (good a h.2, subst (λ z. Good keys slots (ts z) z) (sym h.0) own)

      before_it : (m : ℕ) → IsUsable (at (λ k. fade (uses k)) n Lost m) → IsUsable (uses m)
      before_it m us = ⊎_elim
          (λ e. absurd (subst IsUsable (ap (at (λ k. fade (uses k)) n Lost) e ∙ at_new (λ k. fade (uses k)) n Lost) us))
          (λ ne. faded_usable true (uses m) (subst IsUsable (at_old (λ k. fade (uses k)) n Lost m ne) us))
          (cases_eq m n)

  both : (xs : List Act) → AllFit xs × AllTake xs
  both [] = (λ uses ts good holds acts. tt, λ n uses ts good own holds acts. absurd holds)
  both (Made n x ∷ as') = (
    (λ uses ts good holds acts. made_by n x as' (both as').0 (both as').1 uses ts good acts.0 acts.1 (is_call x.operator.op) (room_of es n) refl holds),
    (λ m uses ts good own holds acts. absurd holds),
  )
  both (Acts x ∷ as') = (acts_fit x as' (both as').0, acts_take x as' (both as').0)

  pub all_fit : (xs : List Act) → AllFit xs
  all_fit xs = (both xs).0

-- The values of an open block's nodes, as it grows.
use Rattle.std.proofs.Common.{◌≡◌, ⊎_elim, ℕ, ◌+◌, ◌<◌, ◌≤◌, Bool, true, false, true≢false, Some, List, [], ◌∷◌, ◌++◌, length, slice_get, refl, sym, ap, ◌∙◌, subst, arith, append_assoc}
use Rattle.std.specs.Prelude.{◌||◌, if◌then◌else◌}
use Rattle.op_forest.specs.Nodes.{Head}
use Rattle.forests.specs.Words.{Word}
use Rattle.forests.specs.Worlds.{World, Point, Move, Went}
use Rattle.forests.specs.Bodies.{Setting, does}
use Rattle.forests.specs.Alike.{AreAlike}
use Rattle.forests.specs.Budgets.{with_left}
use Rattle.forests.specs.Kept.{CallsKeep, Kept}
use Rattle.forests.proofs.lemmas.Kept.{does_kept}
use Rattle.dag_forest.specs.declared.entry.Entry.{Entry}
use Rattle.dag_forest.specs.declared.entry.Entry.TheVariants.{Value, Root}
use Rattle.dag_forest.specs.declared.key.Key.{Key}
use Rattle.dag_forest.specs.declared.kids.Kids.{Kids}
use Rattle.dag_forest.specs.declared.kids.Kids.TheVariants.{Zero, One, Two}
use Rattle.dag_forest.specs.declared.parts.Parts.{Parts}
use Rattle.dag_forest.specs.Entries.{AreBelow, is_call, is_read, is_write}
use Rattle.dag_forest.specs.Meaning.{is_end, Leaves, Temporary, Keeps, IsTemporary, HasNow}
use Rattle.dag_forest.specs.Schedules.{is_in, kids_list, head_of, operands, at}
use Rattle.dag_forest.specs.Tally.{kids_call, tally, keys_of, key_behind, AreFormed, node_count, ends}
use Rattle.dag_seam.specs.Turns.{made_of}
use Rattle.dag_seam.specs.Open.{IsNow, Open}
use Rattle.dag_forest.proofs.lemmas.Maps.{at_new, at_old}
use Rattle.dag_seam.proofs.lemmas.Keys.{keys_value, keys_root, stretch_value, stretch_root, last_get, read_mark, are_marked, count_keys, are_earlier, within, call_ends}
use Rattle.dag_seam.proofs.lemmas.MadeNodes.{next_unmade, made_more}

-- the operands are other nodes than a later one
operands_below : (k : Kids) (m n : ℕ) (values : ℕ → Word) (v : Word) → AreBelow m k → m ≤ n → operands k (at values n v) ≡ operands k values
operands_below Zero m n values v below l = refl
operands_below (One a) m n values v below l = ap (λ z. z ∷ []) (at_old values n v a (λ e. let q : a < m = below in omega (arith, e, q, l)))
operands_below (Two a c) m n values v below l = (λ i. at_old values n v a (λ e. let q = below.0 in omega (arith, e, q, l)) i ∷ at_old values n v c (λ e. let q = below.1 in omega (arith, e, q, l)) i ∷ [])

module _ (s : Setting) (keeps : Keeps) where
  -- what has a value now has it in another world, where the same objects live, and for a read are the same
  now_moves : (b : Bool) (made made1 : ℕ → Bool) (h : Head) (ws : List Word) (w w1 : World) (v : Word) → AreAlike w.objects w1.objects → ((m : ℕ) → made1 m ≡ false → made m ≡ false)
      → (b ≡ true → (o : ℕ) → ((m : ℕ) (t : Temporary) → made1 m ≡ false → keeps m ≡ Some t → o ≡ t.object → ⊥) → ((m : ℕ) (t : Temporary) → made m ≡ false → keeps m ≡ Some t → o ≡ t.object → ⊥) → slice_get w1.objects o ≡ slice_get w.objects o)
      → HasNow b s keeps made h ws w v → HasNow b s keeps made1 h ws w1 v
  now_moves false made made1 h ws w w1 v alike more same now = λ p like. now p (alike ∙ like)
  now_moves true made made1 h ws w w1 v alike more same now = λ p like but. now p (alike ∙ like) (λ o off. but o (λ m t un. off m t (more m un)) ∙ same refl o (λ m t un. off m t (more m un)) off)

  -- a read of a stretch that has ended has no value now
  pub value_holds : (es : List Entry) (values : ℕ → Word) (w : World) → Open s keeps es values w → (x : Parts) (n : ℕ) → slice_get (keys_of es) n ≡ Some (key_behind es x) → is_call x.operator.op ≡ false → IsNow s keeps (made_of es) x values w (values n)
  value_holds es values w is_open x n is plain = is_open.now n (key_behind es x) is plain (λ r. read_mark x.operator.op (tally es).stretch (length (keys_of es)) r)

  pub none_open : (values : ℕ → Word) (w : World) → Open s keeps [] values w
  none_open values w = record { now = λ m k is plain mark. let no : ⊥ = cc in absurd no }

  module _ (es : List Entry) (formed : AreFormed es 0) (values : ℕ → Word) (w : World) (is_open : Open s keeps es values w) (x : Parts) (below : AreBelow (node_count es) x.kids) (v : Word) where
    opened : (w1 : World)
        → ((b : Bool) (h : Head) (ws : List Word) (u : Word) → HasNow b s keeps (made_of es) h ws w u → HasNow b s keeps (made_of (es ++ Value x ∷ [])) h ws w1 u)
        → (is_call x.operator.op ≡ false → IsNow s keeps (made_of es) x values w v)
        → Open s keeps (es ++ Value x ∷ []) (at values (node_count es) v) w1
    opened w1 moves now = record {
      now = λ m k is plain mark. ⊎_elim
          (λ q.
          let l = within (keys_of es) m k q in let c = count_keys es in
          let ne : m ≡ node_count es → ⊥ = λ e. omega (arith, e, l, c) in
          subst (λ u. IsNow s keeps (made_of (es ++ Value x ∷ [])) k.parts (at values (node_count es) v) w1 u) (sym (at_old values (node_count es) v m ne))
          (subst (λ ws. HasNow (is_read k.parts.operator.op) s keeps (made_of (es ++ Value x ∷ [])) (head_of k.parts) ws w1 (values m)) (sym (operands_below k.parts.kids m (node_count es) values v (are_earlier es formed m k q) (omega (arith, l, c))))
          (moves (is_read k.parts.operator.op) (head_of k.parts) (operands k.parts.kids values) (values m) (is_open.now m k q plain (λ r. mark r ∙ stretch_value es x)))))
          (λ q.
          let here : m ≡ node_count es = q.0 ∙ count_keys es in
          let parts : x ≡ k.parts = ap (λ (z : Key). z.parts) q.1 in
          subst (λ u. IsNow s keeps (made_of (es ++ Value x ∷ [])) k.parts (at values (node_count es) v) w1 u) (sym (ap (at values (node_count es) v) here ∙ at_new values (node_count es) v))
          (subst (λ (z : Parts). IsNow s keeps (made_of (es ++ Value x ∷ [])) z (at values (node_count es) v) w1 v) parts
          (subst (λ ws. HasNow (is_read x.operator.op) s keeps (made_of (es ++ Value x ∷ [])) (head_of x) ws w1 v) (sym (operands_below x.kids (node_count es) (node_count es) values v below (omega arith)))
          (moves (is_read x.operator.op) (head_of x) (operands x.kids values) v (now (ap (λ (z : Parts). is_call z.operator.op) parts ∙ plain))))))
          (last_get (keys_of es) (key_behind es x) m k (sym (ap (λ z. slice_get z m) (keys_value es x)) ∙ is));
    }

    -- a new node without a temporary
    pub node_open : (is_call x.operator.op ≡ false → IsNow s keeps (made_of es) x values w v) → Open s keeps (es ++ Value x ∷ []) (at values (node_count es) v) w
    node_open now = opened w (λ b h ws u. now_moves b (made_of es) (made_of (es ++ Value x ∷ [])) h ws w w u refl (made_more es (Value x ∷ [])) (λ r o off old. refl)) now

    -- one that is kept
    pub kept_open : (t : Temporary) → keeps (node_count es) ≡ Some t → IsTemporary s t → (is_call x.operator.op ≡ false → IsNow s keeps (made_of es) x values w v) → Open s keeps (es ++ Value x ∷ []) (at values (node_count es) v) (t.put v w)
    kept_open t is law now = opened (t.put v w)
        (λ b h ws u. now_moves b (made_of es) (made_of (es ++ Value x ∷ [])) h ws w (t.put v w) u (law.shape v w) (made_more es (Value x ∷ [])) (λ r o off old. law.others v w o (old (node_count es) t (next_unmade es) is)))
        now

  module _ (es : List Entry) (values : ℕ → Word) (w : World) (is_open : Open s keeps es values w) (x : Parts) (w1 : World) (alike : AreAlike w.objects w1.objects) (same : ends (tally es).calling x ≡ false → (o : ℕ) → slice_get w1.objects o ≡ slice_get w.objects o) where
    -- behind a root that leaves the objects as they are, or ends the stretch
    pub root_open : Open s keeps (es ++ Root x ∷ []) values w1
    root_open = record {
      now = λ m k is plain mark. by m k (sym (ap (λ z. slice_get z m) (keys_root es x)) ∙ is) plain (λ r. mark r ∙ stretch_root es x) (is_read k.parts.operator.op) (ends (tally es).calling x) refl refl;
    }
      where
        by : (m : ℕ) (k : Key) → slice_get (keys_of es) m ≡ Some k → is_call k.parts.operator.op ≡ false → (is_read k.parts.operator.op ≡ true → k.mark ≡ (tally es).stretch + (if ends (tally es).calling x then 1 else 0))
            → (r e : Bool) → is_read k.parts.operator.op ≡ r → ends (tally es).calling x ≡ e → IsNow s keeps (made_of (es ++ Root x ∷ [])) k.parts values w1 (values m)
        by m k is plain mark true true r e =
            let l : k.mark ≤ (tally es).stretch = (are_marked es).marks m k is r in
            let q : k.mark ≡ (tally es).stretch + 1 = mark r ∙ ap (λ b. (tally es).stretch + (if b then 1 else 0)) e in
            absurd (omega (arith, l, q))
        by m k is plain mark true false r e =
            now_moves (is_read k.parts.operator.op) (made_of es) (made_of (es ++ Root x ∷ [])) (head_of k.parts) (operands k.parts.kids values) w w1 (values m) alike (made_more es (Root x ∷ [])) (λ z o off old. same e o)
            (is_open.now m k is plain (λ z. mark z ∙ ap (λ b. (tally es).stretch + (if b then 1 else 0)) e ∙ (let n : (tally es).stretch + 0 ≡ (tally es).stretch = omega arith in n)))
        by m k is plain mark false e r q =
            now_moves (is_read k.parts.operator.op) (made_of es) (made_of (es ++ Root x ∷ [])) (head_of k.parts) (operands k.parts.kids values) w w1 (values m) alike (made_more es (Root x ∷ [])) (λ z o off old. absurd (true≢false (sym z ∙ r)))
            (is_open.now m k is plain (λ z. absurd (true≢false (sym z ∙ r))))

  not_end : (w c k : Bool) → (w || (c || k)) ≡ false → (w || c) ≡ false
  not_end true c k h = h
  not_end false true k h = h
  not_end false false k h = refl

  pub root_acts : CallsKeep s.call → (es : List Entry) (values : ℕ → Word) (w : World) → Open s keeps es values w → (x : Parts) (left : ℕ) (vs : List Word) (p : Point) (move : Move) → does s (head_of x) (operands x.kids values) (with_left left w) ≡ Went vs p move → Leaves (is_end x) keeps (made_of es) w p.world
      → Open s keeps (es ++ Root x ∷ []) values p.world
  root_acts keep es values w is_open x left vs p move e leaves =
      let kept : Kept w (Went vs p move) = subst (Kept w) e (does_kept s keep (head_of x) (operands x.kids values) (with_left left w)) in
      root_open es values w is_open x p.world (sym kept.shapes)
      (λ none o. by (not_end (is_write x.operator.op) (is_call x.operator.op) (kids_call (tally es).calling x.kids) none) o)
    where
      by : is_end x ≡ false → (o : ℕ) → slice_get p.world.objects o ≡ slice_get w.objects o
      by none = subst (λ b. Leaves b keeps (made_of es) w p.world) none leaves

  pub call_holds : (es : List Entry) → AreFormed es 0 → (values : ℕ → Word) (w : World) → Open s keeps es values w → (c a : Parts) → AreBelow (node_count es) c.kids → is_call c.operator.op ≡ true → is_in (node_count es) (kids_list a.kids) ≡ true → (v : Word) (w1 : World) → AreAlike w.objects w1.objects
      → Open s keeps (es ++ Value c ∷ Root a ∷ []) (at values (node_count es) v) w1
  call_holds es formed values w is_open c a below calls within v w1 alike =
      subst (λ z. Open s keeps z (at values (node_count es) v) w1) (append_assoc es (Value c ∷ []) (Root a ∷ []))
      (root_open (es ++ Value c ∷ []) (at values (node_count es) v) w
      (node_open es formed values w is_open c below v (λ plain. absurd (true≢false (sym calls ∙ plain))))
      a w1 alike (λ none. absurd (true≢false (sym (call_ends es c a calls within) ∙ none))))

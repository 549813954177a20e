-- A block that is asked for a node whose operator gives a word now: the node has it, and the run stands there.
use Rattle.std.specs.Prelude.{◌≡◌, ◌≤◌, ◌<◌, ℕ, suc, ◌+◌, Bool, true, false, is_none, Option, Some, None, List, [], ◌∷◌, ◌++◌, length, slice_get}
use Rattle.std.proofs.Common.{⊎_elim, refl, sym, ap, subst, ◌∙◌, arith}
use Rattle.lcc_base.specs.declared.cause.Cause.{Cause}
use Rattle.op_forest.specs.declared.frame.Slot.{Slot}
use Rattle.op_forest.specs.declared.op.Op.{Op}
use Rattle.op_forest.specs.declared.op.Op.TheVariants as op
use Rattle.op_forest.specs.Nodes.{Head}
use Rattle.forests.specs.Actions.{Action, Gave, effect_of}
use Rattle.forests.specs.Alike.{AreAlike}
use Rattle.forests.specs.Bodies.{Setting, does}
use Rattle.forests.specs.Budgets.{with_left}
use Rattle.forests.specs.Rows.{acts}
use Rattle.forests.specs.Words.{Word, IsWord}
use Rattle.forests.specs.Worlds.{World, Point, Outcome, Next, Went}
use Rattle.dag_forest.specs.declared.act.Act.TheVariants.{Made}
use Rattle.dag_forest.specs.declared.entry.Entry.{Entry}
use Rattle.dag_forest.specs.declared.entry.Entry.TheVariants as entry
use Rattle.dag_forest.specs.declared.parts.Parts.{Parts}
use Rattle.dag_forest.specs.Choice.{kind_of}
use Rattle.dag_forest.specs.Entries.{AreBelow, is_call, is_read}
use Rattle.dag_forest.specs.Meaning.{Keeps, Temporary, IsTemporary, CanKeep, IsThere, HasNow, MadeRuns, is_handing, Ran, Through, RunsBehind, Runs}
use Rattle.dag_forest.specs.Schedules.{at, head_of, operands}
use Rattle.dag_forest.specs.Slots.{slot_temporary}
use Rattle.dag_forest.specs.Split.{slot_name}
use Rattle.dag_forest.specs.Tally.{keys_of, key_behind, node_count}
use Rattle.dag_forest.proofs.lemmas.Maps.{at_new, at_old}
use Rattle.dag_seam.specs.Laws.{GoesOn}
use Rattle.dag_seam.specs.Open.{IsNow}
use Rattle.dag_seam.specs.Turns.{made_of}
use Rattle.dag_seam.proofs.lemmas.Keys.{count_keys}
use Rattle.dag_seam.proofs.lemmas.Opening.{value_holds, node_open, kept_open}
use Rattle.dag_seam.proofs.lemmas.Turns.{node_goes_on}
use Rattle.c_runs.specs.Worlds as c
use Rattle.c_match.specs.Ranges.{Map}
use Rattle.c_rows_agree.proofs.lemmas.Staying.{operator_stays, read_stays}
use Rattle.piece_runs.specs.Pieces.{Piece, Front}
use Rattle.piece_runs.specs.Reaches.{acting, keeps_at, Reaches}
use Rattle.piece_runs.proofs.lemmas.Reached.{entries_are_reached}
use Rattle.piece_runs.proofs.lemmas.Tails.{keeps_are_same}
use Rattle.c_expr_agreement.specs.Scenes.{Scene}
use Rattle.lowered_forms.specs.Blocks.{IsBlock}
use Rattle.lowered_forms.specs.Later.{IsFront}
use Rattle.lowered_forms.specs.Asked.{Asked, key_place, found_or_new, asked_parts}
use Rattle.lowered_forms.proofs.lemmas.Blocks.{parts_there}
use Rattle.lowered_forms.proofs.lemmas.KeyPlaces.{found_there}
use Rattle.c_straight_agree.specs.Narrow.{CharsAreNarrow, ShortsAreNarrow}
use Rattle.c_straight_agree.specs.Settled.{IsApart, IsMild, IsNear}
use Rattle.c_straight_agree.specs.Standing.{IsBody}
use Rattle.c_straight_agree.proofs.lemmas.At.{At, at_front, behind_same}
use Rattle.c_straight_agree.proofs.lemmas.Kept.{last_slot}
use Rattle.c_straight_agree.proofs.lemmas.Mild.{mild_cases, mild_still, mild_no_call}
use Rattle.c_straight_agree.proofs.lemmas.Near.{near_itself}
use Rattle.c_straight_agree.proofs.lemmas.Putting.{can_keep, still_free, put_in, put_matches, put_frame}

-- the operand of a read points to no temporary
abbrev pub AreApart : Keeps → List Word → Type 0
AreApart keeps [] = ⊥
AreApart keeps (x ∷ []) = IsApart keeps x
AreApart keeps (x ∷ y ∷ ws) = ⊥

-- ---- what an operator gives now

module _ (s : Setting) (keeps : Keeps) (made : ℕ → Bool) (h : Head) (w : World) (v : Word) where
  now_by : (b : Bool) (ws : List Word) → is_read h.operator.op ≡ b → ((p : Point) → AreAlike w.objects p.world.objects → does s h ws p ≡ Went (v ∷ []) p Next) → HasNow b s keeps made h ws w v
  now_by true ws e go = λ p alike but. go p alike
  now_by false ws e go = λ p alike. go p alike

  still_now : (ws : List Word) → IsMild h.operator.op ⊥ → acts s.environment h ws w.objects ≡ Gave v → HasNow (is_read h.operator.op) s keeps made h ws w v
  still_now ws mild e = now_by (is_read h.operator.op) ws refl (λ p alike. operator_stays s h ws w.objects p v (mild_still h.operator.op mild) alike e)

  read_now : (x : Word) → h.operator.op ≡ op.Indir → IsApart keeps x → acts s.environment h (x ∷ []) w.objects ≡ Gave v → HasNow true s keeps made h (x ∷ []) w v
  read_now x read apart e = λ p alike but.
      read_stays s h x w.objects p v read alike (λ name offset is. sym (but name.place (λ m t unmade kept same. apart name offset is m t kept (sym same)))) e

  one_now : (x : Word) → IsMild h.operator.op (IsApart keeps x) → acts s.environment h (x ∷ []) w.objects ≡ Gave v → HasNow (is_read h.operator.op) s keeps made h (x ∷ []) w v
  one_now x mild e = ⊎_elim
      (λ q. subst (λ (o : Op). HasNow (is_read o) s keeps made h (x ∷ []) w v) (sym q.0) (read_now x q.0 q.1 e))
      (λ q. now_by (is_read h.operator.op) (x ∷ []) refl (λ p alike. operator_stays s h (x ∷ []) w.objects p v q.0 alike e))
      (mild_cases h.operator.op (IsApart keeps x) mild)

  pub gives_now : (ws : List Word) → IsMild h.operator.op (AreApart keeps ws) → acts s.environment h ws w.objects ≡ Gave v → HasNow (is_read h.operator.op) s keeps made h ws w v
  gives_now [] mild e = still_now [] mild e
  gives_now (x ∷ []) mild e = one_now x mild e
  gives_now (x ∷ y ∷ ws) mild e = still_now (x ∷ y ∷ ws) mild e

  here : (b : Bool) (ws : List Word) → HasNow b s keeps made h ws w v → does s h ws (with_left 0 w) ≡ Went (v ∷ []) (with_left 0 w) Next
  here true ws now = now (with_left 0 w) refl (λ o off. refl)
  here false ws now = now (with_left 0 w) refl

one_word : (u v : Word) (p : Point) → Went (u ∷ []) p Next ≡ Went (v ∷ []) p Next → u ≡ v
one_word u v p e = cc

-- what it has now is what it gives
now_once : (s : Setting) (keeps : Keeps) (made : ℕ → Bool) (h : Head) (ws : List Word) (w : World) (u v : Word) → HasNow (is_read h.operator.op) s keeps made h ws w u → acts s.environment h ws w.objects ≡ Gave v → u ≡ v
now_once s keeps made h ws w u v now e =
    one_word u v (with_left 0 w) (sym (here s keeps made h w u (is_read h.operator.op) ws now) ∙ ap (λ (x : Action). effect_of s.call x (with_left 0 w)) e)

-- ---- a new node is made

behind_node : (calls : Bool) (kept : Option Temporary) (s : Setting) (keeps : Keeps) (made : ℕ → Bool) (values : ℕ → Word) (left : ℕ) (w : World) → calls ≡ false → RunsBehind (is_handing calls kept) s keeps [] made values left w (Through values (with_left left w))
behind_node false kept s keeps made values left w x = refl
behind_node true kept s keeps made values left w x = absurd (let never : ⊥ = cc in never)

plain_made : (calls : Bool) (kept : Option Temporary) (s : Setting) (keeps : Keeps) (made : ℕ → Bool) (h : Head) (ws : List Word) (left : ℕ) (w : World) (r : Ran) (go : Word → Point → Type 0) (v : Word)
    → calls ≡ false → kept ≡ None → HasNow (is_read h.operator.op) s keeps made h ws w v → go v (with_left left w) → MadeRuns calls kept s keeps made h ws left w r go
plain_made false None s keeps made h ws left w r go v x y now g = (v, now, g)
plain_made false (Some t) s keeps made h ws left w r go v x y now g = absurd (let never : ⊥ = cc in never)
plain_made true kept s keeps made h ws left w r go v x y now g = absurd (let never : ⊥ = cc in never)

kept_made : (calls : Bool) (kept : Option Temporary) (t : Temporary) (s : Setting) (keeps : Keeps) (made : ℕ → Bool) (h : Head) (ws : List Word) (left : ℕ) (w : World) (r : Ran) (go : Word → Point → Type 0) (v : Word)
    → calls ≡ false → Some t ≡ kept → HasNow (is_read h.operator.op) s keeps made h ws w v → CanKeep t v → IsThere t w → go v (with_left left (t.put v w)) → MadeRuns calls kept s keeps made h ws (suc left) w r go
kept_made false (Some u) t s keeps made h ws left w r go v x y now can there g =
    let same : t ≡ u = cc in
    (v, now, subst (λ (z : Temporary). CanKeep z v) same can, subst (λ (z : Temporary). IsThere z w) same there, subst (λ (z : Temporary). go v (with_left left (z.put v w))) same g)
kept_made false None t s keeps made h ws left w r go v x y now can there g = absurd (let never : ⊥ = cc in never)
kept_made true kept t s keeps made h ws left w r go v x y now can there g = absurd (let never : ⊥ = cc in never)

-- ---- the node that is asked for

-- The run stands where the node is there, and it has the word.
pub record Answers (s : Scene) (start : ℕ → Outcome) (turns : ℕ) (done : List Piece) (slots : List Slot) (keeps : Keeps) (k : ℕ) (map : Map) (old : c.World) (n : ℕ) (values : ℕ → Word) (w : World) (a : Asked) (h : Front s.body.pieces done a.entries) (v : Word) : Type 0 where
  pub others : ℕ → Word
  pub world : World
  pub stands : At s start turns done slots keeps k map old a.entries h others world
  pub near : IsNear keeps n values others w world
  pub has : others a.node ≡ v

module _ (chars : CharsAreNarrow) (shorts : ShortsAreNarrow) (s : Scene) (locals : ℕ) (body : IsBody s locals) (start : ℕ → Outcome) (turns : ℕ) (done : List Piece) (slots : List Slot) (le : locals ≤ length slots) (keeps : Keeps) (k : ℕ) (map : Map) (old : c.World) where
  module _ (es : List Entry) (f : Front s.body.pieces done es) (values : ℕ → Word) (w : World) (st : At s start turns done slots keeps k map old es f values w) (x : Parts) (below : AreBelow (node_count es) x.kids) (v : Word) (word : IsWord v)
      (mild : IsMild x.operator.op (AreApart keeps (operands x.kids values))) (gives : acts s.body.setting.environment (head_of x) (operands x.kids values) w.objects ≡ Gave v) where
    now : IsNow (acting s.body) keeps (made_of es) x values w v
    now = gives_now (acting s.body) keeps (made_of es) (head_of x) w v (operands x.kids values) mild gives

    plain : is_call x.operator.op ≡ false
    plain = mild_no_call x.operator.op (AreApart keeps (operands x.kids values)) mild

    -- it is there already
    found : (m : ℕ) (h : Front s.body.pieces done es) → slice_get (keys_of es) m ≡ Some (key_behind es x) → Answers s start turns done slots keeps k map old (node_count es) values w (record { node = m; entries = es }) h v
    found m h is = record {
      others = values;
      world = w;
      stands = at_front s start turns done slots keeps k map old es f h values w st;
      near = near_itself keeps (node_count es) values w;
      has = now_once (acting s.body) keeps (made_of es) (head_of x) (operands x.kids values) w (values m) v (value_holds (acting s.body) keeps es values w st.opened x m is plain) gives;
    }

    on : GoesOn es (entry.Value x ∷ []) (Made (node_count es) x ∷ [])
    on = node_goes_on es st.none_waits x plain

    further : (m : ℕ) → m < node_count es → at values (node_count es) v m ≡ values m
    further m lt = at_old values (node_count es) v m (λ same. let never : ⊥ = omega (arith, lt, same) in never)

    at_last : at values (node_count es) v (length (keys_of es)) ≡ v
    at_last = ap (at values (node_count es) v) (count_keys es) ∙ at_new values (node_count es) v

    module _ (h : Front s.body.pieces done (es ++ entry.Value x ∷ [])) (block : IsBlock (es ++ entry.Value x ∷ [])) where
      keeps_there : keeps_at s.body done (es ++ entry.Value x ∷ []) h ≡ keeps
      keeps_there = sym (keeps_are_same s.body done es (es ++ entry.Value x ∷ []) f h) ∙ st.keeps_is

      behind_there : IsFront slots h.before
      behind_there = behind_same s.body slots done es (es ++ entry.Value x ∷ []) f h st.behind

      arrived : (world : World) → (inside : ℕ → ℕ) → ((left : ℕ) → left + k ≤ inside left + k) → ((left : ℕ) → Runs (acting s.body) keeps (Made (node_count es) x ∷ []) (made_of es) values (inside left) w (Through (at values (node_count es) v) (with_left left world)))
          → Reaches s.body start turns done (es ++ entry.Value x ∷ []) h (at values (node_count es) v) world k
      arrived world inside paid runs =
          entries_are_reached s.body start turns done es (entry.Value x ∷ []) (Made (node_count es) x ∷ []) f h values (at values (node_count es) v) w world k k on st.reaches
          (λ left. (inside left, paid left, subst (λ (ks : Keeps). Runs (acting s.body) ks (Made (node_count es) x ∷ []) (made_of es) values (inside left) w (Through (at values (node_count es) v) (with_left left world))) (sym st.keeps_is) (runs left)))

      -- it is new, and has no temporary
      new_plain : keeps (node_count es) ≡ None → Answers s start turns done slots keeps k map old (node_count es) values w (record { node = length (keys_of es); entries = es ++ entry.Value x ∷ [] }) h v
      new_plain none = record {
        others = at values (node_count es) v;
        world = w;
        stands = record {
          block = block;
          none_waits = on.1;
          behind = behind_there;
          reaches = arrived w (λ left. left) (λ left. omega arith)
              (λ left. plain_made (is_call x.operator.op) (keeps (node_count es)) (acting s.body) keeps (made_of es) (head_of x) (operands x.kids values) left w (Through (at values (node_count es) v) (with_left left w))
              _ v plain none now (behind_node (is_call x.operator.op) (keeps (node_count es)) (acting s.body) keeps _ (at values (node_count es) v) left w plain));
          matches = st.matches;
          frame = st.frame;
          opened = node_open (acting s.body) keeps es st.block.formed values w st.opened x below v (λ p. now);
          free = st.free;
          keeps_is = keeps_there;
        };
        near = record { kept = further; alike = refl; same = λ place lone. refl; arguments = refl };
        has = at_last;
      }

      -- it is new, and kept in a slot
      new_kept : (t : Temporary) → keeps (node_count es) ≡ Some t → Answers s start turns done slots keeps k map old (node_count es) values w (record { node = length (keys_of es); entries = es ++ entry.Value x ∷ [] }) h v
      new_kept t e =
          let slot = last_slot s locals body slots done es x h behind_there t (ap (λ (ks : Keeps). ks (node_count es)) keeps_there ∙ e) in
          let kind = kind_of x.operator.suffix in
          let temporary = slot_temporary s.body.setting.environment.order kind (slot_name s.body.setting.environment.home slot.number) slot.offset in
          let is : keeps (node_count es) ≡ Some temporary = e ∙ ap (λ (z : Temporary). Some z) slot.is in
          let law = subst (IsTemporary (acting s.body)) slot.is slot.law in
          let world = put_in s locals body slots le map old kind slot.number slot.offset v w in
          let can : CanKeep temporary v = can_keep chars shorts s.body.setting.environment (head_of x) (operands x.kids values) w.objects v word gives in
          let free : IsThere temporary w = ap (λ (o : Option Cause). is_none o) (st.free slot.number slot.slot slot.there slot.size) in
          record {
            others = at values (node_count es) v;
            world = world;
            stands = record {
              block = block;
              none_waits = on.1;
              behind = behind_there;
              reaches = arrived world (λ left. suc left) (λ left. omega arith)
                  (λ left. kept_made (is_call x.operator.op) (keeps (node_count es)) temporary (acting s.body) keeps (made_of es) (head_of x) (operands x.kids values) left w (Through (at values (node_count es) v) (with_left left world))
                  _ v plain (sym is) now can free (behind_node (is_call x.operator.op) (keeps (node_count es)) (acting s.body) keeps _ (at values (node_count es) v) left world plain));
              matches = put_matches s locals body slots le map old kind slot.number slot.offset slot.slot slot.behind slot.there v word w st.frame st.matches;
              frame = put_frame s locals body slots le map old kind slot.number slot.offset slot.slot slot.behind slot.there v word w st.frame;
              opened = kept_open (acting s.body) keeps es st.block.formed values w st.opened x below v temporary is law (λ p. now);
              free = still_free s w world (law.shape v w) st.free;
              keeps_is = keeps_there;
            };
            near = record { kept = further; alike = law.shape v w; same = λ place lone. law.others v w place (λ same. lone (node_count es) temporary is (sym same)); arguments = refl };
            has = at_last;
          }

      new_by : (kept : Option Temporary) → keeps (node_count es) ≡ kept → Answers s start turns done slots keeps k map old (node_count es) values w (record { node = length (keys_of es); entries = es ++ entry.Value x ∷ [] }) h v
      new_by None e = new_plain e
      new_by (Some t) e = new_kept t e

    answers_by : (o : Option ℕ) → key_place (key_behind es x) (keys_of es) 0 ≡ o → IsBlock (found_or_new o x es).entries → (h : Front s.body.pieces done (found_or_new o x es).entries) → Answers s start turns done slots keeps k map old (node_count es) values w (found_or_new o x es) h v
    answers_by (Some m) e block h = found m h (found_there (key_behind es x) (keys_of es) m e)
    answers_by None e block h = new_by h block (keeps (node_count es)) refl

    pub node_answers : (h : Front s.body.pieces done (asked_parts x es).entries) → Answers s start turns done slots keeps k map old (node_count es) values w (asked_parts x es) h v
    node_answers h = answers_by (key_place (key_behind es x) (keys_of es) 0) refl (parts_there x es st.block below).block h

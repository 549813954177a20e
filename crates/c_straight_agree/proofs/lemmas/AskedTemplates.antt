-- A block that is asked for a template that gives a word now: its node has it, and the run stands there.
use Rattle.std.specs.Prelude.{◌≤◌, ◌<◌, ℕ, Option, Some, None, List, [], ◌∷◌, length}
use Rattle.std.proofs.Common.{sym, subst, arith}
use Rattle.op_forest.specs.declared.frame.Slot.{Slot}
use Rattle.forests.specs.Actions.{Gave}
use Rattle.forests.specs.Words.{Word}
use Rattle.forests.specs.Worlds.{World, Outcome}
use Rattle.dag_forest.specs.declared.entry.Entry.{Entry}
use Rattle.dag_forest.specs.declared.kids.Kids.TheVariants as kids
use Rattle.dag_forest.specs.Meaning.{Keeps}
use Rattle.dag_forest.specs.Tally.{node_count}
use Rattle.c_runs.specs.Worlds as c
use Rattle.c_match.specs.Ranges.{Map}
use Rattle.c_rows_agree.specs.Templates.{Template, Given, Leaf, One, Two, Gives}
use Rattle.piece_runs.specs.Pieces.{Piece, Front}
use Rattle.c_expr_agreement.specs.Scenes.{Scene}
use Rattle.dag_forest.specs.declared.entry.Entry.TheVariants as entry
use Rattle.dag_forest.specs.declared.parts.Parts.{Parts}
use Rattle.dag_forest.specs.Tally.{keys_of, key_behind}
use Rattle.lowered_forms.specs.Asked.{key_place, found_or_new, asked_parts, with_kids, asked}
use Rattle.lowered_forms.specs.Blocks.{IsWithin}
use Rattle.lowered_forms.specs.Later.{IsFront}
use Rattle.lowered_forms.proofs.lemmas.Blocks.{asked_there, within_more}
use Rattle.lowered_forms.proofs.lemmas.Fronts.{front_itself, front_before, asked_adds}
use Rattle.c_straight_agree.specs.Narrow.{CharsAreNarrow, ShortsAreNarrow}
use Rattle.c_straight_agree.specs.Settled.{seen, IsApart, IsMild, IsSettled}
use Rattle.c_straight_agree.specs.Standing.{IsBody}
use Rattle.c_straight_agree.proofs.lemmas.AskedNodes.{Answers, node_answers}
use Rattle.c_straight_agree.proofs.lemmas.At.{At, front_of, at_front}
use Rattle.c_straight_agree.proofs.lemmas.Mild.{mild_map, same_words, acts_on_one, acts_on_two}
use Rattle.c_straight_agree.proofs.lemmas.Near.{near_itself, near_joins, gives_word, leaf_near, one_near, near_gives, near_settled}

-- the entries go on where a node is asked for
front_by : (o : Option ℕ) (x : Parts) (es : List Entry) → IsFront es (found_or_new o x es).entries
front_by (Some n) x es = front_itself es
front_by None x es = front_before es (entry.Value x ∷ [])

parts_front : (x : Parts) (es : List Entry) → IsFront es (asked_parts x es).entries
parts_front x es = front_by (key_place (key_behind es x) (keys_of es) 0) x es

module _ (chars : CharsAreNarrow) (shorts : ShortsAreNarrow) (s : Scene) (locals : ℕ) (body : IsBody s locals) (start : ℕ → Outcome) (turns : ℕ) (done : List Piece) (slots : List Slot) (le : locals ≤ length slots) (keeps : Keeps) (k : ℕ) (map : Map) (old : c.World) where
  abbrev Asks : (es : List Entry) → (ℕ → Word) → World → (t : Template) → Front s.body.pieces done (asked t es).entries → Word → Type 0
  Asks es values w t h u = Answers s start turns done slots keeps k map old (node_count es) values w (asked t es) h u

  pub template_answers : (t : Template) (es : List Entry) (f : Front s.body.pieces done es) (values : ℕ → Word) (w : World) → At s start turns done slots keeps k map old es f values w → IsWithin (node_count es) t → IsSettled keeps (seen s.body map values w) t
      → (u : Word) → Gives (seen s.body map values w) t u → (h : Front s.body.pieces done (asked t es).entries) → Asks es values w t h u
  template_answers (Given n) es f values w st within settled u gives h = record {
    others = values;
    world = w;
    stands = at_front s start turns done slots keeps k map old es f h values w st;
    near = near_itself keeps (node_count es) values w;
    has = gives;
  }
  template_answers (Leaf x) es f values w st within settled u gives h =
      node_answers chars shorts s locals body start turns done slots le keeps k map old es f values w st (with_kids x kids.Zero) tt u
      (gives_word (seen s.body map values w) keeps st.matches.sound.objects body.words (Leaf x) u settled gives) settled gives h
  template_answers (One x a) es f values w st within settled u gives h =
      let first = asked a es in
      let fs = first.entries in
      let x1 = with_kids x (kids.One first.node) in
      let there = asked_there a es st.block within in
      let g = front_of s.body.pieces done fs (asked_parts x1 fs).entries (parts_front x1 fs) h in
      let m = template_answers a es f values w st within settled.0 gives.0 gives.1 g in
      let word = gives_word (seen s.body map values w) keeps st.matches.sound.objects body.words (One x a) u settled gives in
      let mild = mild_map x.operator.op _ (IsApart keeps gives.0) (λ z. z gives.0 gives.1) settled.1 in
      let acts_now = one_near keeps s.body map map (node_count es) values m.others w m.world m.near x gives.0 u mild gives.2 in
      let n = node_answers chars shorts s locals body start turns done slots le keeps k map old fs g m.others m.world m.stands x1 there.below u word
      (subst (λ (z : Word). IsMild x.operator.op (IsApart keeps z)) (sym m.has) mild)
      (acts_on_one s.body.setting.environment x m.world.objects (m.others first.node) gives.0 (Gave u) m.has acts_now) h in
      record {
        others = n.others;
        world = n.world;
        stands = n.stands;
        near = near_joins keeps (node_count es) (node_count fs) values m.others n.others w m.world n.world there.others m.near n.near;
        has = n.has;
      }
  template_answers (Two x a b) es f values w st within settled u gives h =
      let first = asked a es in
      let fs = first.entries in
      let second = asked b fs in
      let gs = second.entries in
      let x1 = with_kids x (kids.Two first.node second.node) in
      let there = asked_there a es st.block within.0 in
      let within_b = within_more (node_count es) (node_count fs) b there.others within.1 in
      let there_b = asked_there b fs there.block within_b in
      let g = front_of s.body.pieces done gs (asked_parts x1 gs).entries (parts_front x1 gs) h in
      let g0 = front_of s.body.pieces done fs gs (asked_adds b fs).front g in
      let m = template_answers a es f values w st within.0 settled.0 gives.0 gives.2 g0 in
      let settled_b = near_settled keeps s.body map map (node_count es) values m.others w m.world m.near b gives.1 within.1 settled.1.0 gives.3 in
      let gives_b = near_gives keeps s.body map map (node_count es) values m.others w m.world m.near b gives.1 within.1 settled.1.0 gives.3 in
      let n = template_answers b fs g0 m.others m.world m.stands within_b settled_b gives.1 gives_b g in
      let near = near_joins keeps (node_count es) (node_count fs) values m.others n.others w m.world n.world there.others m.near n.near in
      let word = gives_word (seen s.body map values w) keeps st.matches.sound.objects body.words (Two x a b) u settled gives in
      let acts_now = leaf_near keeps s.body map map (node_count es) values n.others w n.world near x (gives.0 ∷ gives.1 ∷ []) u settled.1.1 gives.4 in
      let first_is = same_words (n.others first.node) (m.others first.node) gives.0 (n.near.kept first.node there.below) m.has in
      let below : first.node < node_count gs = (let p = there.below in let q = there_b.others in omega (arith, p, q)) in
      let o = node_answers chars shorts s locals body start turns done slots le keeps k map old gs g n.others n.world n.stands x1 (below, there_b.below) u word settled.1.1
      (acts_on_two s.body.setting.environment x n.world.objects (n.others first.node) (n.others second.node) gives.0 gives.1 (Gave u) first_is n.has acts_now)
      h in
      record {
        others = o.others;
        world = o.world;
        stands = o.stands;
        near = near_joins keeps (node_count es) (node_count gs) values n.others o.others w n.world o.world (let p = there.others in let q = there_b.others in omega (arith, p, q)) near o.near;
        has = o.has;
      }

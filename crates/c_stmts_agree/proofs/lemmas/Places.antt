-- Places behind a label: there is one for each, whatever is known of its slots.
use Rattle.std.specs.Prelude.{◌≡◌, ℕ, Some, List, [], ◌∷◌, ◌++◌}
use Rattle.std.proofs.Common.{refl, sym, ap, subst, ◌∙◌, append_assoc}
use Rattle.lcc_base.specs.declared.order.Order.{Order}
use Rattle.op_forest.specs.declared.frame.Slot.{Slot}
use Rattle.op_forest.specs.Nodes.{Node}
use Rattle.forests.specs.Addresses.{Home}
use Rattle.dag_forest.specs.declared.entry.Entry.{Entry}
use Rattle.dag_forest.specs.Meaning.{Keeps}
use Rattle.dag_seam.specs.Open.{Open}
use Rattle.dag_seam.specs.SplitLaws.{Lacks}
use Rattle.piece_runs.specs.Pieces.{Piece, OfBlock, Mark, roots_of}
use Rattle.piece_runs.specs.Reaches.{acting, keeps_at}
use Rattle.piece_runs.proofs.lemmas.Tails.{roots_append}
use Rattle.c_expr_agreement.specs.Scenes.{Scene}
use Rattle.lowered_forms.specs.Lows.{Low, marked}
use Rattle.c_straight_agree.specs.Finals.{Final}
use Rattle.c_straight_agree.proofs.lemmas.At.{at_of, at_front}
use Rattle.c_tests_agree.specs.Tested.{AreMarkedOnce, Label}
use Rattle.c_stmt_agreement.specs.Comings.{Activation, Origin}
use Rattle.c_stmt_agreement.specs.LoweredStmt.{StandsAt, ComesTo}
use Rattle.c_stmt_agreement.proofs.lemmas.Rebasing.{came_itself}
use Rattle.c_stmts_agree.specs.Ways.{IsBehind}

-- ---- a label that is marked once

abbrev NoMark : ℕ → List Piece → Type 0
NoMark n [] = Unit {0}
NoMark n (OfBlock before es ∷ ps) = NoMark n ps
NoMark n (Mark m ∷ ps) = (m ≡ n → ⊥) × NoMark n ps

lacks_behind : (n : ℕ) (ts us : List Node) → Lacks n (ts ++ us) → Lacks n us
lacks_behind n [] us h = h
lacks_behind n (t ∷ ts) us h = lacks_behind n ts us h.1

no_mark : (order : Order) (home : Home) (n : ℕ) (ps : List Piece) → Lacks n (roots_of order home ps) → NoMark n ps
no_mark order home n [] h = tt
no_mark order home n (OfBlock before es ∷ ps) h =
    no_mark order home n ps (lacks_behind n (roots_of order home (OfBlock before es ∷ [])) (roots_of order home ps) (subst (Lacks n) (roots_append order home (OfBlock before es ∷ []) ps) h))
no_mark order home n (Mark m ∷ ps) h = (λ e. h.0 (ap (λ (z : ℕ). Some z) e), no_mark order home n ps h.1)

no_tail : (n : ℕ) (a : Piece) (ps : List Piece) → NoMark n (a ∷ ps) → NoMark n ps
no_tail n (OfBlock before es) ps h = h
no_tail n (Mark m) ps h = h.1

not_first : (n : ℕ) (a : Piece) (ps : List Piece) → NoMark n (a ∷ ps) → Mark n ≡ a → ⊥
not_first n (OfBlock before es) ps h e = cc
not_first n (Mark m) ps h e = h.0 cc

same_head : {A : Type 0} {a b : A} {xs ys : List A} → (a ∷ xs) ≡ (b ∷ ys) → a ≡ b
same_head e = cc

same_tail : {A : Type 0} {a b : A} {xs ys : List A} → (a ∷ xs) ≡ (b ∷ ys) → xs ≡ ys
same_tail e = cc

same_before : (n : ℕ) (ps qs rest others : List Piece) → NoMark n ps → NoMark n qs → ps ++ Mark n ∷ rest ≡ qs ++ Mark n ∷ others → ps ≡ qs
same_before n [] [] rest others x y e = refl
same_before n [] (q ∷ qs) rest others x y e = absurd (not_first n q qs y (same_head e))
same_before n (a ∷ ps) [] rest others x y e = absurd (not_first n a ps x (sym (same_head e)))
same_before n (a ∷ ps) (q ∷ qs) rest others x y e =
    ap (λ (z : Piece). z ∷ ps) (same_head e) ∙ ap (λ (zs : List Piece). q ∷ zs) (same_before n ps qs rest others (no_tail n a ps x) (no_tail n q qs y) (same_tail e))

module _ (s : Scene) (once : AreMarkedOnce s.body) (n : ℕ) where
  abbrev rest_of : Label s n → List Piece
  rest_of t = OfBlock t.front.before t.front.more ∷ t.front.rest

  all_is : (t : Label s n) → s.body.pieces ≡ t.before ++ Mark n ∷ rest_of t
  all_is t = t.front.is ∙ append_assoc t.before (Mark n ∷ []) (rest_of t)

  unmarked : (t : Label s n) → NoMark n t.before
  unmarked t = no_mark s.body.setting.environment.order s.body.setting.environment.home n t.before (once t.before (rest_of t) n (all_is t))

  same_label : (t u : Label s n) → t.before ≡ u.before
  same_label t u = same_before n t.before u.before (rest_of t) (rest_of u) (unmarked t) (unmarked u) (sym (all_is t) ∙ all_is u)

-- the place behind a label that is marked
abbrev pub label_here : (s : Scene) (n : ℕ) (l : Low) → Final s.body.pieces (marked n l) → Label s n
label_here s n l final = record { before = l.pieces ++ OfBlock l.slots l.entries ∷ []; slots = (marked n l).slots; labels = l.labels; front = final.front; split = final.slots }

pub behind_mark : (s : Scene) (n : ℕ) (l : Low) → Final s.body.pieces (marked n l) → IsBehind s n (marked n l)
behind_mark s n l final = (label_here s n l final, refl)

label_final : (s : Scene) (n : ℕ) (a : Low) → IsBehind s n a → Final s.body.pieces a
label_final s n a h = subst (Final s.body.pieces) (sym h.1) (record { front = h.0.front; slots = h.0.split })

-- ---- the run stands at the same place, of whose slots something else is known

abbrev pub Moves : Activation → Low → Low → Type 0
Moves p a b = (o : Origin) (k : ℕ) → StandsAt p o a k → StandsAt p o b k

module _ (p : Activation) where
  module _ (a : Low) (slots : List Slot) (labels : ℕ) where
    abbrev other : Low
    other = record { pieces = a.pieces; entries = a.entries; slots = slots; labels = labels }

    stands_there : Final p.scene.body.pieces other → Moves p a other
    stands_there final o k at =
        let keeps = keeps_at p.scene.body a.pieces a.entries at.front in
        let st = at_front p.scene o.start o.turns a.pieces a.slots keeps k o.map o.old a.entries at.front final.front at.values o.world (at_of p.scene o.start o.turns a at.front o.map o.old at.values o.world k at.stands) in
        record {
          front = final.front;
          values = at.values;
          stands = record {
            stands = record {
              reaches = st.reaches;
              matches = st.matches;
              frame = st.frame;
              nodes = subst (λ (z : Keeps). Open (acting p.scene.body) z a.entries at.values o.world) (sym st.keeps_is) st.opened;
            };
            block = st.block;
            none_waits = st.none_waits;
            slots = final.slots;
            free = st.free;
            ready = at.stands.ready;
          };
          sound = at.sound;
          wholes = at.wholes;
          result = at.result;
          opens = at.opens;
        }

  abbrev MovesTo : Low → List Piece → List Entry → Type 0
  MovesTo a ps es = (slots : List Slot) (labels : ℕ) → Final p.scene.body.pieces (record { pieces = ps; entries = es; slots = slots; labels = labels }) → Moves p a (record { pieces = ps; entries = es; slots = slots; labels = labels })

  moves_to : (a b : Low) → b.pieces ≡ a.pieces → b.entries ≡ a.entries → Final p.scene.body.pieces b → Moves p a b
  moves_to a b same_pieces same_entries final =
      subst (λ (es : List Entry). MovesTo a b.pieces es) (sym same_entries) (subst (λ (ps : List Piece). MovesTo a ps a.entries) (sym same_pieces) (λ slots labels f. stands_there a slots labels f)) b.slots b.labels final

  -- behind one label
  pub moves_behind : AreMarkedOnce p.scene.body → (n : ℕ) (a b : Low) → IsBehind p.scene n a → IsBehind p.scene n b → Moves p a b
  moves_behind once n a b h g =
      moves_to a b
      (ap (λ (l : Low). l.pieces) g.1 ∙ ap (λ (ps : List Piece). ps ++ Mark n ∷ []) (same_label p.scene once n g.0 h.0) ∙ sym (ap (λ (l : Low). l.pieces) h.1))
      (ap (λ (l : Low). l.entries) g.1 ∙ sym (ap (λ (l : Low). l.entries) h.1))
      (label_final p.scene n b g)

  -- where labels are used
  pub relabels : (a : Low) (labels : ℕ) → Moves p a (record { pieces = a.pieces; entries = a.entries; slots = a.slots; labels = labels })
  relabels a labels o k at = record {
    front = at.front;
    values = at.values;
    stands = record { stands = at.stands.stands; block = at.stands.block; none_waits = at.stands.none_waits; slots = at.stands.slots; free = at.stands.free; ready = at.stands.ready };
    sound = at.sound;
    wholes = at.wholes;
    result = at.result;
    opens = at.opens;
  }

  pub moves_come : (a b : Low) → Moves p a b → ComesTo p a b
  moves_come a b moves o k at = came_itself p o b k (moves o k at)

-- A root that jumps to a label.
use Rattle.std.specs.Prelude.{◌≡◌, ℕ, ◌==◌, Bool, true, None, [], ◌∷◌, ◌++◌, length, if◌then◌else◌}
use Rattle.std.proofs.Common.{refl, ap}
use Rattle.std.proofs.lemmas.Bool.{eq-eqb}
use Rattle.op_forest.specs.declared.op.Op.TheVariants as op
use Rattle.op_forest.specs.declared.suffix.Suffix.TheVariants.{P, V}
use Rattle.op_forest.specs.declared.sym.Sym.TheVariants as sym_of
use Rattle.op_forest.specs.Nodes.{Head}
use Rattle.forests.specs.Actions.{Moved, Meaningless}
use Rattle.forests.specs.Words.{Word}
use Rattle.forests.specs.Words as word
use Rattle.forests.specs.Worlds.{To}
use Rattle.dag_forest.specs.declared.entry.Entry.TheVariants as entry
use Rattle.dag_forest.specs.declared.kids.Kids.TheVariants as kids
use Rattle.dag_seam.specs.SplitLaws.{TurnsMean}
use Rattle.c_rows_agree.specs.Templates.{Template, Leaf}
use Rattle.c_rows_agree.specs.Typed.{head, head_with}
use Rattle.piece_runs.specs.Reaches.{keeps_at}
use Rattle.lowered_forms.specs.Asked.{with_kids, asked}
use Rattle.lowered_forms.proofs.lemmas.Fronts.{front_before}
use Rattle.c_straight_agree.specs.Narrow.{CharsAreNarrow, ShortsAreNarrow}
use Rattle.c_straight_agree.proofs.lemmas.AskedTemplates.{template_answers}
use Rattle.c_straight_agree.proofs.lemmas.At.{at_of, front_of, ready_still}
use Rattle.c_straight_agree.proofs.lemmas.Mild.{acts_on_one}
use Rattle.c_straight_agree.proofs.lemmas.Placing.{lone_by}
use Rattle.c_tests_agree.specs.Laws.{JumpsAreTaken}
use Rattle.c_tests_agree.proofs.lemmas.Branching.{ended_front, passed_by}

abbrev pub jump : Head
jump = head op.Jump V

abbrev pub address : ℕ → Template
address n = Leaf (head_with op.Addrg P (sym_of.Label n) None)

pub own_label : (function n : ℕ) → (if function == function then Moved (To n) else Meaningless) ≡ Moved (To n)
own_label function n = ap (λ (b : Bool). if b then Moved (To n) else Meaningless) (eq-eqb function function refl)

pub jumps_are_taken : CharsAreNarrow → ShortsAreNarrow → TurnsMean → JumpsAreTaken
jumps_are_taken chars shorts means s locals body once start turns m le f map old values w k st n h slots t =
    let es = m.entries in
    let at = at_of s start turns m f map old values w k st in
    let keeps = keeps_at s.body m.pieces m.entries f in
    let to = asked (address n) es in
    let x = with_kids jump (kids.One to.node) in
    let behind = ended_front s.body.pieces m.pieces m.slots (to.entries ++ entry.Root x ∷ []) h in
    let g = front_of s.body.pieces m.pieces to.entries (to.entries ++ entry.Root x ∷ []) (front_before to.entries (entry.Root x ∷ [])) behind in
    let function = s.body.setting.environment.home.function in
    let label : Word = word.Label function n in
    let a = template_answers chars shorts s locals body start turns m.pieces m.slots le keeps k map old (address n) es f values w at tt tt label refl g in
    let act = acts_on_one s.body.setting.environment jump a.world.objects (a.others to.node) label (Moved (To n)) a.has (own_label function n) in
    passed_by means s once locals body start turns m.pieces m.slots keeps k map old to.entries g a.others a.world a.stands x h (ready_still s w a.world k a.near.arguments st.ready) m.labels n t w a.near.alike (length m.slots)
    (λ place lt private none. a.near.same place (lone_by s locals body m.slots m.pieces m.entries f st.slots place none))
    slots true act

-- Operators and reads do what they gave where the same objects live.
use Rattle.std.specs.Prelude.{◌≡◌, true, List, [], ◌∷◌}
use Rattle.std.proofs.Common.{refl, sym, ap, subst, ◌∙◌}
use Rattle.objects.specs.declared.value.Value.TheVariants.{Pointer}
use Rattle.objects.specs.declared.width.Width.TheVariants as width
use Rattle.op_forest.specs.declared.op.Op.{Op}
use Rattle.op_forest.specs.declared.op.Op.TheVariants as op
use Rattle.op_forest.specs.declared.suffix.Suffix.{Suffix}
use Rattle.op_forest.specs.declared.suffix.Suffix.TheVariants.{C, S, I, U, P, B, V}
use Rattle.op_forest.specs.Nodes.{Head}
use Rattle.forests.specs.Actions.{Action, Gave, gave, effect_of}
use Rattle.forests.specs.Addresses.{Environment}
use Rattle.forests.specs.Alike.{AreAlike, touches_memory}
use Rattle.forests.proofs.lemmas.Alike.{acts_alike, word_read_alike, number_read_alike}
use Rattle.forests.specs.Bodies.{Setting, does}
use Rattle.forests.specs.Objects.{Object}
use Rattle.forests.specs.Rows.{unary_row, acts}
use Rattle.forests.specs.Words.{Word, Plain}
use Rattle.forests.specs.Worlds.{Point, Next, Went}
use Rattle.c_rows_agree.specs.Stays.{IsSameAt}

pub operator_stays : (s : Setting) (h : Head) (ws : List Word) (objects : List Object) (p : Point) (v : Word) → (touches_memory h.operator.op ≡ true → ⊥) → AreAlike objects p.world.objects → acts s.environment h ws objects ≡ Gave v → does s h ws p ≡ Went (v ∷ []) p Next
operator_stays s h ws objects p v still same e =
    let row : acts s.environment h ws p.world.objects ≡ Gave v = sym (acts_alike s.environment h ws objects p.world.objects same still) ∙ e in
    ap (λ (x : Action). effect_of s.call x p) row

-- the row of a read
module _ (e : Environment) (h : Head) (a b : List Object) (v : Word) (same : AreAlike a b) where
  read_row : (o : Suffix) (w : Word) → IsSameAt w a b → unary_row e h a op.Indir o w ≡ Gave v → unary_row e h b op.Indir o w ≡ Gave v
  read_row C (Plain (Pointer name offset)) at is = ap gave (sym (number_read_alike e.order width.One a b name offset same (at name offset refl))) ∙ is
  read_row C w at is = is
  read_row S (Plain (Pointer name offset)) at is = ap gave (sym (number_read_alike e.order width.Two a b name offset same (at name offset refl))) ∙ is
  read_row S w at is = is
  read_row I (Plain (Pointer name offset)) at is = ap gave (sym (word_read_alike e.order a b name offset same (at name offset refl))) ∙ is
  read_row I w at is = is
  read_row P (Plain (Pointer name offset)) at is = ap gave (sym (word_read_alike e.order a b name offset same (at name offset refl))) ∙ is
  read_row P w at is = is
  read_row B w at is = is
  read_row U w at is = is
  read_row V w at is = is

  row_stays : (o : Op) (x : Suffix) (w : Word) → o ≡ op.Indir → IsSameAt w a b → unary_row e h a o x w ≡ Gave v → unary_row e h b o x w ≡ Gave v
  row_stays o x w read at is =
      subst (λ (y : Op). unary_row e h b y x w ≡ Gave v) (sym read) (read_row x w at (subst (λ (y : Op). unary_row e h a y x w ≡ Gave v) read is))

pub read_stays : (s : Setting) (h : Head) (w : Word) (objects : List Object) (p : Point) (v : Word) → h.operator.op ≡ op.Indir → AreAlike objects p.world.objects → IsSameAt w objects p.world.objects → acts s.environment h (w ∷ []) objects ≡ Gave v → does s h (w ∷ []) p ≡ Went (v ∷ []) p Next
read_stays s h w objects p v read same at e =
    let row : acts s.environment h (w ∷ []) p.world.objects ≡ Gave v = row_stays s.environment h objects p.world.objects v same h.operator.op h.operator.suffix w read at e in
    ap (λ (x : Action). effect_of s.call x p) row

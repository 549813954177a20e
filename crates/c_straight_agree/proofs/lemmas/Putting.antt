-- Where a word is kept in a slot that holds nothing of C, worlds match as before.
use Rattle.std.specs.Prelude.{◌≡◌, ◌≤◌, ◌<◌, ℕ, zero, suc, ◌+◌, ℤ, Option, Some, None, List, [], ◌∷◌, length, slice_get}
use Rattle.std.proofs.Common.{refl, sym, ap, subst, ◌∙◌, arith}
use Rattle.std.proofs.lemmas.List.{length-map}
use Rattle.std.proofs.lemmas.Option.{slice_get_within}
use Rattle.lcc_base.specs.declared.order.Order.{Order}
use Rattle.lcc_base.specs.declared.order.Order.TheVariants.{Big, Little}
use Rattle.objects.specs.declared.purpose.Purpose.TheVariants.{Assignment}
use Rattle.objects.specs.declared.value.Value.TheVariants.{Pointer}
use Rattle.objects.specs.declared.width.Width.{Width}
use Rattle.objects.specs.declared.width.Width.TheVariants as width
use Rattle.objects.specs.Accesses.{write_cause}
use Rattle.objects.specs.Bytes.{known_bytes, number_bytes}
use Rattle.objects.specs.Objects.{Object as Shape}
use Rattle.objects.specs.Values.{bytes_in, bits_in}
use Rattle.op_forest.specs.declared.frame.Slot.{Slot}
use Rattle.op_forest.specs.declared.suffix.Suffix.{Suffix}
use Rattle.op_forest.specs.declared.suffix.Suffix.TheVariants.{C, S, I, U, P, B, V}
use Rattle.op_forest.specs.Nodes.{Head}
use Rattle.forests.specs.Actions.{Gave}
use Rattle.forests.specs.Alike.{AreAlike}
use Rattle.forests.specs.Addresses.{Environment}
use Rattle.forests.proofs.lemmas.Kept.{shapes-stored_through}
use Rattle.forests.specs.Objects.{Object, shape_of}
use Rattle.forests.specs.Rows.{acts}
use Rattle.forests.specs.Sound.{AreSoundBytes}
use Rattle.forests.proofs.lemmas.SoundBytes.{whole_byte, word_bytes_sound, stored_through_sound}
use Rattle.forests.proofs.lemmas.WordLaws.{stored_elsewhere}
use Rattle.forests.specs.Words.{Word, IsWord, low_number}
use Rattle.forests.specs.Worlds.{World}
use Rattle.dag_forest.specs.declared.kind.Kind.{Kind}
use Rattle.dag_forest.specs.Choice.{kind_of}
use Rattle.dag_forest.specs.Meaning.{IsOf}
use Rattle.dag_forest.specs.declared.kind.Kind.TheVariants.{Char, Short, Signed, Unsigned, Address}
use Rattle.dag_forest.specs.Slots.{slot_temporary, known_low, kept_bytes, content_of}
use Rattle.dag_forest.specs.Split.{slot_name}
use Rattle.c_meaning.specs.Each.{EachIs}
use Rattle.c_runs.specs.Worlds as c
use Rattle.c_match.specs.Left.{IsPrivate}
use Rattle.c_match.specs.Ranges.{Map}
use Rattle.c_match_worlds.specs.Matches.{Matches}
use Rattle.c_match_worlds.proofs.lemmas.Keeping.{private_keeps}
use Rattle.c_expr_agreement.specs.Scenes.{Scene, InFrame}
use Rattle.c_straight_agree.specs.Narrow.{CharsAreNarrow, ShortsAreNarrow}
use Rattle.c_straight_agree.specs.Standing.{IsBody, AreFree}

-- ---- what a slot keeps

number_bytes_sound : (order : Order) (w : Width) (n : ℕ) → AreSoundBytes (known_bytes (number_bytes order (bytes_in w) n))
number_bytes_sound Big width.One n = (whole_byte n, tt)
number_bytes_sound Little width.One n = (whole_byte n, tt)
number_bytes_sound Big width.Two n = (whole_byte _, (whole_byte n, tt))
number_bytes_sound Little width.Two n = (whole_byte n, (whole_byte _, tt))
number_bytes_sound Big width.Four n = (whole_byte _, (whole_byte _, (whole_byte _, (whole_byte n, tt))))
number_bytes_sound Little width.Four n = (whole_byte n, (whole_byte _, (whole_byte _, (whole_byte _, tt))))

low_sound : (order : Order) (w : Width) (o : Option ℕ) → AreSoundBytes (known_low order w o)
low_sound order w None = tt
low_sound order w (Some n) = number_bytes_sound order w n

kept_sound : (order : Order) (kind : Kind) (v : Word) → IsWord v → AreSoundBytes (kept_bytes order kind v)
kept_sound order Char v h = low_sound order width.One (low_number (bits_in width.One) v)
kept_sound order Short v h = low_sound order width.Two (low_number (bits_in width.Two) v)
kept_sound order Signed v h = word_bytes_sound order v h
kept_sound order Unsigned v h = word_bytes_sound order v h
kept_sound order Address v h = word_bytes_sound order v h

kept_by_suffix : CharsAreNarrow → ShortsAreNarrow → (e : Environment) (h : Head) (ws : List Word) (objects : List Object) (v : Word) → IsWord v → acts e h ws objects ≡ Gave v → (x : Suffix) → h.operator.suffix ≡ x → IsOf (content_of (kind_of x)) v
kept_by_suffix chars shorts e h ws objects v word is C same = chars e h ws objects v same is
kept_by_suffix chars shorts e h ws objects v word is S same = shorts e h ws objects v same is
kept_by_suffix chars shorts e h ws objects v word is I same = word
kept_by_suffix chars shorts e h ws objects v word is U same = word
kept_by_suffix chars shorts e h ws objects v word is P same = word
kept_by_suffix chars shorts e h ws objects v word is B same = word
kept_by_suffix chars shorts e h ws objects v word is V same = word

-- a temporary of an operator's kind can keep what the operator gives
pub can_keep : CharsAreNarrow → ShortsAreNarrow → (e : Environment) (h : Head) (ws : List Word) (objects : List Object) (v : Word) → IsWord v → acts e h ws objects ≡ Gave v → IsOf (content_of (kind_of h.operator.suffix)) v
can_keep chars shorts e h ws objects v word is = kept_by_suffix chars shorts e h ws objects v word is h.operator.suffix refl

-- ---- lists

pub each_at : {A : Type 0} (Is : A → Type 0) (xs : List A) (j : ℕ) (x : A) → EachIs Is xs → slice_get xs j ≡ Some x → Is x
each_at Is [] j x h e = absurd (let never : ⊥ = cc in never)
each_at Is (y ∷ ys) zero x h e = let same : y ≡ x = cc in subst Is same h.0
each_at Is (y ∷ ys) (suc j) x h e = each_at Is ys j x h.1 e

pub each_map : {A : Type 0} (Is Be : A → Type 0) (xs : List A) → ((x : A) → Is x → Be x) → EachIs Is xs → EachIs Be xs
each_map Is Be [] f h = tt
each_map Is Be (x ∷ xs) f h = (f x h.0, each_map Is Be xs f h.1)

pub alike_length : (a b : List Object) → AreAlike a b → length b ≡ length a
alike_length a b same = sym (length-map b shape_of) ∙ ap length (sym same) ∙ length-map a shape_of

pub still_free : (s : Scene) (w v : World) → AreAlike w.objects v.objects → AreFree s.body w → AreFree s.body v
still_free s w v alike free i slot e four = ap (λ (os : List Shape). write_cause Assignment os (Pointer (slot_name s.body.setting.environment.home i) 0) 4 4) (sym alike) ∙ free i slot e four

-- what the frame's other objects are stays so
pub frame_stays : (s : Scene) (map more : Map) (old new : c.World) (w v : World) → AreAlike w.objects v.objects → ((place : ℕ) → IsPrivate map (c.objects old) place → IsPrivate more (c.objects new) place)
    → EachIs (λ place. (place < length w.objects) × IsPrivate map (c.objects old) place) s.frame.others → EachIs (λ place. (place < length v.objects) × IsPrivate more (c.objects new) place) s.frame.others
frame_stays s map more old new w v alike private h =
    each_map (λ place. (place < length w.objects) × IsPrivate map (c.objects old) place) (λ place. (place < length v.objects) × IsPrivate more (c.objects new) place) s.frame.others
    (λ place p. ((let e = alike_length w.objects v.objects alike in let l = p.0 in omega (arith, e, l)), private place p.1)) h

-- ---- a word is kept

-- a slot behind the locals holds nothing of C
pub hidden_is_private : (s : Scene) (locals : ℕ) → IsBody s locals → (map : Map) (old : c.World) (number : ℕ) (slot : Slot) (w : World) → InFrame s.frame map old w → locals ≤ number → slice_get s.body.setting.environment.home.slots number ≡ Some slot
    → (s.body.setting.environment.home.place + number < length w.objects) × IsPrivate map (c.objects old) (s.body.setting.environment.home.place + number)
hidden_is_private s locals body map old number slot w frame behind there =
    let among = body.hidden number behind (slice_get_within s.body.setting.environment.home.slots number slot there) in
    each_at (λ place. (place < length w.objects) × IsPrivate map (c.objects old) place) s.frame.others among.0 (s.body.setting.environment.home.place + number) frame.others among.1

module _ (s : Scene) (locals : ℕ) (body : IsBody s locals) (slots : List Slot) (le : locals ≤ length slots) (map : Map) (old : c.World) where
  -- so does one behind slots that there are
  pub slot_is_private : (number : ℕ) (slot : Slot) (w : World) → InFrame s.frame map old w → length slots ≤ number → slice_get s.body.setting.environment.home.slots number ≡ Some slot
      → (s.body.setting.environment.home.place + number < length w.objects) × IsPrivate map (c.objects old) (s.body.setting.environment.home.place + number)
  slot_is_private number slot w frame behind there = hidden_is_private s locals body map old number slot w frame (omega (arith, le, behind)) there

  -- the world in which a slot keeps a word
  abbrev pub put_in : Kind → ℕ → ℤ → Word → World → World
  put_in kind number offset v w = (slot_temporary s.body.setting.environment.order kind (slot_name s.body.setting.environment.home number) offset).put v w

  module _ (kind : Kind) (number : ℕ) (offset : ℤ) (slot : Slot) (behind : length slots ≤ number) (there : slice_get s.body.setting.environment.home.slots number ≡ Some slot) (v : Word) (word : IsWord v) (w : World) (frame : InFrame s.frame map old w) where
    pub put_alike : AreAlike w.objects (put_in kind number offset v w).objects
    put_alike = sym (shapes-stored_through w.objects (Pointer (slot_name s.body.setting.environment.home number) 0) (kept_bytes s.body.setting.environment.order kind v))

    elsewhere : (place : ℕ) → (place ≡ s.body.setting.environment.home.place + number → ⊥) → slice_get (put_in kind number offset v w).objects place ≡ slice_get w.objects place
    elsewhere place ne = stored_elsewhere w.objects (s.body.setting.environment.home.place + number) 0 (kept_bytes s.body.setting.environment.order kind v) place ne

    pub put_matches : Matches s.lowered s.own map old w → Matches s.lowered s.own map old (put_in kind number offset v w)
    put_matches m =
        private_keeps s.lowered s.own map old w (put_in kind number offset v w) m
        (record {
          objects = stored_through_sound w.objects (Pointer (slot_name s.body.setting.environment.home number) 0) (kept_bytes s.body.setting.environment.order kind v) m.sound.objects (kept_sound s.body.setting.environment.order kind v word);
          arguments = m.sound.arguments;
          input = m.sound.input;
        })
        refl refl
        (λ place open_to. elsewhere place (λ e. open_to (subst (IsPrivate map (c.objects old)) (sym e) (slot_is_private number slot w frame behind there).1)))
        (λ t o is. elsewhere t (λ e. let l = slice_get_within s.lowered.objects t o is in let a = body.above in omega (arith, e, l, a)))

    pub put_frame : InFrame s.frame map old (put_in kind number offset v w)
    put_frame = record { locals = frame.locals; others = frame_stays s map map old old w (put_in kind number offset v w) put_alike (λ place p. p) frame.others }

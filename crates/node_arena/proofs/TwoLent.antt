-- Of a vector's elements one is lent, and one before it is shared for as long. Assumes `Logic`.
use mathlib.Core.Path.{◌≡◌, refl, sym}
use Prim.Native.Nat.{ℕ, ◌+◌, ◌-◌, ◌*◌, ◌<◌, ◌^◌}
use native.Mathlib.Omega.{arith}
use mathlib.Core.List.{List, [], ◌∷◌}
use lib.ListN.{length, get_or, set}
use lib.Seq.{set-get_or}
use seplogic.Ra.Ura.{Ura}
use base.Fraction.{full_share}
use mir.Syntax.{named, ty_array}
use mir.Raw.{raw as bare}
use mir.Val.{Val, vptr, vstruct, vcons, vnil}
use base.Logic.{SProp, ent, sep, ex}
use base.Fml.{Lft, GName, Share, Fml, ftrue, fsep, froom, flft, fobs, fauth, fbor, fobor, fseps, Incl-refl}
use types.Logic.{Logic, sem}
use contract.BorrowLft.{◌⊑◌}
use types.Kit.{‵, ◌⊛◌, some, later, ◌$◌, ◌∵◌, !, qed, move, keep, use1, use2, use3, split, split3, pick, show, rewrite, fsplit, fsplit3, fjoin, fjoin3, fpack, feq_i, await, group, updating, now as at_once, done}
use types.SemTy.{Body as Borrowed}
use types.Follow.{takes_beside}
use denote.Memory.{cell_at, part_at, part_of, hidden_shr, mem}
use denote.Array.{Array}
use denote.Param.Laws.{param_laws}
use denote.RawPtr.{block_ptr}
use denote.Ref.{MutRef, ShrRef, MutBor, Bor, mut_vals, shr_vals}
use denote.RattleType.{RattleType, Valss}
use denote.Struct.Struct.{within}
use denote.Struct.Declared.{shape}
use denote.Struct.Tuple.{Tuple, tuple_type}
use denote.Steps.{nothing}
use denote.Follow.{follows}
use Rattle.std.proofs.alloc.Calls.{token}
use Rattle.std.specs.Vec.{with_item}
use Rattle.std.proofs.VecSteps.El.{El, el_x, elτ, el_d, R, Vr, sz, handle, vec_val}
use Rattle.std.proofs.VecSteps.Gaps.{Beside, two_out, two_in}
use Rattle.std.proofs.VecSteps.Opens.{blk_in, vec_made}

module _ (E : El) {M : Type 1} {𝓤 : Ura M} (𝓛 : Logic 𝓤) (κ : Lft) (q : Share) (rb ro : ℕ) (γ : GName) (h : el_d E)
    (low high : ℕ) (d : el_x E) (b o : ℕ) where
  open 𝓛 use {H, A}

  abbrev xs : List (el_x E)
  xs = h.items

  -- where the element at an index lies
  abbrev pub at_index : ℕ → ℕ
  at_index i = i * sz E + o

  abbrev pub x : el_x E
  x = get_or xs low d

  abbrev pub y : el_x E
  y = get_or xs high d

  abbrev Element : el_x E → ℕ → Fml
  Element e i = part_at (R E) full_share e b (at_index i)

  abbrev Elements : List (el_x E) → Fml
  Elements es = part_at (Array (R E) h.len) full_share es b o

  -- all elements but these two
  abbrev Others : Fml
  Others = Beside E 𝓛 b o xs low high

  -- the room behind the elements
  abbrev Room : Fml
  Room = froom (ty_array (elτ E) (h.cap - h.len)) b (o + h.len * sz E)

  -- the right to give the block back
  abbrev Token : Fml
  Token = token E.al h.alloc (bare (ty_array (elτ E) h.cap)) (block_ptr b o)

  -- the vector's own words
  abbrev Words : Val → Fml
  Words hv = cell_at full_share (Vr E).mir (vec_val E hv b o h.len h.cap ∷ []) rb ro

  abbrev Rest : Val → Fml
  Rest hv = fsep (Words hv) (fsep (handle E h.alloc hv) (fsep Others (fsep Room Token)))

  -- the loan of the vector, open
  abbrev Loan : Fml
  Loan = fobor κ q (Borrowed (mem (Vr E)) rb ro γ)

  abbrev pub write : GName → MutBor (el_x E)
  write γ' = record { ref_ptr = (b, at_index high); ghost_name = γ'; now = y }

  abbrev Lent : GName → Fml
  Lent γ' = (MutRef (named 0) κ (R E)).own_val (write γ') (mut_vals (write γ'))

  abbrev pub read : Bor (el_x E)
  read = record { ref_ptr = (b, at_index low); now = x }

  -- both references, as the pair that is returned
  abbrev pub Two : RattleType
  Two = Tuple (ShrRef (named 0) κ (R E) ∷ MutRef (named 0) κ (R E) ∷ [])

  abbrev pub two_val : Val
  two_val = vstruct (vcons (vptr b (at_index low)) (vcons (vptr b (at_index high)) vnil))

  abbrev Follows : GName → Fml
  Follows γ' = follows (Vr E) (R E) γ γ' (with_item h high)

  abbrev pub Got : GName → SProp 𝓤
  Got γ' = sep 𝓤 (sem 𝓛 (Two.own_val (read, write γ') (two_val ∷ []))) (sep 𝓤 (A.lft κ q) (sem 𝓛 (Follows γ')))

  pair_made : (γ' : GName) → ent 𝓤 (sep 𝓤 (sem 𝓛 (hidden_shr E.row κ x b (at_index low))) (sem 𝓛 (Lent γ'))) (sem 𝓛 (Two.own_val (read, write γ') (two_val ∷ [])))
  pair_made γ' =
      qed 𝓛 (‵ (hidden_shr E.row κ x b (at_index low)) ∷ ‵ (Lent γ') ∷ []) ∵
      feq_i ! (List Val) (shr_vals read) (shr_vals read) refl $ fjoin ! $
      -- [the `&`; the `&mut`]: the fields of the pair, behind which nothing comes
      nothing ! $ move ! (2 ∷ 0 ∷ []) $ fjoin ! $ move ! (1 ∷ 0 ∷ []) $ fjoin ! $
      feq_i ! (List Val) (two_val ∷ []) (two_val ∷ []) refl $ fjoin ! $
      fpack ! (Valss (ShrRef (named 0) κ (R E) ∷ MutRef (named 0) κ (R E) ∷ []))
      (within (shape (tuple_type (ShrRef (named 0) κ (R E) ∷ MutRef (named 0) κ (R E) ∷ []))) (read, (write γ', tt)) (two_val ∷ []))
      (shr_vals read, (mut_vals (write γ'), tt)) $ done !

  module _ (at_b : h.ptr ≡ block_ptr b o) (fl : h.len < 2 ^ 64) (fc : h.cap < 2 ^ 64) (fit : h.cap * sz E < 2 ^ 63)
      (lt : low < high) (li : high < h.len) where
    -- once the loans are over, the vector is whole again, with the last value of the lent element
    back : (hv : Val) (w : el_x E)
        → ent 𝓤 (sep 𝓤 (sem 𝓛 ((mem (R E)).own_at w b (at_index high))) (sep 𝓤 (sem 𝓛 (fseps (Element x low ∷ []))) (sem 𝓛 (Rest hv))))
        (sem 𝓛 ((mem (Vr E)).own_at (with_item h high w) rb ro))
    unfolding part_of fseps
    back hv w =
        let inside : high < length xs = omega (arith, h.ok.0) in
        let ends = with_item h high w in
        qed 𝓛 (‵ (Element w high) ∷ (‵ (Element x low) ⊛ ‵ ftrue) ∷ ‵ (Rest hv) ∷ []) ∵
        move ! (2 ∷ []) $ fsplit3 ! $ move ! (2 ∷ []) $ fsplit3 ! $ move ! (6 ∷ []) $ split ! $
        -- [x; nothing; the others; the room; the token; the words; the handle; w]
        move ! (0 ∷ 7 ∷ 2 ∷ []) $
        use3 𝓛 (‵ (Elements (set (set xs low x) high w))) (two_in E 𝓛 b o h.len low high xs x w lt inside (sym h.ok.0)) $
        rewrite ! 0 (λ (es : List (el_x E)). ‵ (Elements (set es high w))) (set-get_or xs low d) refl $
        -- [the elements; nothing; the room; the token; the words; the handle]
        move ! (0 ∷ 2 ∷ 3 ∷ []) $ blk_in E ! h.alloc b o h.len h.cap (set xs high w) (omega (arith, h.ok.1)) $
        move ! (0 ∷ 3 ∷ []) $ vec_made E ! ends b o h.len h.cap (set xs high w) (at_b, refl, refl, refl) fl fc fit $
        -- [what the vector owns; nothing; the words]
        move ! (2 ∷ 0 ∷ []) $ fjoin ! $
        fpack ! (List Val) (λ us. fsep (cell_at full_share (Vr E).mir us rb ro) ((Vr E).own_val ends us)) (vec_val E hv b o h.len h.cap ∷ []) $
        keep ! (0 ∷ []) $ done !

    pub lends_two : κ ⊑ E.row.lives → (hv : Val)
        → ent 𝓤 (sep 𝓤 (sem 𝓛 (Elements xs)) (sep 𝓤 (sem 𝓛 Room) (sep 𝓤 (sem 𝓛 Token) (sep 𝓤 (sem 𝓛 (Words hv))
        (sep 𝓤 (sem 𝓛 (fsep Loan (handle E h.alloc hv))) (sep 𝓤 (A.obs γ ((Vr E).coded.code h)) (A.auth γ ((Vr E).coded.code h)))))))) (H.⇛ (ex 𝓤 Got))
    unfolding fseps
    lends_two alive hv =
        let now = (Vr E).coded.code h in
        let Given : GName → Fml = λ γ'. fbor κ (Borrowed (mem (R E)) b (at_index high) γ') in
        qed 𝓛 (‵ (Elements xs) ∷ ‵ Room ∷ ‵ Token ∷ ‵ (Words hv) ∷ ‵ (fsep Loan (handle E h.alloc hv)) ∷ ‵ (fobs γ now) ∷ ‵ (fauth γ now) ∷ []) ∵ updating ! $
        use1 𝓛 (‵ (Element x low) ⊛ ‵ (Element y high) ⊛ ‵ Others) (two_out E 𝓛 b o h.len low high xs d lt (omega (arith, h.ok.0))) $ split3 ! $
        -- [x; y; the others; the room; the token; the words; the loan and the handle; obs; auth]
        move ! (2 ∷ 3 ∷ 4 ∷ []) $ fjoin3 ! $ move ! (4 ∷ []) $ fsplit ! $
        -- [the loan; the handle; others, room, token; x; y; the words; obs; auth]
        move ! (5 ∷ 1 ∷ 2 ∷ []) $ fjoin3 ! $ nothing ! $ move ! (3 ∷ 0 ∷ []) $ fjoin ! $
        -- [x; the rest; the loan; y; obs; auth]
        move ! (2 ∷ 4 ∷ 5 ∷ 3 ∷ 0 ∷ 1 ∷ []) $ group ! 6 $
        use1 𝓛 (later (some (λ (γ' : GName). ‵ (fobs γ' ((R E).coded.code y)) ⊛ ‵ (Given γ') ⊛ ‵ (flft κ q) ⊛ ‵ (Follows γ') ⊛ ‵ (fbor κ (Element x low)) ⊛ ‵ ftrue)))
        (takes_beside 𝓛 (mem (Vr E)) (mem (R E)) (with_item h high) κ q rb ro b (at_index high) γ (Element x low ∷ []) (sem 𝓛 (Rest hv)) (back hv) now now y) $
        await ! tt $ pick ! (λ γ'. split3 ! $ feq_i ! (List Val) (mut_vals (write γ')) (mut_vals (write γ')) refl $ fjoin3 ! $
        -- [the `&mut`; the token, what follows, the borrow of x]
        move ! (1 ∷ []) $ split3 ! $ move ! (2 ∷ []) $ split ! $ move ! (0 ∷ 2 ∷ []) $
        use2 𝓛 (later (‵ (hidden_shr E.row κ x b (at_index low)) ⊛ ‵ (flft κ q)))
        ((param_laws 0 E.row E.laws).shares 𝓛 x κ ((κ, q) ∷ []) b (at_index low) alive (Incl-refl κ)) $ await ! tt $ split ! $
        -- [the shared x; the token; nothing; what follows; the `&mut`]
        move ! (0 ∷ 4 ∷ []) $ use2 𝓛 (‵ (Two.own_val (read, write γ') (two_val ∷ []))) (pair_made γ') $
        at_once ! $ show ! Got γ' $ keep ! (0 ∷ 1 ∷ 3 ∷ []) $ done !)

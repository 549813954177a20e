-- `two_from` lends one element, which the vector follows, and shares one before it for as long. Assumes `Logic`.
use mathlib.Core.Path.{◌≡◌, refl, ◌∙◌}
use Prim.Native.Nat.{ℕ, ◌*◌, ◌<◌, ◌^◌}
use native.Mathlib.Omega.{arith}
use mathlib.Core.List.{List, [], ◌∷◌}
use lib.ListN.{get_or}
use seplogic.Ra.Ura.{Ura}
use mir.Syntax.{Fn, w64, named, ty_ptr}
use mir.MapTy.{inst_fn}
use mir.Val.{Val, vint, vptr}
use base.Logic.{SProp, ent}
use base.Fraction.{full_share}
use base.Fml.{GName, ftrue, fat, flft, Incl-trans}
use prog.Memory.{Memory}
use prog.Routine.{Routine}
use prog.Wp.{WpFn, Tables}
use types.Logic.{Logic}
use contract.BorrowLft.{◌⊑◌}
use contract.Monad.{Fun, fact}
use contract.Running.{tables, tables_of}
use sound.WpLaws.{WpFn-mono}
use types.Kit.{‵, raw, ◌⊛◌, some, later, ◌$◌, ◌∵◌, !, qed, move, keep, use1, drop, split, split3, join, pick, rewrite, fsplit, fsplit3, fjoin, suffices, frame, await, group, done}
use types.Part.{agg}
use types.Run.{size_lit, stop, addr, and_then, no_more, bin, returns, enter}
use types.ByLocal.{alloc_all, pass_all, free_all, look_at, get, through, sets}
use denote.Exit.{yes, no}
use denote.RattleType.{owns}
use denote.Builtin.{usize}
use denote.Plain.{uint_vals, uint_Tells}
use denote.RawPtr.{Ptr, RawPtr, ptr_val, rawptr_vals, rawptr_Tells, rawptr_Lawful}
use denote.Ref.{mut_vals, mut_Tells}
use denote.Signature.{plain, types_at, mut_ref_to}
use denote.Steps.{heard, nothing}
use denote.Follow.{follows}
use denote.Triple.Clauses.{Clauses, Ended, closing}
use denote.Triple.Spec.{Meets, triple_of}
use denote.Triple.Table.{entered}
use denote.Triple.Walked.{Stays, stay_dropped, walk_of, ends_at, walked, Goes-dropped, Goes-spent_ref, walk_Meets}
use Rattle.std.proofs.mem.Facts.{says_two}
use Rattle.std.proofs.ptr.Rows.{hd, one_below, times_below}
use Rattle.std.specs.List.{slice_get}
use Rattle.std.specs.declared.option.Option.TheVariants.{Some}
use Rattle.std.proofs.lemmas.Option.{slice_get-get_or}
use Rattle.std.specs.Vec.{with_item}
use Rattle.std.proofs.VecSteps.El.{wider, El, args, el_x, el_d, R, Vr, sz}
use Rattle.std.proofs.VecSteps.Opens.{vec_opens}
use Rattle.node_arena.proofs.TwoLent.{read, write, Two, two_val, lends_two}
use Rattle.node_arena.specs.contracts.elements.two_from as F
use Rattle.node_arena.specs.contracts.elements.two_from.Key.{name as #self}
use Rattle.node_arena.proofs.elements.two_from.Statement as stated
use Rattle.node_arena.proofs.elements.two_from.Code as code

module _ (E : El) where
  abbrev here : Fn
  here = inst_fn (args E) code.function

  abbrev ended : Ended
  ended = F.ended E.row E.al.row E.al.g E.al.d E.al.drops

  abbrev stayed : Stays ended.signature.params ended.kept
  stayed = (stay_dropped (mut_ref_to (0 ∷ []) tt (plain (λ _. Vr E))) no, (stay_dropped (plain (λ _. RawPtr)) yes, (stay_dropped (plain (λ _. usize)) yes, (stay_dropped (plain (λ _. usize)) yes, tt))))

  module _ {M : Type 1} {𝓤 : Ura M} (𝓛 : Logic 𝓤) (at_mem : Memory → SProp 𝓤) (run : Routine → Fun 𝓤) (𝓣 : Tables 𝓤 𝓛.H) where
    open 𝓛 use {H}

    abbrev held : Clauses 𝓤 ended
    held = F.clauses E.row E.al.row E.al.g E.al.d E.al.drops 𝓛 at_mem run

    abbrev Bound : Type 0
    Bound = (walk_of 𝓛 ended stayed held).Ghost

    abbrev spelled : Bound → Bound
    spelled z = ((z.0.0, z.0.1, z.0.2, z.0.3, (mut_vals z.0.3.0, (rawptr_vals z.0.3.1.0, (uint_vals w64 z.0.3.1.1.0, (uint_vals w64 z.0.3.1.1.1.0, tt))))), z.1)

    walk : (z : Bound) → z.0.3.1.1.0 < 2 ^ 64 → z.0.3.1.1.1.0 < 2 ^ 64
        → ent 𝓤 ((walk_of 𝓛 ended stayed held).pre (spelled z)) (WpFn 𝓤 H 𝓣.C 𝓣.Λ here ((walk_of 𝓛 ended stayed held).args (spelled z)) ((walk_of 𝓛 ended stayed held).post (spelled z)))
    walk z fits_low fits_high =
        let κ = z.0.0.0 in let κ₁ = z.0.0.1.0 in let κ₂ = z.0.0.1.1.0 in
        let q = z.0.1.0 in let q₁ = z.0.1.1.0 in let q₂ = z.0.1.1.1.0 in
        let rb : ℕ = z.0.3.0.ref_ptr.0 in let ro : ℕ = z.0.3.0.ref_ptr.1 in let γ : GName = z.0.3.0.ghost_name in
        let h : el_d E = z.0.3.0.now in let start : Ptr = z.0.3.1.0 in let low : ℕ = z.0.3.1.1.0 in let high : ℕ = z.0.3.1.1.1.0 in
        let xs : List (el_x E) = h.items in let s : ℕ = sz E in
        qed 𝓛 (((‵ (flft κ q) ⊛ ‵ (flft κ₁ q₁) ⊛ ‵ (flft κ₂ q₂) ⊛ ‵ ftrue) ⊛ ‵ (owns (types_at ended.signature.params z.0.0) z.0.3 (spelled z).0.4))
        ∷ (raw (fact 𝓤 (κ₁ ⊑ E.row.lives)) ⊛ raw (fact 𝓤 (κ₂ ⊑ E.al.row.lives)) ⊛ raw (fact 𝓤 (start ≡ h.ptr)) ⊛ raw (fact 𝓤 (low < high)) ⊛ raw (fact 𝓤 (high < h.len))) ∷ []) ∵
        -- what is required
        move ! (1 ∷ []) $ split ! $ heard ! (κ₁ ⊑ E.row.lives) (λ alive. split ! $ drop ! $
        split ! $ heard ! (start ≡ h.ptr) (λ begins. split ! $ heard ! (low < high) (λ lt. heard ! (high < h.len) (λ li.
        -- [obs; the loan of the vector; the token of its lifetime; the other tokens]
        split ! $ split ! $ move ! (2 ∷ []) $ fsplit ! $ fsplit3 ! $ keep ! (1 ∷ 2 ∷ 4 ∷ 5 ∷ []) $
        enter ! 𝓣.C 𝓣.Λ here (vptr rb ro ∷ ptr_val start ∷ vint w64 low ∷ vint w64 high ∷ []) _ $
        let pointer = ((rawptr_Lawful 𝓛).typed start (ptr_val start ∷ []) refl).0 in
        alloc_all ! (λ l. pass_all ! refl ((tt, tt), (pointer, ((tt, record { fits = fits_low }), ((tt, record { fits = fits_high }), tt)))) $
        let pos : 0 < h.cap = omega (arith, h.ok.1) in
        vec_opens E ! tt h rb ro pos (λ b o hv at_b fl fc fit.
        let tiny : s < 2 ^ 64 = wider s (one_below h.cap s (2 ^ 63) pos fit) in
        let far : (i : ℕ) → i < h.len → i * s < 2 ^ 64 = λ i in_it. wider (i * s) (times_below i h.cap s (2 ^ 63) (omega (arith, h.ok.1)) fit) in
        let far_low = far low (omega arith) in
        let far_high = far high li in
        -- the local 2 has the address of the block
        rewrite ! 24 (λ (p : Ptr). ‵ (fat full_share ty_ptr (l 2) 0 (ptr_val p))) (begins ∙ at_b) refl $
        -- &*start.add(low)
        sets ! (bin ! (get ! refl) (size_lit ! (record { fits = tiny })) (record { fits = far_low })) refl (tt, record { fits = far_low }) $
        sets ! (bin ! (get ! refl) (get ! refl) tt) refl (tt, tt) $
        sets ! (addr ! (through ! refl (stop !))) refl (tt, tt) $
        -- &mut *start.add(high)
        sets ! (bin ! (get ! refl) (size_lit ! (record { fits = tiny })) (record { fits = far_high })) refl (tt, record { fits = far_high }) $
        sets ! (bin ! (get ! refl) (get ! refl) tt) refl (tt, tt) $
        sets ! (addr ! (through ! refl (stop !))) refl (tt, tt) $
        -- both, as the result
        sets ! (agg ! (and_then ! (get ! refl) (and_then ! (get ! refl) (no_more !)))) refl (tt, (tt, (tt, tt))) $
        let d : el_x E = hd xs (omega (arith, h.ok.0)) in
        let is_at : (i : ℕ) → i < h.len → slice_get xs i ≡ Some (get_or xs i d) = λ i in_it. slice_get-get_or xs i d (omega (arith, h.ok.0)) in
        let one = read E 𝓛 κ q rb ro γ h low high d b o in
        let other = write E 𝓛 κ q rb ro γ h low high d b o in
        let both : Val = two_val E 𝓛 κ q rb ro γ h low high d b o in
        group ! 7 $
        use1 𝓛 (later (some (λ (γ' : GName). ‵ ((Two E 𝓛 κ q rb ro γ h low high d b o).own_val (one, other γ') (both ∷ [])) ⊛ ‵ (flft κ q) ⊛ ‵ (follows (Vr E) (R E) γ γ' (with_item h high)))))
        (lends_two E 𝓛 κ q rb ro γ h low high d b o at_b fl fc fit lt li (Incl-trans z.0.2.0 alive) hv) $ await ! tt $ pick ! (λ γ'. split3 ! $
        returns ! (look_at ! 0 refl) $ free_all ! refl $
        -- [both references; the token; what follows; the other tokens]
        suffices ! _ (ends_at 𝓛 ended stayed held (spelled z) both (one, other γ') (tt, (tt, (tt, (tt, tt)))) (tt, (tt, (tt, (tt, tt))))) $
        nothing ! $ nothing ! $ fjoin ! $ nothing ! $ fjoin ! $ nothing ! $ fjoin ! $ nothing ! $ fjoin ! $ join ! $
        move ! (1 ∷ 3 ∷ []) $ join ! $ move ! (0 ∷ 1 ∷ []) $ join ! $ frame ! $
        says_two ! (is_at low (omega arith), is_at high li) $ keep ! (0 ∷ []) $ done !)))))))

    meets : Meets 𝓛 ended.signature (WpFn 𝓤 H 𝓣.C 𝓣.Λ here) (closing 𝓛 ended held)
    meets =
        let number = Goes-dropped 𝓛 3 (plain (λ _. usize)) yes (λ κs x f. refl) in
        let pointer = Goes-dropped 𝓛 3 (plain (λ _. RawPtr)) yes (λ κs x f. refl) in
        walk_Meets 𝓛 ended stayed (Goes-spent_ref 𝓛 3 (0 ∷ []) tt (plain (λ _. Vr E)), (pointer, (number, (number, tt)))) held
        (WpFn 𝓤 H 𝓣.C 𝓣.Λ here) (WpFn-mono 𝓤 H 𝓛.laws 𝓣 here)
        (walked 𝓛 ended stayed held (WpFn 𝓤 H 𝓣.C 𝓣.Λ here)
        (λ κs. (mut_vals, (rawptr_vals, (uint_vals w64, (uint_vals w64, tt)))))
        (λ κs. (mut_Tells (named 0) κs.0 (Vr E), (rawptr_Tells, (uint_Tells w64, (uint_Tells w64, tt)))))
        (λ κs qs bounds a g are.
        walk ((κs, qs, bounds, a, (mut_vals a.0, (rawptr_vals a.1.0, (uint_vals w64 a.1.1.0, (uint_vals w64 a.1.1.1.0, tt))))), g) are.1.1.0.1 are.1.1.1.0.1))

pub two_from_spec : {M : Type 1} → stated.statement M
unfolding tables_of
two_from_spec 𝓤 𝓛 𝓜 𝓡 wired T A L LA g d dd met md =
    let E : El = record { row = T; laws = L; al = record { row = A; laws = LA; g = g; d = d; drops = dd } } in
    let 𝓣 : Tables 𝓤 𝓛.H = tables_of 𝓤 𝓛.H 𝓜 (tables 𝓤 𝓛.H 𝓜 𝓡 𝓡.env) in
    entered 𝓤 𝓛.H (triple_of 𝓛 (ended E).signature (F.spec T A g d dd 𝓛 𝓜.mem 𝓡.returns)) 𝓣.C 𝓣.Λ (#self (args E)) (here E) (code.unfolded 𝓤 𝓛.H 𝓜 𝓡 wired (T, (A, tt)) d dd)
    (meets E 𝓛 𝓜.mem 𝓡.returns 𝓣)

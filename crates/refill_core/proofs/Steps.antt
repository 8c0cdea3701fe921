-- A whole step of an agent, as the list of the notes has it.
--     written_back            the list that is written back is what the step made of it
--     step_fits .. step_still     what the step leaves
use Rattle.std.proofs.Common.{◌≡◌, ◌≢◌, ℕ, ◌<◌, false, ◌++◌, length, take, drop, sym, ap, subst, ◌∙◌, arith, append-nil, inl, inr}
use Rattle.std.proofs.lemmas.List.{take_all, drop_all}
use Rattle.sys_abi.specs.declared.identity.Dir.{Dir}
use Rattle.sys_abi.specs.declared.identity.RealPid.{RealPid}
use Rattle.wire_net.specs.declared.agents.Stepped.TheVariants.{Moved}
use Rattle.wire_net.specs.Networks.{Network}
use Rattle.wire_net.specs.Whereabouts.{whereabouts}
use Rattle.refill_core.specs.Refills.{Notes, Refilling, dirs_of, Fits, turns_after}
use Rattle.refill_core.specs.Holding.{agents_of}
use Rattle.refill_core.specs.Work.{work_left, moved_any, has_work, step_answer}
use Rattle.refill_core.specs.Stepping.{state}
use Rattle.refill_core.proofs.Bytes.{bytes_of, whereabouts_is, ends_keep}
use Rattle.refill_core.proofs.Going.{idle_any}
use Rattle.refill_core.proofs.OneCall.{with_channels}
use Rattle.refill_core.proofs.Still.{ends_still}
use Rattle.refill_core.proofs.Whole.{FitsNow, ends_fit, ends_dirs}
use Rattle.refill_core.proofs.WorkLaws.{ends_lower}
use Rattle.wire_net.proofs.Gains.{gain, has_moved, not_moved}

pub written_back : (n : ℕ) (new seen old : Notes) → length new ≡ length seen → seen ≡ old → length seen ≡ n → take n (new ++ drop (length new) old) ≡ new
written_back n new seen old many same all =
    let sizes : length new ≡ length old = many ∙ ap length same in
    let n_is : n ≡ length new = sym all ∙ sym many in
    ap (λ (l : Notes). take n (new ++ l)) (drop_all (length new) old (omega (arith, sizes))) ∙ ap (take n) (append-nil new) ∙ take_all n new (omega (arith, n_is))

pub step_after : (p : RealPid) (n : ℕ) (new seen old whole : Notes) (t u : Network) → state new u ≡ turns_after p (dirs_of seen) (state seen t) → length new ≡ length seen → seen ≡ old → old ≡ whole → length seen ≡ n
    → state (take n (new ++ drop (length new) old)) u ≡ turns_after p (dirs_of whole) (state whole t)
step_after p n new seen old whole t u after many same view all =
    ap (λ (l : Notes). state l u) (written_back n new seen old many same all) ∙ after ∙ ap (λ (l : Notes). turns_after p (dirs_of l) (state l t)) (same ∙ view)

pub step_fits : (p : RealPid) (w l : Notes) (t u : Network) → Fits t.channels l → state w u ≡ turns_after p (dirs_of l) (state l t) → Fits u.channels w
step_fits p w l t u fits after = subst FitsNow (sym after) (ends_fit p (dirs_of l) (state l t) fits)

pub step_dirs : (p : RealPid) (w l : Notes) (t u : Network) → Fits t.channels l → state w u ≡ turns_after p (dirs_of l) (state l t) → dirs_of w ≡ dirs_of l
step_dirs p w l t u fits after = ap (λ (s : Refilling). dirs_of s.notes) after ∙ ends_dirs p (dirs_of l) (state l t) fits

pub step_kept : (p : RealPid) (w l : Notes) (t u : Network) (d : Dir) → d.side < 2 → Fits t.channels l → state w u ≡ turns_after p (dirs_of l) (state l t)
    → whereabouts u (agents_of w) d ≡ whereabouts t (agents_of l) d
step_kept p w l t u d side fits after =
    whereabouts_is u w d (step_fits p w l t u fits after) ∙ ap (λ (s : Refilling). bytes_of s d) after ∙ ends_keep p (dirs_of l) (state l t) d side fits ∙ sym (whereabouts_is t l d fits)

pub step_less : (p : RealPid) (w l : Notes) (t u : Network) → Fits t.channels l → state w u ≡ turns_after p (dirs_of l) (state l t) → step_answer p (state l t) ≡ Moved
    → work_left u.channels w < work_left t.channels l
step_less p w l t u fits after is =
    let s = state l t in
    let one : gain (moved_any p (dirs_of l) s) ≡ 1 = ap gain (has_moved (has_work p l) (moved_any p (dirs_of l) s) is) in
    let lower = ends_lower p (dirs_of l) s fits in
    let same : work_left u.channels w ≡ work_left (turns_after p (dirs_of l) s).channels (turns_after p (dirs_of l) s).notes = ap (λ (r : Refilling). work_left r.channels r.notes) after in
    omega (arith, one, lower, same)

-- what does not answer that it moved bytes moves none
unmoved : (p : RealPid) (l : Notes) (t : Network) → Fits t.channels l → step_answer p (state l t) ≢ Moved → moved_any p (dirs_of l) (state l t) ≡ false
unmoved p l t fits other = elim (not_moved (has_work p l) (moved_any p (dirs_of l) (state l t)) other) [
  | inl none ↦ idle_any p (dirs_of l) (state l t) fits none
  | inr none ↦ none
]

pub step_still : (p : RealPid) (w l : Notes) (t u : Network) → Fits t.channels l → state w u ≡ turns_after p (dirs_of l) (state l t) → u ≡ with_channels t u.channels → step_answer p (state l t) ≢ Moved → (w ≡ l) × (u ≡ t)
step_still p w l t u fits after net other =
    let same = after ∙ ends_still p (dirs_of l) (state l t) fits (unmoved p l t fits other) in
    (ap (λ (s : Refilling). s.notes) same, net ∙ ap (λ (s : Refilling). with_channels t s.channels) same)

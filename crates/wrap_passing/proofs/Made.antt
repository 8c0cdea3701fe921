-- A call that made a description, before and after its process's number is counted.
--     unmade_on        where it made none
--     countable        a number more can be counted
--     made_on          where it made one, and it is counted
use Rattle.std.proofs.Common.{◌≡◌, ℕ, ◌+◌, ◌^◌, ◌<◌, ◌≤◌, true, false, List, Some, refl, sym, ap, ◌∙◌, subst, arith}
use Rattle.std.specs.Option.{option_map_or}
use Rattle.std.specs.FinMap as map
use Rattle.views.specs.Numbers.{Byte}
use Rattle.views.proofs.MapLaws.{true_false}
use Rattle.sys_abi.specs.declared.identity.VPid.{VPid}
use Rattle.sys_abi.specs.declared.maker.Maker.{Maker}
use Rattle.sys_abi.specs.declared.reply.Errno.{Errno}
use Rattle.call_table.specs.declared.request.Request.{Request}
use Rattle.plain_process.specs.Attempts.{Try, Fails, NotReady, Gives}
use Rattle.plain_tables.specs.Tables.{Makers, changed_at, made_more}
use Rattle.plain_machine.specs.declared.kernel.PlainKernel.{PlainKernel}
use Rattle.plain_machine.specs.Attempts.{Served}
use Rattle.plain_machine.specs.Kernel.{made_of}
use Rattle.plain_machine.specs.Kernels.{IsKernel}
use Rattle.plain_machine.specs.RowLaws.{IsAsked}
use Rattle.plain_machine.specs.Serve.{row}
use Rattle.plain_machine.proofs.Trying.{Trying}
use Rattle.host_tables.specs.declared.attempt.Attempt.TheVariants as answer
use Rattle.host_tables.specs.declared.reply.KernelReply.{KernelReply}
use Rattle.host_tables.specs.declared.reply.KernelReply.TheVariants.{Done, Error, Memory}
use Rattle.host_tables.specs.declared.reply.KernelReply.TheVariants as reply
use Rattle.host_tables.specs.declared.system.System.{System}
use Rattle.host_tables.specs.Serves.{IsReply}
use Rattle.wrap_names.specs.Passing.{Passed}
use Rattle.wrap_names.specs.Asks.{AsksFor}
use Rattle.wrap_names.specs.Wrapping.{IsWrapped, StandsAfter, TellsRow, is_done, kernel_left}
use Rattle.wrap_names.proofs.Keeps.{still}
use Rattle.wrap_names.proofs.Kept.{kept_wrapped, whole_left}
use Rattle.wrap_passing.proofs.MakingRows.{Makes}

module _ (s : System) (next_id : ℕ) (k : PlainKernel) (w : IsWrapped s next_id k) (p : VPid) (t : ℕ) (r : Request)
    (given : List Byte) (asked : IsAsked k p t r given) (n : ℕ)
    (makes : Trying (row k p t r given) (Makes k p n)) (s' : System) (conns : s'.conns ≡ s.conns)
    (now : List Byte) where
  abbrev m : Try Served
  m = row k p t r given

  as_before : Passed s s' k → IsWrapped s' next_id k
  as_before passed =
      kept_wrapped s next_id k w s' k passed (still k)
      (w.stands.exact.makers ∙ ap (λ conns. conns.makers) (sym conns)) w.stands.kernel

  no_error : (e : Errno) (x : Try Served) → Trying x (Makes k p n) → TellsRow given now (answer.Fails e) x
      → kernel_left k x ≡ k
  no_error e (Fails f) made tells = refl
  no_error e NotReady made tells = refl
  no_error e (Gives served) made tells =
      let makes = made.each served refl in
      absurd (subst (IsReply (λ a b. a ≡ b) (answer.Fails e)) makes.answers tells.0)

  no_wait : (x : Try Served) → TellsRow given now answer.NotReady x → kernel_left k x ≡ k
  no_wait (Fails f) tells = refl
  no_wait NotReady tells = refl
  no_wait (Gives served) tells = absurd tells.0

  back : kernel_left k m ≡ k → Passed s s' (kernel_left k m) → IsWrapped s' next_id (kernel_left k m)
  back same passed = subst (IsWrapped s' next_id) (sym same) (as_before (subst (Passed s s') same passed))

  pub unmade_on : (answered : KernelReply) → is_done answered ≡ false → AsksFor s s' k given now answered m
      → StandsAfter s' next_id k given now answered m
  unmade_on (Done v) e h = true_false e
  unmade_on (Error f) e h = (back (no_error f m makes h.1) h.0, h.1)
  unmade_on reply.NotReady e h = (back (no_wait m h.1) h.0, h.1)
  unmade_on Memory e h = (as_before h.0, h.1)

  -- where it made one
  record HasMade (x : Try Served) : Type 0 where
    makes_it : (served : Served) × ((x ≡ Gives served) × Makes k p n served)

  has_made : (v : ℕ) (x : Try Served) → Trying x (Makes k p n) → TellsRow given now (answer.Gives v) x → HasMade x
  has_made v (Fails f) made tells = absurd (no_gift v (record { 0 = f }) tells.0)
    where
      no_gift : (v : ℕ) (e : Errno) → answer.Gives v ≡ answer.Fails e → ⊥
      no_gift v e h = cc
  has_made v NotReady made tells = absurd (no_gift v tells.0)
    where
      no_gift : (v : ℕ) → answer.Gives v ≡ answer.NotReady → ⊥
      no_gift v h = cc
  has_made v (Gives served) made tells = record { makes_it = (served, (refl, made.each served refl)) }

  abbrev counted : System
  counted = record s' { conns = record s'.conns { makers = changed_at s'.conns.makers p (made_more n) } }

  on_counted : (x : Try Served) → HasMade x → x ≡ m → Passed s s' (kernel_left k x)
      → IsWrapped counted next_id (kernel_left k x)
  on_counted x has is passed =
      let served = has.makes_it.0 in
      let gives = has.makes_it.1.0 in
      let made = has.makes_it.1.1 in
      let left : kernel_left k x ≡ served.kernel = ap (kernel_left k) gives in
      let on = subst (Passed s s') left passed in
      subst (IsWrapped counted next_id) (sym left)
      (kept_wrapped s next_id k w counted served.kernel
      (record { ids = on.ids; conns = on.conns; names = on.names; stands = on.stands })
      made.kernel.tables
      (made.kernel.makers
      ∙ ap (λ (makers : Makers). changed_at makers p (made_more n))
      (w.stands.exact.makers ∙ ap (λ conns. conns.makers) (sym conns)))
      (subst (λ y. IsKernel y) (ap (kernel_left k) (sym is ∙ gives))
      (whole_left s next_id k w p t r given asked)))

  pub made_on : (v : ℕ) → AsksFor s s' k given now (Done v) m
      → StandsAfter counted next_id k given now (Done v) m
  made_on v h = (on_counted m (has_made v m makes h.1) refl h.0, h.1)

  pub countable : (v : ℕ) → n ≤ 3 → AsksFor s s' k given now (Done v) m
      → (maker : Maker) → map.get s'.conns.makers p ≡ Some maker → maker.made + n < 2 ^ 32
  countable v few h maker is =
      let room = (has_made v m makes h.1).makes_it.1.1.kernel.room in
      let same : made_of k p ≡ maker.made =
      ap (λ (makers : Makers). option_map_or (λ (x : Maker). x.made) (map.get makers p) 0)
      (w.stands.exact.makers ∙ ap (λ conns. conns.makers) (sym conns))
      ∙ ap (λ o. option_map_or (λ (x : Maker). x.made) o 0) is in
      omega (arith, room, same, few)

  pub done_on : (answered : KernelReply) → is_done answered ≡ true → AsksFor s s' k given now answered m
      → StandsAfter counted next_id k given now answered m
  done_on (Done v) e h = made_on v h
  done_on (Error f) e h = true_false (sym e)
  done_on reply.NotReady e h = true_false (sym e)
  done_on Memory e h = true_false (sym e)

  pub countable_if : (answered : KernelReply) → is_done answered ≡ true → n ≤ 3
      → AsksFor s s' k given now answered m
      → (maker : Maker) → map.get s'.conns.makers p ≡ Some maker → maker.made + n < 2 ^ 32
  countable_if (Done v) e few h = countable v few h
  countable_if (Error f) e few h = true_false (sym e)
  countable_if reply.NotReady e few h = true_false (sym e)
  countable_if Memory e few h = true_false (sym e)

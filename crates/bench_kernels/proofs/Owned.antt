-- Calls and arrivals keep what a benchmark keeps of a kernel part.
--     is_asked         the calls that it makes are asked as they must be
--     answers_own      after a call
--     arrival_own      after bytes have arrived
use Rattle.std.proofs.Common.{◌≡◌, ◌≢◌, ℕ, ◌-◌, min, Bool, true, false, cond, List, length, Option, Some, None, inl, inr, refl, sym, ap, subst, ◌∙◌, arith}
use Rattle.std.specs.Prelude.{◌⊎◌}
use Rattle.std.specs.Ordering.{nat_cmp, eq_by_cmp}
use Rattle.std.specs.Cmp.{nat_cmp_total}
use Rattle.std.specs.FinMap as map
use Rattle.views.proofs.MapLaws.{true_false, key_tied, same_or_other}
use Rattle.views.specs.Numbers.{Byte}
use Rattle.sys_abi.specs.declared.identity.VPid.{VPid}
use Rattle.sys_abi.specs.declared.identity.Dir.{Dir}
use Rattle.sys_abi.specs.declared.reply.Reply.{Reply}
use Rattle.sys_abi.proofs.OrderLaws.{vpid_total, vpid_exact}
use Rattle.call_table.specs.declared.request.Request.{Request}
use Rattle.call_table.specs.declared.request.Request.TheVariants.{Exit}
use Rattle.plain_process.specs.Attempts.{Try, Fails, NotReady, Gives}
use Rattle.plain_process.specs.Put.{added_thread, made_by}
use Rattle.plain_tables.specs.Tables.{pid}
use Rattle.plain_tables.specs.declared.channel.Direction.{Direction}
use Rattle.plain_machine.specs.declared.kernel.PlainKernel.{PlainKernel}
use Rattle.plain_machine.specs.Attempts.{Served, settled}
use Rattle.plain_machine.specs.Kernel.{is_live, has_thread}
use Rattle.plain_machine.specs.RowLaws.{IsAsked, IsServed, IsMade, there_after, with_one}
use Rattle.plain_machine.specs.Serve.{row, serve}
use Rattle.plain_machine.proofs.EachRow.{each_is_served}
use Rattle.plain_machine.proofs.WholeChanges.{whole_arrival}
use Rattle.host_tables.specs.declared.reply.KernelReply.{KernelReply}
use Rattle.host_tables.specs.declared.reply.KernelReply.TheVariants as told
use Rattle.wrap_names.specs.Changes.{after_arrival, arrived_in}
use Rattle.wrap_names.specs.Wrapping.{Answers, kernel_left}
use Rattle.bench_kernels.specs.Owning.{IsOwn, MayMake, MayLend, ends_thread}

one_more : (new : Option ℕ) (u : ℕ) → with_one new u true ≡ true
one_more None u = refl
one_more (Some n) u = either (eq_by_cmp nat_cmp u n)
  where
    either : (b : Bool) → cond b true true ≡ true
    either true = refl
    either false = refl

stays_there : (q : Request) (t : ℕ) (reply : Reply) → ends_thread q ≡ false → there_after t q reply t true ≡ true
unfolding there_after
stays_there (Exit code) t reply is = true_false is
stays_there q t reply is = one_more (added_thread q reply) t

born : (k after : PlainKernel) (made : Option ℕ) → IsMade k after made → is_live after (pid k.next_id) ≡ true
    → has_thread after (pid k.next_id) k.next_id ≡ true
born k after None dead lives = true_false (sym lives ∙ dead)
born k after (Some n) made lives =
    made.2 k.next_id ∙ ap (λ b. cond b true false) (key_tied nat_cmp_total map.nat_cmp-IsAntisymmetric k.next_id)

pub is_asked : (k : PlainKernel) (p : VPid) (q : Request) (given : List Byte) → IsOwn k → MayMake q
    → is_live k p ≡ true → MayLend given → IsAsked k p p.0 q given
is_asked k p q given own may alive lent = record {
  kernel = own.whole;
  alive = alive;
  thread = own.first p alive;
  request = may.words;
  bytes = lent.bytes;
  short = lent.short;
}

module _ (k : PlainKernel) (p : VPid) (q : Request) (given : List Byte) (own : IsOwn k) (may : MayMake q)
    (asked : IsAsked k p p.0 q given) where
  served_own : (s : Served) → serve k p p.0 q given ≡ Some s → IsOwn s.kernel
  served_own s serves = record {
    whole = law.kernel;
    first = λ r lives. caller r lives (same_or_other vpid_total vpid_exact r p);
  }
    where
      law : IsServed k p p.0 q given s
      law = each_is_served k p p.0 q given s asked serves

      child : (r : VPid) → is_live s.kernel r ≡ true → r ≢ p → (r ≡ pid k.next_id) ⊎ (r ≢ pid k.next_id)
          → has_thread s.kernel r r.0 ≡ true
      child r lives other (inl is) =
          subst (λ (v : VPid). has_thread s.kernel v v.0 ≡ true) (sym is)
          (born k s.kernel (made_by q s.reply) law.made (subst (λ (v : VPid). is_live s.kernel v ≡ true) is lives))
      child r lives other (inr old) = law.elsewhere r r.0 other old ∙ own.first r (sym (law.live r other old) ∙ lives)

      caller : (r : VPid) → is_live s.kernel r ≡ true → (r ≡ p) ⊎ (r ≢ p) → has_thread s.kernel r r.0 ≡ true
      caller r lives (inl is) =
          subst (λ (v : VPid). has_thread s.kernel v v.0 ≡ true) (sym is)
          (law.here p.0 (subst (λ (v : VPid). is_live s.kernel v ≡ true) is lives)
          ∙ ap (there_after p.0 q s.reply p.0) asked.thread ∙ stays_there q p.0 s.reply may.stays)
      caller r lives (inr other) = child r lives other (same_or_other vpid_total vpid_exact r (pid k.next_id))

  row_own : (m : Try Served) → row k p p.0 q given ≡ m → IsOwn (kernel_left k m)
  unfolding serve
  row_own (Fails e) is = own
  row_own NotReady is = own
  row_own (Gives s) is = served_own s (ap (settled k) is)

  pub answers_own : (after : PlainKernel) (now : List Byte) (reply : KernelReply)
      → Answers k after given now reply (row k p p.0 q given) → IsOwn after
  answers_own after now (told.Done n) is = subst IsOwn (sym is.0) (row_own (row k p p.0 q given) refl)
  answers_own after now (told.Error e) is = subst IsOwn (sym is.0) (row_own (row k p p.0 q given) refl)
  answers_own after now told.NotReady is = subst IsOwn (sym is.0) (row_own (row k p p.0 q given) refl)
  answers_own after now told.Memory is = subst IsOwn (sym is.0) own

module _ (k : PlainKernel) (d : Dir) (n : ℕ) (own : IsOwn k) where
  arrived_own : (found : Option Direction) → map.get k.directions d ≡ found → IsOwn (arrived_in k d n found)
  unfolding is_live
  arrived_own None is = own
  arrived_own (Some direction) is = record {
    whole = whole_arrival k d direction (min n (length direction.left - direction.arrived)) own.whole is
        (let low = (own.whole.channels.each d direction is).arrived in omega (arith, low));
    first = own.first;
  }

  pub arrival_own : IsOwn (after_arrival k d n)
  unfolding after_arrival
  arrival_own = arrived_own (map.get k.directions d) refl

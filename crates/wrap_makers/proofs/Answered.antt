-- What the kernel answered to a call that makes something, as the system tells it.
--     countable      so many things more can be counted
--     answered_on    the system afterwards, by cases on the answer
use Rattle.std.proofs.Common.{◌≡◌, ℕ, ◌+◌, ◌^◌, ◌<◌, Bool, true, false, List, Some, None, refl, sym, ap, ◌∙◌, subst, arith}
use Rattle.std.specs.Option.{option_map_or}
use Rattle.std.specs.FinMap as map
use Rattle.views.specs.Numbers.{Byte}
use Rattle.views.proofs.MapLaws.{true_false}
use Rattle.sys_abi.specs.declared.identity.VPid.{VPid}
use Rattle.sys_abi.specs.declared.identity.RealPid.{RealPid}
use Rattle.sys_abi.specs.declared.maker.Maker.{Maker}
use Rattle.sys_abi.specs.declared.reply.Reply.{Reply}
use Rattle.sys_abi.specs.declared.reply.Reply.TheVariants as plain_reply
use Rattle.call_table.specs.declared.request.Request.{Request}
use Rattle.plain_process.specs.Attempts.{Try, Fails, NotReady, Gives}
use Rattle.plain_tables.specs.Tables.{Makers}
use Rattle.plain_machine.specs.declared.kernel.PlainKernel.{PlainKernel}
use Rattle.plain_machine.specs.Attempts.{Served}
use Rattle.plain_machine.specs.Kernel.{made_of}
use Rattle.plain_machine.specs.Kernels.{IsKernel}
use Rattle.plain_machine.specs.RowLaws.{IsAsked}
use Rattle.plain_machine.specs.Serve.{row}
use Rattle.plain_machine.proofs.Trying.{Trying}
use Rattle.host_tables.specs.declared.attempt.Attempt.{Attempt}
use Rattle.host_tables.specs.declared.attempt.Attempt.TheVariants as answer
use Rattle.host_tables.specs.declared.kernel.Kernel.{Kernel}
use Rattle.host_tables.specs.declared.reply.KernelReply.{KernelReply}
use Rattle.host_tables.specs.declared.reply.KernelReply.TheVariants.{Done, Error, Memory}
use Rattle.host_tables.specs.declared.reply.KernelReply.TheVariants as reply
use Rattle.host_tables.specs.declared.system.System.{System}
use Rattle.host_tables.specs.Numbers.{real}
use Rattle.host_tables.specs.Serves.{IsReply, Serves, ValueOf, GivenAfter, value_of, reply_value, ServesAttempt, ServesCall}
use Rattle.host_tables.specs.Stands.{Given, Stands}
use Rattle.host_tables.specs.Systems.{given_of}
use Rattle.wrap_names.specs.Wrapping.{IsWrapped, StandsAfter, TellsRow, is_done, kernel_left}
use Rattle.wrap_names.proofs.Kept.{whole_left}
use Rattle.wrap_makers.specs.declared.making.Making.{Making}
use Rattle.wrap_makers.specs.Entries.{with_entry, without_entry, settled, given_with}
use Rattle.wrap_makers.proofs.EndRows.{Makes}
use Rattle.wrap_makers.proofs.Made.{made_system, made_wrapped}
use Rattle.wrap_makers.proofs.Fits.{Fits}
use Rattle.wrap_makers.proofs.Undone.{undone}

abbrev is_gift : Attempt → Bool
is_gift (answer.Gives n) = true
is_gift _ = false

no_value : (V : ℕ → ℕ → Type 0) (a : Attempt) (v : ℕ) → is_gift a ≡ false → IsReply V a (plain_reply.Value v)
    → ⊥
no_value V (answer.Gives n) v none h = true_false none
no_value V (answer.Fails e) v none h = h
no_value V answer.NotReady v none h = h

same_value : (V : ℕ → ℕ → Type 0) → ((n v : ℕ) → V n v → n ≡ v) → (a : Attempt) (r : Reply)
    → IsReply V a r → IsReply (λ n v. n ≡ v) a r
same_value V same (answer.Gives n) (plain_reply.Value v) h = same n v h
same_value V same (answer.Gives n) (plain_reply.Error f) h = absurd h
same_value V same (answer.Fails e) (plain_reply.Value v) h = absurd h
same_value V same (answer.Fails e) (plain_reply.Error f) h = h
same_value V same answer.NotReady r h = absurd h

no_gift : (n e : ℕ) → answer.Gives n ≡ answer.Fails (record { 0 = e }) → ⊥
no_gift n e h = cc

no_wait : (n : ℕ) → answer.Gives n ≡ answer.NotReady → ⊥
no_wait n h = cc

module _ (s : System) (next_id : ℕ) (k : PlainKernel) (w : IsWrapped s next_id k) (p : VPid) (t : ℕ)
    (r : Request) (before : List Byte) (asked : IsAsked k p t r before) (m : Making)
    (fits : Fits s k p t r before m) (who : RealPid) (thread : ℕ)
    (paired : map.get s.ids.pids p.0 ≡ Some who)
    (thread_paired : map.get s.ids.pids t ≡ Some (real who.node thread))
    (new : Kernel) (now : List Byte) where
  abbrev g : Given
  g = given_of s

  abbrev its_row : Try Served
  its_row = row k p t r before

  abbrev Says : Attempt → Try Served → Type 0
  Says a x = Serves (ValueOf who m.call) (GivenAfter who k p 0 before m.call) g s.kernel new before now a x

  abbrev MakesIt : Served → Type 0
  MakesIt served = Makes k p m.count m.entry served

  says : (a : Attempt) → ServesAttempt s.kernel new who thread m.call before now a → Says a its_row
  says a serves =
      subst (Says a) fits.row_is
      (serves g k p w.stands.kernel w.stands.tables paired t 0 thread_paired (fits.named who))

  abbrev given_then : Attempt → Served → Given
  given_then a served = GivenAfter who k p 0 before m.call (value_of a) (reply_value served.reply) g

  abbrev IsTold : Attempt → Served → ℕ → ℕ → Type 0
  IsTold a served n v = ValueOf who m.call n v (given_then a served)

  -- where it makes nothing

  record MadeNone (a : Attempt) (x : Try Served) : Type 0 where
    kernel : new ≡ s.kernel
    left : kernel_left k x ≡ k
    tells : TellsRow before now a x

  made_none : (a : Attempt) (x : Try Served) → Trying x MakesIt → is_gift a ≡ false → Says a x → MadeNone a x
  made_none a (Fails e) makes none u = record { kernel = u.kernel; left = refl; tells = (u.answer, u.bytes) }
  made_none a NotReady makes none u = record { kernel = u.kernel; left = refl; tells = (u.answer, u.bytes) }
  made_none a (Gives served) makes none gave =
      let made = makes.each served refl in
      absurd (no_value (IsTold a served) a made.value none
      (subst (IsReply (IsTold a served) a) made.answers gave.reply))

  abbrev undone_system : System
  undone_system = record s { kernel = new; conns = without_entry (with_entry s.conns m.entry) m.entry }

  as_before : new ≡ s.kernel → undone_system ≡ s
  as_before same = λ i. record s { kernel = same i; conns = undone s.conns m.entry fits.new i }

  none_on : (a : Attempt) → is_gift a ≡ false → Says a its_row
      → IsWrapped undone_system next_id (kernel_left k its_row) × TellsRow before now a its_row
  none_on a none h =
      let is = made_none a its_row fits.makes none h in (
        subst (IsWrapped undone_system next_id) (sym is.left)
            (subst (λ (x : System). IsWrapped x next_id k) (sym (as_before is.kernel)) w),
        is.tells,
      )

  -- where it makes what it is for

  record MadeOne (n : ℕ) (x : Try Served) : Type 0 where
    served : Served
    gives : x ≡ Gives served
    makes : MakesIt served
    stands : Stands (given_with g m.entry) None new served.kernel
    tells : TellsRow before now (answer.Gives n) x

  made_one : (n : ℕ) (x : Try Served) → Trying x MakesIt → Says (answer.Gives n) x → MadeOne n x
  made_one n (Fails e) makes u = absurd (no_gift n e u.answer)
  made_one n NotReady makes u = absurd (no_wait n u.answer)
  made_one n (Gives s') makes gave = record {
    served = s';
    gives = refl;
    makes = makes.each s' refl;
    stands = subst (λ given. Stands given None new s'.kernel) (fits.after who n (reply_value s'.reply) g)
        gave.stands;
    tells = (
      same_value (IsTold (answer.Gives n) s') (λ a b h. fits.value who a b (given_then (answer.Gives n) s') h)
          (answer.Gives n) s'.reply gave.reply,
      gave.bytes,
    );
  }

  abbrev its_system : System
  its_system = made_system s new p m.count m.entry

  one_by : (n : ℕ) (x : Try Served) → x ≡ its_row → MadeOne n x
      → IsWrapped its_system next_id (kernel_left k x) × TellsRow before now (answer.Gives n) x
  one_by n x is one =
      let left : kernel_left k x ≡ one.served.kernel = ap (kernel_left k) one.gives in (
        subst (IsWrapped its_system next_id) (sym left)
            (made_wrapped s next_id k w p m.count m.entry new one.served.kernel one.makes.kernel one.stands
            (subst (λ (y : PlainKernel). IsKernel y) (ap (kernel_left k) (sym is) ∙ left)
            (whole_left s next_id k w p t r before asked))),
        one.tells,
      )

  one : (n : ℕ) → ServesAttempt s.kernel new who thread m.call before now (answer.Gives n) → MadeOne n its_row
  one n serves = made_one n its_row fits.makes (says (answer.Gives n) serves)

  pub answered_on : (answered : KernelReply) → ServesCall s.kernel new who thread m.call before now answered
      → StandsAfter (record s {
        kernel = new;
        conns = settled (with_entry s.conns m.entry) p m.entry m.count answered;
      }) next_id k before now answered its_row
  answered_on (Done n) h = one_by n its_row refl (one n h)
  answered_on (Error e) h = none_on (answer.Fails e) refl (says (answer.Fails e) h)
  answered_on reply.NotReady h = none_on answer.NotReady refl (says answer.NotReady h)
  answered_on Memory h = (subst (λ (x : System). IsWrapped x next_id k) (sym (as_before h.0)) w, h.1)

  pub countable : (answered : KernelReply) → ServesCall s.kernel new who thread m.call before now answered
      → is_done answered ≡ true → (maker : Maker) → map.get s.conns.makers p ≡ Some maker
      → maker.made + m.count < 2 ^ 32
  countable (Done n) h done maker is =
      let room = (one n h).makes.kernel.room in
      let same : made_of k p ≡ maker.made =
      ap (λ (makers : Makers). option_map_or (λ (x : Maker). x.made) (map.get makers p) 0)
      w.stands.exact.makers
      ∙ ap (λ o. option_map_or (λ (x : Maker). x.made) o 0) is in
      omega (arith, room, same, fits.few)
  countable (Error e) h done maker is = true_false (sym done)
  countable reply.NotReady h done maker is = true_false (sym done)
  countable Memory h done maker is = true_false (sym done)

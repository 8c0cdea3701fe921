-- The child that a fork is to make stands among the guests while its call is served.
--     nobody_next          nobody has its number
--     none_beside          nor has anybody where another guest changed
--     twin_there           it stands there
--     none_placed, one_placed         it is put there where the call forks
--     not_forked, not_born, born      what is left of it after the call
--     part_is              a guest by its three fields
--     same_seen            room for a thread changes no process's own part
--     kernel_same, replied            what the kernel's answer tells of it
--     none_reserved, held_there, grown, kept      a call that was tried, and one for which memory was wanted
use Rattle.std.proofs.Common.{◌≡◌, ◌≢◌, ℕ, Bool, true, false, cond, List, Option, Some, None, refl, sym, ap, subst, ◌∙◌}
use Rattle.std.specs.Prelude.{is_some, IfSome}
use Rattle.std.specs.Option.{option_map}
use Rattle.std.specs.FinMap as map
use Rattle.views.specs.Maps.{map_values}
use Rattle.views.proofs.MapLaws.{true_false, get_insert_same, get_insert_other, insert_insert, insert_same, remove_insert_new}
use Rattle.views.proofs.MapValues.{get-map_values}
use Rattle.sys_abi.specs.declared.identity.VPid.{VPid}
use Rattle.sys_abi.specs.declared.reply.Reply.{Reply}
use Rattle.sys_abi.specs.declared.reply.Reply.TheVariants.{Value, Error}
use Rattle.sys_abi.proofs.OrderLaws.{vpid_total, vpid_exact}
use Rattle.call_table.specs.declared.request.Request.{Request}
use Rattle.plain_tables.specs.Tables.{pid}
use Rattle.plain_process.specs.Attempts.{Try}
use Rattle.plain_process.specs.Buffers.{lent}
use Rattle.plain_process.specs.Put.{made_by}
use Rattle.plain_process.specs.Threads.{child_of}
use Rattle.plain_process.specs.Twins.{twin_of}
use Rattle.plain_process.specs.declared.user_part.UserPart.{UserPart}
use Rattle.plain_machine.specs.declared.kernel.PlainKernel.{PlainKernel}
use Rattle.plain_machine.specs.declared.plain.Plain.{Plain}
use Rattle.plain_machine.specs.Attempts.{Served}
use Rattle.plain_machine.specs.Kernel.{is_live}
use Rattle.plain_machine.specs.Records.{Users}
use Rattle.plain_machine.specs.RowLaws.{IsMade}
use Rattle.plain_machine.specs.Valid.{IsValid}
use Rattle.plain_machine.proofs.RowBounds.{next_is_nobody}
use Rattle.host_tables.specs.declared.reply.KernelReply.{KernelReply}
use Rattle.host_tables.specs.declared.reply.KernelReply.TheVariants.{Done, Error as Fails, NotReady, Memory}
use Rattle.wrap_calls.specs.HandedOn.{Answers}
use Rattle.guest_proc.specs.Guests.{GuestPart, HasThread}
use Rattle.computation.specs.Parts.{Guests, Grown, Reserved, born_if, grown_by, is_fork, told_as, with_twin}
use Rattle.computation.proofs.Answered.{makes_fork, born_as, unborn_as}
use Rattle.computation.proofs.Effects.{found_part, nobody, same_some, seen_put}
use Rattle.computation.proofs.States.{seen}

none_if : (o : Option GuestPart) → is_some (option_map (λ (guest : GuestPart). guest.user) o) ≡ false → o ≡ None
none_if None is = refl
none_if (Some guest) is = true_false is

pub nobody_next : (k : PlainKernel) (guests : Guests) → IsValid (seen k guests) → map.get guests (pid k.next_id) ≡ None
nobody_next k guests valid =
    none_if (map.get guests (pid k.next_id))
    (sym (ap is_some (get-map_values (λ (guest : GuestPart). guest.user) guests (pid k.next_id))) ∙ valid.alive (pid k.next_id) ∙ next_is_nobody k valid.kernel)

pub none_beside : (guests : Guests) (p next : VPid) (guest : GuestPart) → next ≢ p → map.get guests next ≡ None → map.get (map.insert guests p guest) next ≡ None
none_beside guests p next guest other none = get_insert_other vpid_total vpid_exact guests p guest next other ∙ none

module _ (before : Guests) (guest : GuestPart) (t : ℕ) (q : Request) (next : VPid) where
  abbrev twin : GuestPart
  twin = record { pid = guest.pid; user = twin_of guest.user t; spare = 0 }

  abbrev child : GuestPart
  child = record { pid = next; user = child_of guest.user t next.0 q; spare = 0 }

  twin_in : is_fork q ≡ true → with_twin before guest t q next ≡ map.insert before next twin
  twin_in fork = ap (λ b. cond b (map.insert before next twin) before) fork

  pub twin_there : is_fork q ≡ true → map.get (with_twin before guest t q next) next ≡ Some twin
  twin_there fork = ap (λ (m : Guests). map.get m next) (twin_in fork) ∙ get_insert_same vpid_total vpid_exact before next twin

  -- a call that does not fork makes no child
  none_made : (is_born : Bool) → (is_born ≡ true → made_by q (Value next.0) ≡ Some next.0) → is_fork q ≡ false → grown_by before guest.user t q next (born_if is_born next) ≡ before
  none_made true makes none = true_false (sym (makes_fork q (Value next.0) next.0 (makes refl)) ∙ none)
  none_made false makes none = refl

  pub not_forked : (old : Guests) (is_born : Bool) → (is_born ≡ true → made_by q (Value next.0) ≡ Some next.0) → is_fork q ≡ false → old ≡ with_twin before guest t q next
      → old ≡ grown_by before guest.user t q next (born_if is_born next)
  not_forked old is_born makes none is =
      is ∙ ap (λ b. cond b (map.insert before next twin) before) none ∙ sym (none_made is_born makes none)

  pub not_born : (old : Guests) (is_born : Bool) → is_born ≡ false → is_fork q ≡ true → map.get before next ≡ None → old ≡ with_twin before guest t q next
      → map.remove old next ≡ grown_by before guest.user t q next (born_if is_born next)
  not_born old is_born dead fork none is =
      ap (λ (m : Guests). map.remove m next) (is ∙ twin_in fork) ∙ remove_insert_new vpid_total vpid_exact before next twin none
      ∙ ap (λ b. grown_by before guest.user t q next (born_if b next)) (sym dead)

  pub born : (old : Guests) (is_born : Bool) (settled : GuestPart) → is_born ≡ true → is_fork q ≡ true → old ≡ with_twin before guest t q next → settled ≡ child
      → map.insert old next settled ≡ grown_by before guest.user t q next (born_if is_born next)
  born old is_born settled lives fork is same =
      ap (λ (m : Guests). map.insert m next settled) (is ∙ twin_in fork) ∙ insert_insert vpid_total vpid_exact before next twin settled
      ∙ ap (map.insert before next) same ∙ ap (λ b. grown_by before guest.user t q next (born_if b next)) (sym lives)

-- the twin that is put there, if the call forks
pub none_placed : (fork : Bool) (made : Option GuestPart) (x : GuestPart) (guests more : Guests) → made ≡ cond fork (Some x) None → made ≡ None → guests ≡ cond fork more guests
none_placed true made x guests more is none = absurd (nobody made x none is)
none_placed false made x guests more is none = refl

pub one_placed : (fork : Bool) (made : Option GuestPart) (x y : GuestPart) (guests : Guests) (next : VPid) → made ≡ cond fork (Some x) None → made ≡ Some y → map.insert guests next y ≡ cond fork (map.insert guests next x) guests
one_placed true made x y guests next is some = ap (map.insert guests next) (same_some y x (sym some ∙ is))
one_placed false made x y guests next is some = absurd (nobody made y is some)

pub part_is : (guest : GuestPart) (p : VPid) (user : UserPart) (spare : ℕ) → guest.pid ≡ p → guest.user ≡ user → guest.spare ≡ spare → guest ≡ record { pid = p; user = user; spare = spare }
part_is guest p user spare number part room =
    ap (λ n. let g : GuestPart = record { pid = n; user = guest.user; spare = guest.spare } in g) number
    ∙ ap (λ (u : UserPart). let g : GuestPart = record { pid = p; user = u; spare = guest.spare } in g) part
    ∙ ap (λ n. let g : GuestPart = record { pid = p; user = user; spare = n } in g) room

pub same_seen : (k after : PlainKernel) (before left : Guests) (p : VPid) (guest : GuestPart) (spare : ℕ) → map.get before p ≡ Some guest → after ≡ k
    → left ≡ map.insert before p (record { pid = guest.pid; user = guest.user; spare = spare }) → seen after left ≡ seen k before
same_seen k after before left p guest spare there kernel is =
    ap (λ (x : PlainKernel). seen x left) kernel ∙ ap (seen k) is ∙ seen_put k before p (record { pid = guest.pid; user = guest.user; spare = spare })
    ∙ ap (λ (m : Users). let g : Plain = record { kernel = k; users = m } in g)
    (insert_same vpid_total vpid_exact (map_values (λ guest. guest.user) before) p guest.user (found_part before p guest (sym there)))

-- whether a child was made is whether it lives
born_made : (k after : PlainKernel) (made : Option ℕ) (n : ℕ) (is_born : Bool) → n ≡ k.next_id → is_born ≡ is_live after (pid n) → IsMade k after made → born_if is_born (pid n) ≡ made
born_made k after made n true same lives is =
    ap (λ (x : ℕ). Some x) same ∙ sym (born_as k after made is (sym (lives ∙ ap (λ x. is_live after (pid x)) same)))
born_made k after made n false same lives is = sym (unborn_as k after made is (sym (lives ∙ ap (λ x. is_live after (pid x)) same)))

-- the kernel is as before where it wanted memory
pub kernel_same : (k after : PlainKernel) (given left : List ℕ) (told : KernelReply) (m : Try Served) → Answers k after given left told m → told ≡ Memory → after ≡ k
kernel_same k after given left told m answers wants = (subst (λ (x : KernelReply). Answers k after given left x m) wants answers).0

-- where a child lives it answered
pub replied : (k after : PlainKernel) (told : KernelReply) → told ≢ NotReady → (told ≡ Memory → after ≡ k) → is_live k (pid k.next_id) ≡ false → is_live after (pid k.next_id) ≡ true → (reply : Reply) × (told ≡ told_as reply)
replied k after (Done n) waits wants dead lives = (Value n, refl)
replied k after (Fails e) waits wants dead lives = (Error e, refl)
replied k after NotReady waits wants dead lives = absurd (waits refl)
replied k after Memory waits wants dead lives = true_false (sym lives ∙ ap (λ (x : PlainKernel). is_live x (pid k.next_id)) (wants refl) ∙ dead)

-- a fork whose child lives finds its twin there
pub lent_there : (guests : Guests) (next : VPid) (found : GuestPart) (q : Request) (given : List ℕ) → map.get guests next ≡ Some found → lent found.user.memory q ≡ Some given
    → IfSome (map.get guests next) (λ twin. is_some (lent twin.user.memory q) ≡ true)
lent_there guests next found q given there reads =
    subst (λ (o : Option GuestPart). IfSome o (λ twin. is_some (lent twin.user.memory q) ≡ true)) (sym there) (ap is_some reads)

module _ (k : PlainKernel) (guests reserved : Guests) (p : VPid) (guest : GuestPart) (q : Request) (n : ℕ) (valid : IsValid (seen k guests)) (there : map.get guests p ≡ Some guest)
    (reserves : Reserved guests reserved p guest q) (same : n ≡ k.next_id) where
  abbrev held : GuestPart
  held = record { pid = guest.pid; user = guest.user; spare = reserves.spare }

  none_there : map.get guests (pid n) ≡ None
  none_there = ap (λ x. map.get guests (pid x)) same ∙ nobody_next k guests valid

  none_reserved : map.get reserved (pid n) ≡ None
  none_reserved =
      ap (λ (m : Guests). map.get m (pid n)) reserves.guests
      ∙ none_beside guests p (pid n) held (λ is. nobody (map.get guests p) guest (ap (map.get guests) (sym is) ∙ none_there) there) none_there

  pub held_there : map.get reserved p ≡ Some held
  held_there = ap (λ (m : Guests). map.get m p) reserves.guests ∙ get_insert_same vpid_total vpid_exact guests p held

  module _ (placed left : Guests) (t : ℕ) (is_born : Bool) (has : HasThread guest.user t)
      (places : (found : GuestPart) → map.get reserved p ≡ Some found → placed ≡ with_twin reserved found t q (pid n))
      (settles : (before : Guests) (found : GuestPart) (t : ℕ) → HasThread found.user t → map.get before (pid n) ≡ None → placed ≡ with_twin before found t q (pid n)
      → left ≡ grown_by before found.user t q (pid n) (born_if is_born (pid n))) where
    left_is : left ≡ grown_by reserved guest.user t q (pid n) (born_if is_born (pid n))
    left_is = settles reserved held t has none_reserved (places held held_there)

    pub grown : (after : PlainKernel) (reply : Reply) → is_born ≡ is_live after (pid n) → IsMade k after (made_by q reply) → Grown guests left p guest t q reply (pid k.next_id)
    grown after reply lives made = record {
      spare = reserves.spare;
      room = reserves.room reply;
      guests = left_is ∙ ap (grown_by reserved guest.user t q (pid n)) (born_made k after (made_by q reply) n is_born same lives made)
          ∙ ap (λ (m : Guests). grown_by m guest.user t q (pid n) (made_by q reply)) reserves.guests
          ∙ ap (λ x. grown_by (map.insert guests p held) guest.user t q (pid x) (made_by q reply)) same;
    }

    pub kept : (after : PlainKernel) → is_born ≡ is_live after (pid n) → after ≡ k → seen after left ≡ seen k guests
    kept after lives is =
        let dead : is_born ≡ false = lives ∙ ap (λ (x : PlainKernel). is_live x (pid n)) is ∙ ap (λ x. is_live k (pid x)) same ∙ next_is_nobody k valid.kernel in
        same_seen k after guests left p guest reserves.spare there is
        (left_is ∙ ap (λ b. grown_by reserved guest.user t q (pid n) (born_if b (pid n))) dead ∙ reserves.guests)

-- A descriptor more through the pairs.
use Rattle.std.proofs.Common.{◌≡◌, ◌≢◌, ℕ, ◌≤◌, Bool, false, Option, Some, None, Ok, Err, refl, sym, ap, ◌∙◌, subst, List}
use Rattle.std.specs.Prelude.{IsSome}
use Rattle.std.specs.FinMap as map
use Rattle.std.proofs.lemmas.Option.{none-some}
use Rattle.views.specs.Limits.{DESCRIPTOR_LIMIT}
use Rattle.views.proofs.MapLaws.{true_false}
use Rattle.sys_abi.specs.declared.errors.TheConstants.{EBADF, EMFILE}
use Rattle.sys_abi.specs.declared.identity.VPid.{VPid}
use Rattle.sys_abi.specs.declared.identity.RealPid.{RealPid}
use Rattle.fd_book.specs.Books as books
use Rattle.fd_tables.specs.Slots as slots
use Rattle.fd_book.specs.Books.{Books, IsWhole}
use Rattle.fd_tables.specs.Numbers.{AllUsed, IsLowestFree}
use Rattle.plain_process.specs.Attempts.{Try, Fails, Gives, and_then}
use Rattle.host_tables.specs.OfPlainMachine.declared.kernel.PlainKernel.{PlainKernel}
use Rattle.host_tables.specs.OfPlainMachine.Attempts.{Served, replied}
use Rattle.host_tables.specs.OfPlainMachine.Kernel.{held, free_from, with_descriptor}
use Rattle.host_tables.specs.OfPlainMachine.Rows.Descriptors.{dup_from, dup_row}
use Rattle.host_tables.specs.declared.kernel.Kernel.{Kernel}
use Rattle.host_tables.specs.declared.attempt.Attempt.{Attempt}
use Rattle.host_tables.specs.declared.attempt.Attempt.TheVariants as answer
use Rattle.host_tables.specs.Serves.{Serves, ByNumber, same}
use Rattle.host_tables.specs.Stands.{Given, Stands}
use Rattle.host_tables.proofs.LookUps.{free_none, free_some}
use Rattle.host_tables.proofs.SlotChanges.{put_kept}
use Rattle.host_descriptors.proofs.HeldTold.{IsThere, row_told, row_bad}

module _ (g : Given) (real : Kernel) (k : PlainKernel) (st : Stands g None real k) (p : VPid) (r : RealPid)
    (paired : map.get g.pids p.0 ≡ Some r) (fd from : ℕ) (low : from ≤ DESCRIPTOR_LIMIT) (cloexec : Bool) (x : List ℕ) where
  abbrev pub the_row : Try Served
  the_row = and_then (held k p fd) (λ h. dup_from k p h from cloexec)

  abbrev pub Says : Kernel → Attempt → Try Served → Type 0
  Says new a m = Serves ByNumber same g real new x x a m

  pub serves_bad : map.get real.book.descriptors (slots.slot r fd) ≡ None
      → Says real (answer.Fails (record { 0 = EBADF })) the_row
  serves_bad none =
      subst (Says real (answer.Fails (record { 0 = EBADF })))
      (sym (row_bad g real k st p r paired fd none (λ h. dup_from k p h from cloexec)))
      (record { answer = refl; kernel = refl; bytes = refl })

  module _ (there : IsThere real r fd) where
    abbrev then_free : Try ℕ → Try Served
    then_free m = and_then m (λ n. replied (with_descriptor k p n
        (record { desc = there.descriptor.desc; cloexec = cloexec })) n)

    to_free : (m : Try ℕ) → free_from k p from ≡ m → the_row ≡ then_free m
    to_free m is =
        row_told g real k st p r paired fd there (λ h. dup_from k p h from cloexec) ∙ ap then_free is

    pub serves_full : AllUsed real.book.descriptors r from
        → Says real (answer.Fails (record { 0 = EMFILE })) the_row
    unfolding and_then
    serves_full used =
        subst (Says real (answer.Fails (record { 0 = EMFILE })))
        (sym (to_free (Fails EMFILE) (free_none g real k st p r paired from low used)))
        (record { answer = refl; kernel = refl; bytes = refl })

    pub serves_placed : (b : Books) (to : ℕ) → IsLowestFree real.book.descriptors r from to
        → b ≡ books.with_descriptor real.book (slots.slot r to) there.descriptor.desc cloexec
        → Says (record real { book = b }) (answer.Gives to) the_row
    unfolding and_then
    serves_placed b to lowest after =
        subst (Says (record real { book = b }) (answer.Gives to))
        (sym (to_free (Gives to) (free_some g real k st p r paired from to low lowest)))
        (record {
          reply = refl;
          bytes = refl;
          stands = subst (λ (w : Books). Stands g None (record real { book = w })
              (with_descriptor k p to (record { desc = there.descriptor.desc; cloexec = cloexec }))) (sym after)
              (put_kept g None real k st p r paired to
              (record { desc = there.descriptor.desc; cloexec = cloexec }));
        })

pub ok_err : {A E : Type 0} (x : A) (e : E) → Ok x ≡ Err e → ⊥
ok_err x e h = cc

pub some_none : {A : Type 0} (o : Option A) → IsSome o → o ≢ None
some_none None h e = true_false (sym h)
some_none (Some x) h e = none-some x (sym e)

pub dup_is : (k : PlainKernel) (p : VPid) (fd : ℕ)
    → dup_row k p fd ≡ and_then (held k p fd) (λ h. dup_from k p h 0 false)
unfolding dup_row
dup_is k p fd = refl

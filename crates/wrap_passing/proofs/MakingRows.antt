-- What the calls that make one description leave of what the pairs are about.
--     Makes k p n served    so many numbers of the process are given out, and all else is kept
--     making_keeps          each of these calls
use Rattle.std.proofs.Common.{◌≡◌, ℕ, ◌-◌, ◌^◌, ◌<◌, Bool, true, false, cond, List, [], Option, Some, None, inl, inr, refl, sym, ap, ◌∙◌, arith}
use Rattle.std.specs.Prelude.{◌==◌, ◌%◌, length}
use Rattle.std.specs.FinMap as map
use Rattle.std.proofs.lemmas.Bool.Decides.{nat_tests}
use Rattle.views.proofs.MapLaws.{true_false, same_or_other, get_insert_other}
use Rattle.sys_abi.specs.declared.identity.VPid.{VPid}
use Rattle.sys_abi.specs.declared.identity.DescId.{DescId}
use Rattle.sys_abi.specs.declared.errors.TheConstants.{EBADF, EINVAL, ENOENT, ENFILE}
use Rattle.sys_abi.specs.declared.flags.TheConstants.{AT_FDCWD, O_CLOEXEC, O_RDWR, O_TRUNC}
use Rattle.sys_abi.specs.Flags.{has_flag}
use Rattle.sys_abi.proofs.OrderLaws.{desc_total, desc_exact}
use Rattle.sys_abi.specs.declared.reply.Reply.TheVariants.{Value}
use Rattle.call_table.specs.declared.request.Request.{Request}
use Rattle.call_table.specs.declared.request.Request.TheVariants.{Eventfd2, Openat}
use Rattle.plain_process.specs.Attempts.{need, refuse_if}
use Rattle.plain_tables.specs.declared.description.Description.{Description}
use Rattle.plain_tables.specs.declared.description.Object.TheVariants.{Counter}
use Rattle.plain_tables.specs.Tables.{changed_at, made_more}
use Rattle.plain_machine.specs.declared.kernel.PlainKernel.{PlainKernel}
use Rattle.plain_machine.specs.Attempts.{Served}
use Rattle.plain_machine.specs.Kernel.{free_from, has_numbers, made_of, numbered, placed, is_live}
use Rattle.plain_machine.specs.Kernels.{IsKernel}
use Rattle.plain_machine.specs.Making.{are_making_flags, end_flags, desc_id}
use Rattle.plain_machine.specs.Rows.Counters.{eventfd2_row}
use Rattle.plain_machine.specs.Rows.Files.{path_of, may_open, with_opened, opened_number, with_open_file, with_file_bytes, open_at, openat_row}
use Rattle.plain_machine.specs.Serve.{row}
use Rattle.plain_machine.specs.Start.{with_file}
use Rattle.plain_machine.proofs.LocalReplies.{needed}
use Rattle.plain_machine.proofs.MadeNumbers.{maker_of, made_is}
use Rattle.plain_machine.proofs.Trying.{Trying, succeeds, after}
use Rattle.host_tables.specs.Systems.{is_named_in}
use Rattle.wrap_passing.specs.Asking.{is_making}
use Rattle.wrap_names.proofs.Keeps.{Keeps}

pub record MakesIn (k : PlainKernel) (p : VPid) (n : ℕ) (k' : PlainKernel) : Type 0 where
  pub tables : Keeps k k'
  pub makers : k'.makers ≡ changed_at k.makers p (made_more n)
  pub room : made_of k p < 2 ^ 32 - 4

pub record Makes (k : PlainKernel) (p : VPid) (n : ℕ) (served : Served) : Type 0 where
  pub kernel : MakesIn k p n served.kernel
  pub value : ℕ
  pub answers : served.reply ≡ Value value

module _ (k : PlainKernel) (p : VPid) (whole : IsKernel k) (alive : is_live k p ≡ true) where
  -- the next number of the process is that of no description
  unmade : (o : Option Description) → map.get k.descriptions (desc_id p (made_of k p)) ≡ o
      → map.get k.descriptions (desc_id p (made_of k p)) ≡ None
  unfolding is_live
  unmade None is = is
  unmade (Some x) is =
      let made = whole.made.opened (desc_id p (made_of k p)) x is in
      let m = maker_of k whole p alive in
      let less = made.below m.0 m.1 alive in
      let same : made_of k p ≡ m.0.made = made_is k whole p alive in
      absurd (omega (arith, less, same))

  named_still : (x : Description) (q : DescId) → is_named_in (map.get k.descriptions q) ≡ true
      → is_named_in (map.get (map.insert k.descriptions (desc_id p (made_of k p)) x) q) ≡ true
  named_still x q h = elim (same_or_other desc_total desc_exact q (desc_id p (made_of k p))) [
    | inl here ↦
        true_false (sym h ∙ ap is_named_in (ap (map.get k.descriptions) here
        ∙ unmade (map.get k.descriptions (desc_id p (made_of k p))) refl))
    | inr differ ↦
        ap is_named_in (get_insert_other desc_total desc_exact k.descriptions (desc_id p (made_of k p)) x q differ) ∙ h
  ]

  module _ (has : has_numbers k p ≡ true) where
    room : made_of k p < 2 ^ 32 - 4
    room = grind (arith, nat_tests, has)

    counter_makes : (fd value : ℕ) (cloexec : Bool) (flags : ℕ)
        → MakesIn k p 1 (placed (numbered k p 1) p fd (desc_id p (made_of k p)) cloexec (Counter value) flags)
    counter_makes fd value cloexec flags = record {
      tables = record {
        numbers = λ v h. h;
        places = λ a h. h;
        names = named_still _;
        channels = refl;
        next = refl;
      };
      makers = refl;
      room = room;
    }

    opened_by : (number : ℕ) (empties : Bool) (name : List ℕ) (fd : ℕ) (flags : ℕ)
        → MakesIn k p 1 (with_open_file (cond empties (with_file_bytes k number []) k) p fd flags number)
    opened_by number true name fd flags = record {
      tables = record {
        numbers = λ v h. h;
        places = λ a h. h;
        names = named_still _;
        channels = refl;
        next = refl;
      };
      makers = refl;
      room = room;
    }
    opened_by number false name fd flags = record {
      tables = record {
        numbers = λ v h. h;
        places = λ a h. h;
        names = named_still _;
        channels = refl;
        next = refl;
      };
      makers = refl;
      room = room;
    }

    opened_makes : (name : List ℕ) (fd flags : ℕ) (file : Option ℕ)
        → MakesIn k p 1 (with_open_file (with_opened k name flags file) p fd flags (opened_number k file))
    unfolding with_file
    opened_makes name fd flags None = record {
      tables = record {
        numbers = λ v h. h;
        places = λ a h. h;
        names = named_still _;
        channels = refl;
        next = refl;
      };
      makers = refl;
      room = room;
    }
    opened_makes name fd flags (Some number) = opened_by number (has_flag flags O_TRUNC) name fd flags

    open_makes : (name : List ℕ) (fd flags : ℕ) (file : Option ℕ)
        → Trying (open_at k p name flags fd file) (Makes k p 1)
    unfolding open_at
    open_makes name fd flags file =
        after (may_open k flags file) (λ done may.
        succeeds _ (record { kernel = opened_makes name fd flags file; value = fd; answers = refl }))

  pub making_keeps : (t : ℕ) (r : Request) (given : List ℕ) → is_making r ≡ true
      → Trying (row k p t r given) (Makes k p 1)
  unfolding row is_making eventfd2_row openat_row
  making_keeps t (Eventfd2 value flags) given making =
      after (need (are_making_flags flags) EINVAL) (λ done may.
      after (need (has_numbers k p) ENFILE) (λ done has.
      after (free_from k p 0) (λ fd free.
      succeeds _ (record {
        kernel = counter_makes (needed (has_numbers k p) ENFILE done has) fd value (has_flag flags O_CLOEXEC) (end_flags O_RDWR flags);
        value = fd;
        answers = refl;
      }))))
  making_keeps t (Openat directory path flags mode) given making =
      after (need (directory == AT_FDCWD) EBADF) (λ here at. after (path_of given) (λ name is_path.
      after (refuse_if (length name == 0) ENOENT) (λ named some.
      after (refuse_if (flags % 4 == 3) EINVAL) (λ sound known.
      after (need (has_numbers k p) ENFILE) (λ done has. after (free_from k p 0) (λ fd free.
      open_makes (needed (has_numbers k p) ENFILE done has) name fd flags (map.get k.names name)))))))
  making_keeps t _ given making = true_false (sym making)

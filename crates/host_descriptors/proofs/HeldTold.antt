-- What a descriptor that is there leads to, on the real side.
--     IsTold g real d x h      a plain descriptor's description is as the real ones tell it
--     told_by                  what the plain look-up gives is so
use Rattle.std.proofs.Common.{◌≡◌, ◌≢◌, ℕ, Option, Some, None, refl, sym, ap, ◌∙◌}
use Rattle.std.specs.Prelude.{option_map}
use Rattle.std.specs.FinMap as map
use Rattle.std.proofs.lemmas.Option.{none-some}
use Rattle.sys_abi.specs.declared.descriptor.Descriptor.{Descriptor}
use Rattle.sys_abi.specs.declared.errors.TheConstants.{EBADF}
use Rattle.sys_abi.specs.declared.identity.DescId.{DescId}
use Rattle.sys_abi.specs.declared.identity.VPid.{VPid}
use Rattle.sys_abi.specs.declared.identity.RealPid.{RealPid}
use Rattle.fd_tables.specs.declared.description.Desc.{Desc}
use Rattle.fd_tables.specs.Slots as slots
use Rattle.fd_book.specs.Books.{IsWhole}
use Rattle.plain_process.specs.Attempts.{Try, Fails, Gives, and_then}
use Rattle.host_tables.specs.OfPlainMachine.declared.kernel.PlainKernel.{PlainKernel}
use Rattle.host_tables.specs.OfPlainMachine.Kernel.{Held, held}
use Rattle.host_tables.specs.declared.kernel.Kernel.{Kernel}
use Rattle.host_tables.specs.Descriptions.{seen_desc}
use Rattle.host_tables.specs.Stands.{Given, Stands}
use Rattle.host_tables.proofs.LookUps.{some_value, held_none, held_some}

-- a descriptor with its description
pub record IsThere (real : Kernel) (r : RealPid) (fd : ℕ) : Type 0 where
  pub descriptor : Descriptor
  pub desc : Desc
  pub at : map.get real.book.descriptors (slots.slot r fd) ≡ Some descriptor
  pub described : map.get real.book.descriptions descriptor.desc ≡ Some desc

pub there_by : (real : Kernel) (r : RealPid) (fd : ℕ) → IsWhole real.book → (o : Option Descriptor)
    → map.get real.book.descriptors (slots.slot r fd) ≡ o → o ≢ None → IsThere real r fd
there_by real r fd whole None is some = absurd (some refl)
there_by real r fd whole (Some d) is some =
    let x = some_value (map.get real.book.descriptions d.desc) (whole.described (slots.slot r fd) d is) in
    record { descriptor = d; desc = x.0; at = is; described = x.1 }

module _ (g : Given) (real : Kernel) (k : PlainKernel) (st : Stands g None real k) (p : VPid) (r : RealPid)
    (paired : map.get g.pids p.0 ≡ Some r) (fd : ℕ) where
  abbrev pub told : IsThere real r fd → Held
  told there = record {
    desc = there.descriptor.desc;
    cloexec = there.descriptor.cloexec;
    description = seen_desc g.virts g.names real.datagrams None there.descriptor.desc there.desc;
  }

  pub held_told : (there : IsThere real r fd) → held k p fd ≡ Gives (told there)
  held_told there = held_some g real k st p r paired fd there.descriptor there.desc there.at there.described

  -- a row that begins with the look-up
  pub row_told : {A : Type 0} (there : IsThere real r fd) (m : Held → Try A)
      → and_then (held k p fd) m ≡ m (told there)
  unfolding and_then
  row_told there m = ap (λ x. and_then x m) (held_told there)

  pub row_bad : {A : Type 0} → map.get real.book.descriptors (slots.slot r fd) ≡ None → (m : Held → Try A)
      → and_then (held k p fd) m ≡ Fails EBADF
  unfolding and_then
  row_bad none m = ap (λ x. and_then x m) (held_none g real k st p r paired fd none)

-- what a look-up told of the slot

pub no_slot : (o : Option Descriptor) → option_map (λ (d : Descriptor). d.desc) o ≡ None → o ≡ None
no_slot None e = refl
no_slot (Some d) e = absurd (none-some d.desc (sym e))

pub some_slot : (o : Option Descriptor) (id : DescId) → option_map (λ (d : Descriptor). d.desc) o ≡ Some id
    → o ≢ None
some_slot o id e none =
    absurd (none-some id (sym (ap (option_map (λ (d : Descriptor). d.desc)) none) ∙ e))

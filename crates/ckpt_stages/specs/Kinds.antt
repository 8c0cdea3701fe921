-- What real descriptors refer to, as far as no image of a checkpoint holds it.
-- Source: `man 2 socketpair`, `man 2 eventfd`: what no image holds is this project's own rule.
--     kind_in b id, kind_at b r fd       its kind, of a description;  of what a descriptor refers to
--     IsFirstFd b r found                the first descriptor of a process whose kind no image holds, or
--                                        there is none
--     IsFirstOf b virts r found          the same with the process's virtual number, where it has one
--     lesser least other                 the one of the lower process
use Rattle.std.specs.Prelude.{◌≡◌, ◌<◌, ℕ, nat_lt, Option, Some, None, option_and_then, if◌then◌else◌}
use Rattle.std.specs.FinMap as map
use Rattle.sys_abi.specs.declared.descriptor.Descriptor.{Descriptor}
use Rattle.sys_abi.specs.declared.identity.DescId.{DescId}
use Rattle.sys_abi.specs.declared.identity.Fd.{Fd}
use Rattle.sys_abi.specs.declared.identity.RealPid.{RealPid}
use Rattle.sys_abi.specs.declared.record.Kind.{Kind}
use Rattle.sys_abi.specs.declared.record.Kind.TheVariants as kinds
use Rattle.fd_tables.specs.declared.description.Desc.{Desc}
use Rattle.fd_tables.specs.declared.description.Object.{Object}
use Rattle.fd_tables.specs.declared.description.Object.TheVariants.{Datagram, Counter}
use Rattle.fd_tables.specs.Slots.{slot}
use Rattle.fd_book.specs.Books.{Books}
use Rattle.leader_vote.specs.Voters.{Virts}
use Rattle.ckpt_stages.specs.Faults.{Found}

abbrev pub unsupported_kind : Object → Option Kind
unsupported_kind (Datagram queue side) = Some kinds.Datagram
unsupported_kind (Counter value) = Some kinds.Counter
unsupported_kind _ = None

abbrev pub kind_in : Books → DescId → Option Kind
kind_in b id = option_and_then (λ (d : Desc). unsupported_kind d.object) (map.get b.descriptions id)

abbrev pub kind_at : Books → RealPid → ℕ → Option Kind
kind_at b r fd = option_and_then (λ (d : Descriptor). kind_in b d.desc) (map.get b.descriptors (slot r fd))

abbrev pub IsFirstFd : Books → RealPid → Option (Fd × Kind) → Type 0
IsFirstFd b r None = (fd : ℕ) → kind_at b r fd ≡ None
IsFirstFd b r (Some found) =
    (kind_at b r found.0.0 ≡ Some found.1) × ((fd : ℕ) → fd < found.0.0 → kind_at b r fd ≡ None)

abbrev pub IsFirstBy : Books → RealPid → Option ℕ → Option Found → Type 0
IsFirstBy b r None None = Unit {0}
IsFirstBy b r None (Some found) = ⊥
IsFirstBy b r (Some v) None = IsFirstFd b r None
IsFirstBy b r (Some v) (Some found) = (found.0.0 ≡ v) × IsFirstFd b r (Some (found.1, found.2))

abbrev pub IsFirstOf : Books → Virts → RealPid → Option Found → Type 0
IsFirstOf b virts r found = IsFirstBy b r (map.get virts r) found

abbrev pub lesser : Option Found → Option Found → Option Found
lesser None other = other
lesser (Some one) None = Some one
lesser (Some one) (Some two) = if nat_lt two.0.0 one.0.0 then Some two else Some one

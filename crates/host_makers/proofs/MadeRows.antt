-- The rows that make one description, test by test.
--     counter_is, socket_is         eventfd2's and socket's, by their tests
--     refused, passed               what they come to where a test refuses, or does not
--     none_given_out, none_free, given       and where there is no number or no descriptor, or both are
use Rattle.std.proofs.Common.{◌≡◌, ℕ, Bool, true, false, refl}
use Rattle.std.specs.Prelude.{◌==◌, ◌&&◌, ◌||◌}
use Rattle.views.specs.Numbers.{Flags}
use Rattle.sys_abi.specs.declared.errors.TheConstants.{EINVAL, ENFILE, EAFNOSUPPORT}
use Rattle.sys_abi.specs.declared.flags.TheConstants.{O_NONBLOCK, O_CLOEXEC}
use Rattle.sys_abi.specs.declared.identity.VPid.{VPid}
use Rattle.sys_abi.specs.Flags.{has_flag}
use Rattle.plain_tables.specs.declared.description.Object.TheVariants.{Socket}
use Rattle.plain_process.specs.Attempts.{Try, Fails, Gives, and_then, need}
use Rattle.plain_machine.specs.declared.kernel.PlainKernel.{PlainKernel}
use Rattle.plain_machine.specs.Addresses.{AF_INET, address_at}
use Rattle.plain_machine.specs.Attempts.{Served, replied}
use Rattle.plain_machine.specs.Kernel.{free_from, has_numbers, host_of, numbered, placed}
use Rattle.plain_machine.specs.Making.{are_making_flags}
use Rattle.plain_machine.specs.Rows.Counters.{with_counter, eventfd2_row}
use Rattle.plain_machine.specs.Rows.Sockets.{socket_row}
use Rattle.plain_machine.specs.SocketWords.{is_stream_type, socket_flags, next_description}

abbrev pub made_at : Bool → Try ℕ → (ℕ → PlainKernel) → Try Served
made_at left free made =
    and_then (need left ENFILE) (λ _. and_then free (λ fd. replied (made fd) fd))

abbrev pub after_test : Bool → ℕ → Try Served → Try Served
after_test valid e m = and_then (need valid e) (λ _. m)

pub refused : (e : ℕ) (m : Try Served) → after_test false e m ≡ Fails e
unfolding and_then need
refused e m = refl

pub passed : (e : ℕ) (m : Try Served) → after_test true e m ≡ m
unfolding and_then need
passed e m = refl

pub none_given_out : (free : Try ℕ) (made : ℕ → PlainKernel) → made_at false free made ≡ Fails ENFILE
unfolding and_then need
none_given_out free made = refl

pub none_free : (e : ℕ) (made : ℕ → PlainKernel) → made_at true (Fails e) made ≡ Fails e
unfolding and_then need
none_free e made = refl

pub given : (fd : ℕ) (made : ℕ → PlainKernel) → made_at true (Gives fd) made ≡ replied (made fd) fd
unfolding and_then need
given fd made = refl

module _ (k : PlainKernel) (p : VPid) where
  module _ (value : ℕ) (flags : Flags) where
    abbrev pub counter : ℕ → PlainKernel
    counter fd = with_counter k p fd value flags

    pub counter_is : (valid left : Bool) (free : Try ℕ) → are_making_flags flags ≡ valid → has_numbers k p
        ≡ left
        → free_from k p 0 ≡ free
        → eventfd2_row k p value flags ≡ after_test valid EINVAL (made_at left free counter)
    unfolding eventfd2_row
    counter_is valid left free is_valid is_left is_free =
        λ i. after_test (is_valid i) EINVAL (made_at (is_left i) (is_free i) counter)

  module _ (domain socket_type protocol : ℕ) where
    abbrev pub socket : ℕ → PlainKernel
    socket fd =
        placed (numbered k p 1) p fd (next_description k p) (has_flag socket_type O_CLOEXEC)
        (Socket (address_at (host_of k p) 0)) (socket_flags (has_flag socket_type O_NONBLOCK))

    abbrev pub is_stream : Bool
    is_stream = is_stream_type socket_type && ((protocol == 0) || (protocol == 6))

    pub socket_is : (family valid left : Bool) (free : Try ℕ) → (domain == AF_INET) ≡ family
        → is_stream ≡ valid
        → has_numbers k p ≡ left → free_from k p 0 ≡ free
        → socket_row k p domain socket_type protocol
        ≡ after_test family EAFNOSUPPORT (after_test valid EINVAL (made_at left free socket))
    unfolding socket_row
    socket_is family valid left free is_family is_valid is_left is_free =
        λ i. after_test (is_family i) EAFNOSUPPORT
        (after_test (is_valid i) EINVAL (made_at (is_left i) (is_free i) socket))

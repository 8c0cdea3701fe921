-- The kernel part of the start of one program has an image
use Rattle.std.proofs.Common.{◌≡◌, ◌≢◌, ℕ, ◌<◌, ◌==◌, true, IsTrue, [], ◌∷◌, refl, ap, ◌∙◌, arith, lit<}
use Rattle.std.specs.Prelude.{nat_lt}
use Rattle.std.specs.FinMap as map
use Rattle.std.proofs.lemmas.Bool.Decides.{nat_tests}
use Rattle.views.proofs.MapLaws.{insert_apart}
use Rattle.sys_abi.specs.declared.identity.Slot.{Slot}
use Rattle.sys_abi.specs.Orders.{slot_cmp}
use Rattle.sys_abi.proofs.OrderLaws.{slot_total, slot_exact}
use Rattle.sys_abi.specs.declared.descriptor.Descriptor.{Descriptor}
use Rattle.plain_tables.specs.Tables.{pid, slot}
use Rattle.plain_process.specs.Start.{Launched}
use Rattle.plain_machine.specs.Start.{FIRST_PID, console_descriptor, start_kernel, with_processes, with_process, with_files, empty_kernel}
use Rattle.shared_items.specs.SharedFits.{IsShared}
use Rattle.shared_items.specs.WholeShared.{is_whole_shared}
use Rattle.image_format.specs.Texts.{EachFrom}
use Rattle.image_codec.specs.KernelParts.{kernel_of}
use Rattle.image_codec.specs.StartImages.{start_image, StartHasImage}

is_small : (host : ℕ) → host < 16 → IsTrue (nat_lt host 16)
is_small host h = grind (arith, nat_tests)

start_fits : (host : ℕ) → host < 16 → IsShared (start_image host)
unfolding start_image EachFrom is_whole_shared
start_fits host h = record {
  fields = record {
    next_id = (lit< tt, refl);
    next_file = (lit< tt, refl);
    file_count = (lit< tt, refl);
    files = tt;
    channel_count = (lit< tt, refl);
    channels = tt;
    description_count = (lit< tt, refl);
    descriptions = (record { maker = (lit< tt, refl); number = (lit< tt, refl); kind = (lit< tt, refl); flags = (lit< tt, refl); owner = (lit< tt, refl); what = tt }, tt);
    process_count = (lit< tt, refl);
    processes = (
      record {
        number = (lit< tt, refl);
        parent = (lit< tt, refl);
        host = (omega arith, is_small host h);
        made = (lit< tt, refl);
        life = record { state = (lit< tt, refl); status = (lit< tt, refl) };
        pending = (lit< tt, refl);
        thread_count = (lit< tt, refl);
        threads = (record { number = (lit< tt, refl); pending = (lit< tt, refl) }, tt);
        descriptor_count = (lit< tt, refl);
        descriptors = (record { number = (lit< tt, refl); maker = (lit< tt, refl); described = (lit< tt, refl) }, (record { number = (lit< tt, refl); maker = (lit< tt, refl); described = (lit< tt, refl) }, (record { number = (lit< tt, refl); maker = (lit< tt, refl); described = (lit< tt, refl) }, tt)));
      },
      tt,
    );
  };
  whole = rw (same host) refl;
}
  where
    same : (n : ℕ) → (n == n) ≡ true
    same n = grind (arith, nat_tests)

other_slot : (a b : ℕ) → a ≢ b → slot (pid FIRST_PID) a ≢ slot (pid FIRST_PID) b
other_slot a b differ same = differ (ap (λ (s : Slot). s.fd) same)

abbrev three : ℕ → ℕ → ℕ → map.FinMap slot_cmp Descriptor
three a b c =
    let d = console_descriptor FIRST_PID in
    map.insert (map.insert (map.insert map.empty (slot (pid FIRST_PID) a) d) (slot (pid FIRST_PID) b) d) (slot (pid FIRST_PID) c) d

-- 0, 1 and 2 put in from the last one on, and from the first one on
in_order : three 2 1 0 ≡ three 0 1 2
in_order =
    let d = console_descriptor FIRST_PID in
    ap (λ (m : map.FinMap slot_cmp Descriptor). map.insert m (slot (pid FIRST_PID) 0) d) (insert_apart slot_total slot_exact map.empty (slot (pid FIRST_PID) 2) (slot (pid FIRST_PID) 1) d d (other_slot 2 1 (λ e. absurd (omega arith))))
    ∙ insert_apart slot_total slot_exact (map.insert map.empty (slot (pid FIRST_PID) 1) d) (slot (pid FIRST_PID) 2) (slot (pid FIRST_PID) 0) d d (other_slot 2 0 (λ e. absurd (omega arith)))
    ∙ ap (λ (m : map.FinMap slot_cmp Descriptor). map.insert m (slot (pid FIRST_PID) 2) d) (insert_apart slot_total slot_exact map.empty (slot (pid FIRST_PID) 1) (slot (pid FIRST_PID) 0) d d (other_slot 1 0 (λ e. absurd (omega arith))))

start_kernel_of : (job : Launched) → kernel_of (start_image job.host) ≡ start_kernel (job ∷ []) []
unfolding kernel_of start_image start_kernel with_processes with_process with_files empty_kernel
start_kernel_of job =
    let descriptors = in_order in
    λ i. record (start_kernel (job ∷ []) []) { descriptors = descriptors i }

pub start_has_image : StartHasImage
start_has_image job h = record { spelled = start_fits job.host h; kernel = start_kernel_of job }

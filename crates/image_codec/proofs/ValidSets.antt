-- What a set of bytes spells is a valid state, all of whose bytes have arrived and all of whose objects have an image.
use Rattle.std.proofs.Common.{◌≡◌, ℕ, ◌+◌, List, [], ◌∷◌, length, map as each, refl, sym, ap, subst, ◌∙◌, ⊎_elim}
use Rattle.std.specs.Prelude.{All, Some, None}
use Rattle.std.specs.List.{AllByRecursion}
use Rattle.std.specs.FinMap as map
use Rattle.std.proofs.lemmas.List.Elements.{All-head, All-tail}
use Rattle.sys_abi.specs.declared.identity.VPid.{VPid}
use Rattle.sys_abi.specs.declared.identity.DescId.{DescId}
use Rattle.sys_abi.specs.declared.identity.Dir.{Dir}
use Rattle.sys_abi.specs.Orders.{vpid_cmp}
use Rattle.sys_abi.proofs.OrderLaws.{vpid_total, vpid_exact}
use Rattle.plain_process.specs.declared.user_part.UserPart.{UserPart}
use Rattle.plain_process.specs.Valid.{IsByte, IsUser}
use Rattle.plain_tables.specs.declared.description.Description.{Description}
use Rattle.plain_tables.specs.declared.channel.Direction.{Direction}
use Rattle.plain_machine.specs.declared.plain.Plain.{Plain}
use Rattle.plain_machine.specs.Tests.{unsupported_kind}
use Rattle.shared_items.specs.declared.shared.ObjectImage.{ObjectImage}
use Rattle.shared_items.specs.declared.shared.ObjectImage.TheVariants.{Console, File, Stream, Socket, Listener}
use Rattle.shared_items.specs.declared.shared.Shared.{Shared}
use Rattle.shared_items.specs.SharedFits.{IsShared}
use Rattle.shared_items.proofs.SharedLaws.{text_of}
use Rattle.image_process.specs.declared.process_image.ProcImage.{ProcImage}
use Rattle.image_process.specs.ProcessImages.{pid_at, tids_at}
use Rattle.image_process.proofs.RebuiltUsers.{rebuilt_user}
use Rattle.image_codec.specs.KernelParts.{kernel_of, object_of, direction_entry}
use Rattle.image_codec.specs.KernelImages.{IsSupported, HasArrived}
use Rattle.image_codec.specs.LiveImages.{AreParts}
use Rattle.image_codec.specs.Sets.{SpellsFiles, SpellsImages, IsStateOf, MayBeSet, SetIsValid, live_count, user_entry}
use Rattle.image_codec.proofs.Items.{first_or_later, nothing_in}
use Rattle.image_codec.proofs.DistinctItems.{each_found}
use Rattle.image_codec.proofs.ImageKernels.{image_is_kernel}
use Rattle.image_codec.proofs.KernelItems.{description_item, direction_item}
use Rattle.image_codec.proofs.LiveParts.{image_at, images_are_parts}

-- no image is of a datagram end or an event counter
all_supported : (o : ObjectImage) → unsupported_kind (object_of o) ≡ None
all_supported Console = refl
all_supported (File number offset) = refl
all_supported (Stream conn side) = refl
all_supported (Socket address) = refl
all_supported (Listener address backlog pending) = refl

pub image_supported : (s : Shared) → IsSupported (kernel_of s)
image_supported s d x found =
    let (it, at, entry) = description_item s d x found in
    ap (λ (e : DescId × Description). unsupported_kind e.1.object) (sym entry) ∙ all_supported it.object

pub image_arrived : (s : Shared) → HasArrived (kernel_of s)
image_arrived s at direction found =
    let (c, there, entry) = direction_item s at direction found in
    ⊎_elim
    (λ first. arrived first refl)
    (λ rest. ⊎_elim (λ second. arrived second refl) (λ none. absurd (nothing_in (at, direction) none)) (first_or_later (direction_entry c.id 1 c.second) (at, direction) [] rest))
    (first_or_later (direction_entry c.id 0 c.first) (at, direction) (direction_entry c.id 1 c.second ∷ []) entry)
  where
    arrived : {e : Dir × Direction} → e ≡ (at, direction) → e.1.arrived ≡ length e.1.left → direction.arrived ≡ length direction.left
    arrived same is = ap (λ (d : Dir × Direction). d.1.arrived) (sym same) ∙ is ∙ ap (λ (d : Dir × Direction). length d.1.left) same

all_texts : (texts : List (List ℕ)) → All (All IsByte) texts → AllByRecursion (All IsByte) texts
all_texts [] are = tt
all_texts (text ∷ texts) are = (All-head (All IsByte) text texts are, all_texts texts (All-tail (All IsByte) text texts are))

module _ (s : Shared) (is : IsShared s) (texts : List (List ℕ)) (images : List ProcImage) (bytes : All (All IsByte) texts)
    (count : length texts ≡ live_count s) (spelled : SpellsImages s 2 texts images) where
  abbrev made : Plain
  made = record { kernel = kernel_of s; users = map.from_entries (each user_entry images) }

  parts : AreParts s (map.from_entries (each user_entry images))
  parts = images_are_parts s texts images is count spelled

  part_is_valid : (p : VPid) (user : UserPart) → map.get (map.from_entries {R = vpid_cmp} (each user_entry images)) p ≡ Some user → IsUser user
  part_is_valid p user found =
      let (image, there, entry) = each_found vpid_total vpid_exact user_entry images p user found in
      let (j, text, spells, are) = image_at (All IsByte) s 2 0 texts images image refl spelled there (all_texts texts bytes) in
      subst IsUser (ap (λ (d : VPid × UserPart). d.1) entry) (rebuilt_user (pid_at s (j + 2)) (tids_at s (j + 2)) text image spells are)

  may_be_set : MayBeSet made
  may_be_set = record {
    valid = record { kernel = image_is_kernel s is; users = part_is_valid; alive = parts.alive; threads = parts.threads };
    supported = image_supported s;
    arrived = image_arrived s;
  }

of_parts : (s : Shared) (images : List ProcImage) (state : Plain) → IsStateOf s images state
    → MayBeSet (record { kernel = kernel_of s; users = map.from_entries (each user_entry images) }) → MayBeSet state
of_parts s images state stands is = subst MayBeSet (λ i. record { kernel = sym stands.kernel i; users = sym stands.users i }) is

pub set_is_valid : SetIsValid
unfolding SpellsFiles
set_is_valid [] s images state bytes spelled stands = absurd spelled
set_is_valid (first ∷ texts) s images state bytes spelled stands =
    of_parts s images state stands
    (may_be_set s (text_of first s spelled.0).keeps texts images (All-tail (All IsByte) first texts bytes) spelled.1 spelled.2)

-- What is made of the entries of a kernel part stands for that kernel part, map by map.
use Rattle.std.proofs.Common.{◌≡◌, false, refl, ◌∙◌}
use Rattle.std.specs.Prelude.{Option, Some, None, is_some}
use Rattle.std.specs.FinMap as map
use Rattle.views.proofs.MapLaws.{true_false}
use Rattle.sys_abi.specs.declared.identity.DescId.{DescId}
use Rattle.sys_abi.specs.Orders.{desc_cmp}
use Rattle.sys_abi.proofs.OrderLaws.{desc_total, desc_exact}
use Rattle.plain_machine.specs.declared.kernel.PlainKernel.{PlainKernel}
use Rattle.plain_machine.specs.Kernels.{IsKernel}
use Rattle.plain_machine.specs.Tests.{unsupported_kind}
use Rattle.plain_tables.specs.declared.description.Object.{Object}
use Rattle.plain_tables.specs.declared.description.Object.TheVariants as object
use Rattle.plain_tables.specs.declared.description.Description.{Description}
use Rattle.plain_tables.specs.Objects.{is_datagram}
use Rattle.plain_tables.specs.Valid.Datagrams.{is_datagram_in}
use Rattle.image_codec.specs.KernelParts.{kernel_of}
use Rattle.image_codec.specs.KernelImages.{shared_of, IsSupported, KernelComesBack}
use Rattle.image_codec.proofs.ProcessesBack.{processes_back, makers_back, descriptors_back}
use Rattle.image_codec.proofs.FilesBack.{files_back, names_back}
use Rattle.image_codec.proofs.DescriptionsBack.{descriptions_back, listeners_back}
use Rattle.image_codec.proofs.ChannelsBack.{channels_back, directions_back}

-- no datagram end, so no inbox
no_datagram : (o : Object) → unsupported_kind o ≡ None → is_datagram o ≡ false
no_datagram object.Console supported = refl
no_datagram (object.File number offset) supported = refl
no_datagram (object.Stream conn side) supported = refl
no_datagram (object.Socket address) supported = refl
no_datagram (object.Listener address) supported = refl
no_datagram (object.Datagram peer) supported = cc
no_datagram (object.Counter value) supported = refl

none_there : {X : Type 0} (found : Option X) → is_some found ≡ false → None ≡ found
none_there None none = refl
none_there (Some x) none = true_false none

module _ (k : PlainKernel) (is : IsKernel k) (supported : IsSupported k) where
  no_inbox : (d : DescId) (found : Option Description) → map.get k.descriptions d ≡ found → is_datagram_in found ≡ false
  no_inbox d None known = refl
  no_inbox d (Some description) known = no_datagram description.object (supported d description known)

  pub inboxes_back : map.empty ≡ k.inboxes
  inboxes_back = map.same_map desc_total desc_exact map.empty k.inboxes (λ d.
      map.get-empty desc_cmp d ∙ none_there (map.get k.inboxes d) (is.inboxes.same d ∙ no_inbox d (map.get k.descriptions d) refl))

pub kernel_comes_back : KernelComesBack
unfolding kernel_of shared_of
kernel_comes_back k is supported arrived =
    let processes = processes_back k is in
    let makers = makers_back k is in
    let descriptors = descriptors_back k is in
    let descriptions = descriptions_back k is supported in
    let names = names_back k is in
    let files = files_back k is in
    let channels = channels_back k is in
    let directions = directions_back k is arrived in
    let listeners = listeners_back k is in
    let inboxes = inboxes_back k is supported in
    λ i. record {
      processes = processes i;
      makers = makers i;
      descriptors = descriptors i;
      descriptions = descriptions i;
      names = names i;
      files = files i;
      next_file = k.next_file;
      channels = channels i;
      directions = directions i;
      listeners = listeners i;
      inboxes = inboxes i;
      next_id = k.next_id;
    }

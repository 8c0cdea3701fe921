-- A kernel part that was filled from the empty one stands for the image from which it was filled
use Rattle.std.proofs.Common.{◌≡◌, ap, ◌∙◌}
use Rattle.plain_machine.specs.declared.kernel.PlainKernel.{PlainKernel}
use Rattle.plain_machine.specs.Start.{empty_kernel}
use Rattle.shared_items.specs.declared.shared.Shared.{Shared}
use Rattle.image_codec.specs.KernelParts.{kernel_of}

pub filled : (s : Shared) (empty new : PlainKernel) → empty ≡ empty_kernel → new ≡ record (kernel_of s) { inboxes = empty.inboxes } → new ≡ kernel_of s
unfolding kernel_of empty_kernel
filled s empty new is made = made ∙ ap (λ (k : PlainKernel). record (kernel_of s) { inboxes = k.inboxes }) is

-- Of which host those are that hold a description, as a pass over the processes finds it.
--     holders_of processes id      nothing where nobody holds it
--     verdict channels processes description found      whether it is rightly held, by what was found
use Rattle.std.specs.Prelude.{◌≡◌, ◌==◌, ◌&&◌, ℕ, Bool, false, List, fold, Option, Some, None, if◌then◌else◌}
use Rattle.std.specs.FinMap as map
use Rattle.sys_abi.specs.declared.identity.DescId.{DescId}
use Rattle.sys_abi.specs.Orders.{desc_cmp}
use Rattle.shared_items.specs.declared.shared.ChannelImage.{ChannelImage}
use Rattle.shared_items.specs.declared.shared.DescriptionImage.{DescriptionImage}
use Rattle.shared_items.specs.declared.shared.DescriptorEntry.{DescriptorEntry}
use Rattle.shared_items.specs.declared.shared.ProcessEntry.{ProcessEntry}
use Rattle.shared_items.specs.WholeShared.{names_description, is_owner, is_object_of_host}
use Rattle.shared_reader.specs.declared.holders.Holders.{Holders}
use Rattle.shared_reader.specs.declared.holders.Holders.TheVariants.{OfHost, Apart}

-- with one more holder, of this host
abbrev pub with_holder : Option Holders → ℕ → Option Holders
with_holder None host = Some (OfHost host)
with_holder (Some (OfHost other)) host = if other == host then Some (OfHost other) else Some Apart
with_holder (Some Apart) host = Some Apart

abbrev pub after_descriptor : DescId → ℕ → Option Holders → DescriptorEntry → Option Holders
after_descriptor id host found descriptor =
    if names_description id descriptor then with_holder found host else found

abbrev pub after_process : DescId → Option Holders → ProcessEntry → Option Holders
after_process id found process = fold (after_descriptor id process.host) found process.descriptors

abbrev pub holders_of : List ProcessEntry → DescId → Option Holders
holders_of processes id = fold (after_process id) None processes

-- a map that tells it of each description
abbrev pub KnowsHolders : map.FinMap desc_cmp Holders → List ProcessEntry → Type 0
KnowsHolders holders processes = (id : DescId) → map.get holders id ≡ holders_of processes id

-- what is asked of a description whose holders are all of one host, and what the holders of one tell
abbrev pub may_be_of : List ChannelImage → List ProcessEntry → DescriptionImage → ℕ → Bool
may_be_of channels processes description host =
    is_owner processes host description.owner && is_object_of_host channels host description.object

abbrev pub verdict : List ChannelImage → List ProcessEntry → DescriptionImage → Option Holders → Bool
verdict channels processes description None = false
verdict channels processes description (Some Apart) = false
verdict channels processes description (Some (OfHost host)) = may_be_of channels processes description host

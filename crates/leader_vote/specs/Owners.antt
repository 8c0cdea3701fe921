-- The owners of open descriptions, kept beside a book.
-- Source: `man 2 fcntl` (F_SETOWN); DMTCP elects leaders by F_SETOWN and puts the owners back.
--     kept_owner owners id      the owner that is kept for a description, if one is
--     KeepsOwners b owners      they are kept for exactly the descriptions of the book
--     with_owners owners b      the book with these owners
use Rattle.std.specs.Prelude.{◌≡◌, Option, option_map, option_and_then}
use Rattle.std.specs.FinMap as map
use Rattle.std.specs.FinMap.{FinMap}
use Rattle.sys_abi.specs.declared.identity.DescId.{DescId}
use Rattle.sys_abi.specs.declared.identity.RealPid.{RealPid}
use Rattle.sys_abi.specs.Orders.{desc_cmp}
use Rattle.fd_tables.specs.declared.description.Desc.{Desc}
use Rattle.fd_tables.specs.Parts.{with_owner}
use Rattle.fd_book.specs.Books.{Books}
use Rattle.leader_vote.specs.Elections.{map_entries}

abbrev pub Owners : Type 0
Owners = FinMap desc_cmp (Option RealPid)

abbrev pub kept_owner : Owners → DescId → Option RealPid
kept_owner owners id = option_and_then (λ owner. owner) (map.get owners id)

abbrev pub KeepsOwners : Books → Owners → Type 0
KeepsOwners b owners = (id : DescId) → map.get owners id ≡ option_map (λ (d : Desc). d.owner) (map.get
    b.descriptions id)

abbrev pub owned_as_kept : Owners → DescId → Desc → Desc
owned_as_kept owners id d = with_owner (kept_owner owners id) d

unfoldable pub with_owners : Owners → Books → Books
with_owners owners b = record b { descriptions = map_entries (owned_as_kept owners) b.descriptions }

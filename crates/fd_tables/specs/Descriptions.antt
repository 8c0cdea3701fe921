-- How the open descriptions are kept: in a slab, with an index from their names to the slab's keys.
--     kept_at slab key          the description under a key of the slab, where it has one
--     descriptions_of index slab     each description under its name
--     IsIndex index slab        each key of the index has a description, and no two names have one key
use Rattle.std.specs.Prelude.{◌≡◌, ℕ, Some, None, unwrap_or}
use Rattle.std.specs.FinMap as map
use Rattle.std.specs.FinMap.{FinMap}
use Rattle.slab.specs.Slab.{Slab, get, ContainsKey}
use Rattle.sys_abi.specs.declared.identity.DescId.{DescId}
use Rattle.sys_abi.specs.Orders.{desc_cmp}
use Rattle.sys_abi.specs.OfViews.Maps.{map_values}
use Rattle.fd_tables.specs.declared.description.Object.TheVariants.{Console}
use Rattle.fd_tables.specs.declared.open.Open.{Open}

-- what stands for a description under a key that has none; no index names one
abbrev pub nothing_kept : Open
nothing_kept = record { desc = record { object = Console; flags = 0; owner = None }; holders = 0 }

abbrev pub kept_at : Slab Open → ℕ → Open
kept_at slab key = unwrap_or (get slab key) nothing_kept

unfoldable pub descriptions_of : FinMap desc_cmp ℕ → Slab Open → FinMap desc_cmp Open
descriptions_of index slab = map_values (kept_at slab) index

pub record IsIndex (index : FinMap desc_cmp ℕ) (slab : Slab Open) : Type 0 where
  pub there : (id : DescId) (key : ℕ) → map.get index id ≡ Some key → ContainsKey slab key
  pub apart : (i j : DescId) (key : ℕ) → map.get index i ≡ Some key → map.get index j ≡ Some key → i ≡ j

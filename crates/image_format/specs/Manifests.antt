-- The manifest of a set: a gate of one byte, 7 bytes `DMTSET1`, the generation in 64 bits, how many further
-- files the set has in 32 bits (1 to 129), and the length of each in 64 bits. Nothing follows. The set is
-- complete where the gate is 1, and only then it has a manifest.
--     SpellsManifest text m      the bytes are the file of this manifest
--     DamagedManifest text n      the bytes are the file of no manifest, and n is the place where they break the format
-- Source: docs/FORMATS.md, "Manifest".
use Rattle.std.specs.Prelude.{ℕ, ◌==◌, Bool, List, codes}
use Rattle.views.specs.Numbers.{Byte}
use Rattle.image_format.specs.declared.manifest.Manifest.{Manifest}
use Rattle.image_format.specs.Fields.{is_bytes, is_within}
use Rattle.image_format.specs.Format.{FormatOf, unsigned, raw, give, ◌>>=◌, counted, any, n8, n64, SpellsFile}
use Rattle.image_format.specs.Format.{Damaged}

abbrev pub COMPLETE : ℕ
COMPLETE = 1

abbrev pub MANIFEST_MAGIC : List Byte
MANIFEST_MAGIC = codes "DMTSET1"

abbrev pub is_gate : ℕ → Bool
is_gate gate = gate == COMPLETE

abbrev pub is_image_count : ℕ → Bool
is_image_count count = is_within 1 129 count

unfoldable pub length_format : FormatOf ℕ
length_format = unsigned n64 any

unfoldable pub manifest_format : FormatOf Manifest
manifest_format = do
  gate ← unsigned n8 is_gate
  magic ← raw 7 (is_bytes MANIFEST_MAGIC)
  generation ← unsigned n64 any
  lengths ← counted is_image_count (λ _. length_format)
  give (record { generation = generation; lengths = lengths })

abbrev pub SpellsManifest : List Byte → Manifest → Type 0
SpellsManifest = SpellsFile manifest_format any

abbrev pub DamagedManifest : List Byte → ℕ → Type 0
DamagedManifest = Damaged manifest_format any

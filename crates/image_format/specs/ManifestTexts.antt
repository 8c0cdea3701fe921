-- The manifest in the writer's words: which values have a file, and the bytes of it. That these say what the
-- format says is proved (`proofs/ManifestLaws.antt`).
--     IsManifest m      the manifest has a file
--     IsManifestText text m      the bytes are its file
use Rattle.std.specs.Prelude.{◌≡◌, ℕ, ◌^◌, ◌<◌, IsTrue, List, ◌++◌, length, All}
use Rattle.std.specs.List.{flat_map}
use Rattle.image_format.specs.declared.manifest.Manifest.{Manifest}
use Rattle.image_format.specs.Format.{number_text, n8, n32, n64}
use Rattle.image_format.specs.Manifests.{COMPLETE, MANIFEST_MAGIC, is_image_count}

pub record IsManifest (m : Manifest) : Type 0 where
  pub count : IsTrue (is_image_count (length m.lengths))

unfoldable pub manifest_text : Manifest → List ℕ
manifest_text m =
    number_text n8 COMPLETE ++ MANIFEST_MAGIC ++ number_text n64 m.generation
    ++ number_text n32 (length m.lengths) ++ flat_map (number_text n64) m.lengths

pub record IsManifestText (text : List ℕ) (m : Manifest) : Type 0 where
  pub keeps : IsManifest m
  pub generation : m.generation < 2 ^ 64
  pub lengths : All (λ size. size < 2 ^ 64) m.lengths
  pub text_is : text ≡ manifest_text m

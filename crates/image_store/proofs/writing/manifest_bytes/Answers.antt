use Rattle.std.proofs.Common.{◌≡◌, ◌<◌, ◌≤◌, ℕ, ◌∙◌, ap, length, arith}
use Rattle.std.specs.Prelude.{map, IsTrue}
use Rattle.std.proofs.lemmas.List.{take_all, length-map}
use Rattle.std.proofs.lemmas.Bool.Decides.{nat_tests}
use Rattle.image_format.specs.Manifests.{is_image_count}
use Rattle.image_store.proofs.writing.manifest_bytes.Goals as goal

counted : (n m : ℕ) → n ≡ m → 0 < m → m ≤ 129 → IsTrue (is_image_count n)
counted n m is some few = grind (arith, nat_tests)

pub write_manifest-requires : goal.write_manifest-requires
write_manifest-requires c =
    let images = c.args.images.now in
    let lengths : c.from_vec-lengths.result ≡ map length images = c.from_vec-lengths.ensures ∙ c.loop-image.invariant ∙ ap (map length) (take_all c.loop-image.image-index images c.loop-image-test.false) in
    let size : length c.from_vec-lengths.result ≡ length images = ap length lengths ∙ length-map images length in
    record { count = counted (length c.from_vec-lengths.result) (length images) size c.requires.some c.requires.few }

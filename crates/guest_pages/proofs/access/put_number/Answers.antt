use Rattle.std.proofs.Common.{◌%◌, ◌<◌, ℕ, suc, List, [], ◌∷◌, length, take, drop, append_assoc, sym, ap, ◌∙◌, arith, add-one}
use Rattle.std.proofs.lemmas.List.{set_split}
use Rattle.plain_process.specs.Memory.{low_bytes}
use Rattle.plain_process.specs.declared.memory.Frame.{Frame}
use Rattle.guest_pages.specs.Bytes.{with_piece}
use Rattle.guest_pages.proofs.access.put_number.Goals as goal

pub returns-in-1-clause-put : goal.returns-in-1-clause-put
returns-in-1-clause-put c =
    let frame = c.args.frame.now in
    let within : c.args.offset < length frame.page = omega (arith, c.as_slice.ensures.size) in
    let put = c.set_byte.ensures ∙ set_split frame.page c.args.offset (c.args.value % 256) within in
    let one = ap (λ size. with_piece frame c.args.offset (low_bytes size c.args.value)) c.in-1.is in
    rw (one, add-one) (ap (λ (page : List ℕ). let now : Frame = record { rights = frame.rights; page = page } in now) (put ∙ sym (append_assoc (take c.args.offset frame.page) (c.args.value % 256 ∷ []) (drop (suc c.args.offset) frame.page))))

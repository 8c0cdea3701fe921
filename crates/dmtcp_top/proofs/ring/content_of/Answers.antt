use Rattle.std.proofs.Common.{◌≡◌, None, Some, sym, ap, ◌∙◌}
use Rattle.std.specs.FinMap as map
use Rattle.dmtcp_top.proofs.FoundFiles.{none_unnamed, nothing_found, bytes_found}
use Rattle.dmtcp_top.proofs.ring.content_of.Goals as goal
use Rattle.dmtcp_top.proofs.ring.content_of.Goals.{In-Some}

-- the number of the name
number_at : (c : In-Some) → map.get c.system.result.now.kernel.files.names c.args.name.now ≡ Some c.in-Some.number.now
number_at c =
    ap (λ m. map.get m c.args.name.now) (sym (c.in_ok-names.ensures (none_unnamed c.system.result.now c.args.kernel.now c.system.ensures))) ∙ sym c.in-Some.ensures

pub returns-in_default : goal.returns-in_default
returns-in_default c =
    let names = c.in_ok-names.ensures (none_unnamed c.system.result.now c.args.kernel.now c.system.ensures) in
    c.new.ensures ∙ nothing_found c.system.result.now c.args.kernel.now c.system.ensures c.args.name.now
    (ap (λ m. map.get m c.args.name.now) (sym names) ∙ sym c.in_default.ensures)

pub returns-in-Some-bytes : goal.returns-in-Some-bytes
returns-in-Some-bytes c =
    c.from_vec.ensures ∙ c.in_ok-from_slice-in-Some-bytes.ensures.items
    ∙ bytes_found c.system.result.now c.args.kernel.now c.system.ensures c.args.name.now c.in-Some.number.now (Some c.in-Some-bytes.bytes.now)
    (number_at (goal.at.returns-in-Some-bytes c).In-Some) (sym c.in-Some-bytes.ensures)

pub returns : goal.returns
returns c =
    c.new-in-None.ensures
    ∙ bytes_found c.system.result.now c.args.kernel.now c.system.ensures c.args.name.now c.in-Some.number.now None
    (number_at (goal.at.returns c).In-Some) (sym c.in-None.ensures)

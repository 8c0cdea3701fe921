use Rattle.std.proofs.Common.{◌≡◌, ◌+◌, length, map, sym, ap, subst, ◌∙◌, arith}
use Rattle.asm_lines.specs.Lines.{statements_of}
use Rattle.rv_asm.specs.Labels.{lines_in, label_seen, IsBody}
use Rattle.rv_asm.specs.Layout.{BASE, labels_of, label_in}
use Rattle.rv_asm.specs.Files.{entry_by}
use Rattle.rv_asm.specs.Pieces.{START}
use Rattle.rv_asm.proofs.Whole.{made, accepted, near_entry}
use Rattle.rv_asm.proofs.assembler.assemble.Goals as goal

pub entry_of-requires : goal.entry_of-requires
entry_of-requires c =
    let lines : lines_in c.as_slice.result.now ≡ statements_of c.args.text.now = ap lines_in c.as_slice.ensures.value ∙ c.in_ok-lines.ensures in
    let same : lines_in c.as_slice-2.result.now ≡ statements_of c.args.text.now = ap lines_in c.as_slice-2.ensures.value ∙ c.in_ok-lines.ensures in
    let body : IsBody (statements_of c.args.text.now) c.in_ok-body.body.items = subst (λ ls. IsBody ls c.in_ok-body.body.items) same c.in_ok-body.ensures.body in
    near_entry (statements_of c.args.text.now) c.in_ok-body.body.items (map label_seen c.in_ok-layout.layout.labels.items) body
    (c.in_ok-layout.ensures.labels ∙ ap labels_of lines)

pub returns-clause-file : goal.returns-clause-file
returns-clause-file c =
    let lines : lines_in c.as_slice.result.now ≡ statements_of c.args.text.now = ap lines_in c.as_slice.ensures.value ∙ c.in_ok-lines.ensures in
    let same : lines_in c.as_slice-2.result.now ≡ statements_of c.args.text.now = ap lines_in c.as_slice-2.ensures.value ∙ c.in_ok-lines.ensures in
    let body : IsBody (statements_of c.args.text.now) c.in_ok-body.body.items = subst (λ ls. IsBody ls c.in_ok-body.body.items) same c.in_ok-body.ensures.body in
    let again : IsBody (statements_of c.args.text.now) c.as_slice-3.result.now = subst (λ bs. IsBody (statements_of c.args.text.now) bs) (sym c.as_slice-3.ensures.value) body in
    let size : 84 + c.len.result ≡ 84 + length c.as_slice-3.result.now = omega (arith, c.len.ensures, c.as_slice-3.ensures.len) in
    made (statements_of c.args.text.now) c.as_slice-3.result.now c.in_ok-file.file.items c.entry_of.result (84 + c.len.result) again
    (c.entry_of.ensures ∙ ap (λ ls. BASE + entry_by (label_in ls START)) (c.in_ok-layout.ensures.labels ∙ ap labels_of lines)) size c.in_ok-file.ensures

pub returns-clause-accepted : goal.returns-clause-accepted
returns-clause-accepted c =
    let lines : lines_in c.as_slice.result.now ≡ statements_of c.args.text.now = ap lines_in c.as_slice.ensures.value ∙ c.in_ok-lines.ensures in
    let same : lines_in c.as_slice-2.result.now ≡ statements_of c.args.text.now = ap lines_in c.as_slice-2.ensures.value ∙ c.in_ok-lines.ensures in
    let body : IsBody (statements_of c.args.text.now) c.in_ok-body.body.items = subst (λ ls. IsBody ls c.in_ok-body.body.items) same c.in_ok-body.ensures.body in
    let again : IsBody (statements_of c.args.text.now) c.as_slice-3.result.now = subst (λ bs. IsBody (statements_of c.args.text.now) bs) (sym c.as_slice-3.ensures.value) body in
    let size : 84 + c.len.result ≡ 84 + length c.as_slice-3.result.now = omega (arith, c.len.ensures, c.as_slice-3.ensures.len) in
    accepted (statements_of c.args.text.now) c.as_slice-3.result.now c.in_ok-file.file.items c.entry_of.result (84 + c.len.result) again
    (c.entry_of.ensures ∙ ap (λ ls. BASE + entry_by (label_in ls START)) (c.in_ok-layout.ensures.labels ∙ ap labels_of lines)) size c.in_ok-file.ensures

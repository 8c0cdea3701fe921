use Rattle.std.proofs.Common.{◌≡◌, ◌∷◌, ℕ, List, sym, ap, subst, ◌∙◌}
use Rattle.sys_abi.specs.Names.{by_name}
use Rattle.vfs_files.specs.Names.{IsNameOf}
use Rattle.rebuild_tables.proofs.FileNames.{IsSought, sought, found, passed, not_found}
use Rattle.rebuild_tables.proofs.files.name_of.Goals as goal

pub loop-name-init : goal.loop-name-init
loop-name-init c =
    sought c.args.names.now c.args.number (by_name c.into_iter-name-iterator.result)
    (ap by_name c.into_iter-name-iterator.ensures.into_iter_gives ∙ c.iter-name-items.ensures)

pub returns-then-file-number : goal.returns-then-file-number
returns-then-file-number c =
    let entry : List ℕ × ℕ = (c.in-Some.name.now.items, c.in-Some.file.now) in
    let steps : by_name c.loop-name.name-iterator ≡ entry ∷ by_name c.next.new.self =
    ap by_name c.in-Some.ensures.steps in
    subst (IsNameOf c.args.names.now c.args.number) (sym c.as_slice.ensures.value)
    (found c.args.names.now c.args.number entry (by_name c.next.new.self)
    (subst (IsSought c.args.names.now c.args.number) steps c.loop-name.invariant) c.requires
    c.if-file-number.true)

pub loop-name-preserved : goal.loop-name-preserved
loop-name-preserved c =
    let entry : List ℕ × ℕ = (c.in-Some.name.now.items, c.in-Some.file.now) in
    let steps : by_name c.loop-name.name-iterator ≡ entry ∷ by_name c.next.new.self =
    ap by_name c.in-Some.ensures.steps in
    passed c.args.names.now c.args.number entry (by_name c.next.new.self)
    (subst (IsSought c.args.names.now c.args.number) steps c.loop-name.invariant) c.if-file-number.false

pub returns : goal.returns
returns c =
    not_found c.args.names.now c.args.number
    (subst (IsSought c.args.names.now c.args.number) (ap by_name c.in-None.ensures.steps.0)
    c.loop-name.invariant)

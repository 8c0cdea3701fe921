use Rattle.std.proofs.Common.{◌≡◌, ℕ, ◌≤◌, ◌/◌, ◌%◌, ◌-◌, ◌^◌, [], length, sym, ap, subst, ◌∙◌, arith}
use Rattle.std.specs.Prelude.{None, is_some}
use Rattle.std.specs.Ordering.{nat_cmp}
use Rattle.std.specs.FinMap as map
use Rattle.plain_process.specs.declared.memory.Frame.{Frame}
use Rattle.plain_process.specs.Memory.{Memory}
use Rattle.guest_pages.specs.FrameTable.{Rows, frames_of, IsTable}
use Rattle.guest_pages.proofs.FrameTables.{frames-empty, get-in_row, row-within}
use Rattle.guest_pages.proofs.Ranges.{false_true}
use Rattle.guest_pages.proofs.OpenTables.{code-there, opened-taken, IsOpen-taken}
use Rattle.guest_pages.proofs.frame_table.FrameTable.open.Goals as goal

page-start : (a : ℕ) → (a - a % 4096) / 4096 ≡ a / 4096
page-start a = omega arith

aligned : (a : ℕ) → (a - a % 4096) % 4096 ≡ 0
aligned a = omega arith

pub index_mut-requires : goal.index_mut-requires
index_mut-requires c =
    let below = row-within c.self.inside.blocks.items c.args.self.now (c.args.address / 4096) c.self.view_is (code-there c.args.self.now (c.args.address / 4096) c.requires.code) in
    let ok = c.replace-blocks.result.ok in
    let same : length c.replace-blocks.result.items ≡ length c.self.inside.blocks.items = ap (λ v. length v.items) c.replace-blocks.ensures.value in
    omega (arith, below, same)

pub unreachable-requires : goal.unreachable-requires
unreachable-requires c =
    let rows = c.replace-blocks.result.items in
    let m = c.args.self.now in
    let k = c.args.address / 4096 in
    let seen : frames_of rows ≡ m = ap (λ v. frames_of v.items) c.replace-blocks.ensures.value ∙ c.self.view_is in
    let some = code-there m k c.requires.code in
    let missing : map.get m k ≡ None = get-in_row rows m k c.index_mut.result.now seen (row-within rows m k seen some) c.index_mut.ensures.value ∙ sym c.take.ensures.taken ∙ c.in_default.is in
    false_true (sym (ap is_some missing) ∙ some)

pub invariant_of-self : goal.invariant_of-self
invariant_of-self c =
    let none : c.replace-blocks.new.dest.items ≡ [] = ap (λ v. v.items) c.replace-blocks.ensures.after ∙ c.new.ensures.items in
    record {
      counted = c.replace-count.ensures.after ∙ sym (ap (λ (rows : Rows). map.len (frames_of rows)) none ∙ ap (λ (m : Memory). map.len m) frames-empty ∙ map.len-empty nat_cmp Frame);
      short = subst (λ (rows : Rows). length rows ≤ 2 ^ 22) (sym none) (omega arith);
    }

pub invariant_of-result : goal.invariant_of-result
invariant_of-result c =
    let rows = c.replace-blocks.result.items in
    let m = c.args.self.now in
    let a = c.args.address in
    let same : rows ≡ c.self.inside.blocks.items = ap (λ v. v.items) c.replace-blocks.ensures.value in
    let seen : frames_of rows ≡ m = ap frames_of same ∙ c.self.view_is in
    let table : IsTable rows c.replace-count.result = subst (λ (n : ℕ). IsTable rows n) (sym c.replace-count.ensures.value) (subst (λ (r : Rows). IsTable r c.self.inside.count) (sym same) c.self.invariant) in
    IsOpen-taken rows m (a / 4096) (a - a % 4096) c.replace-count.result c.index_mut.result.now c.take.new.self c.in-Some.code seen table c.requires.space c.requires.code (aligned a) (page-start a)
    (row-within rows m (a / 4096) seen (code-there m (a / 4096) c.requires.code)) c.index_mut.ensures.value (sym c.in-Some.is ∙ c.take.ensures.taken) c.take.ensures.left c.in-Some.ensures.place

pub returns-clause-all : goal.returns-clause-all
returns-clause-all c =
    let rows = c.replace-blocks.result.items in
    let m = c.args.self.now in
    let a = c.args.address in
    let seen : frames_of rows ≡ m = ap (λ v. frames_of v.items) c.replace-blocks.ensures.value ∙ c.self.view_is in
    opened-taken rows m (a / 4096) (a - a % 4096) c.index_mut.result.now c.take.new.self c.in-Some.code seen (page-start a)
    (row-within rows m (a / 4096) seen (code-there m (a / 4096) c.requires.code)) c.index_mut.ensures.value (sym c.in-Some.is ∙ c.take.ensures.taken) c.take.ensures.left

pub returns-clause-empty : goal.returns-clause-empty
returns-clause-empty c = ap frames_of (ap (λ v. v.items) c.replace-blocks.ensures.after ∙ c.new.ensures.items) ∙ frames-empty
